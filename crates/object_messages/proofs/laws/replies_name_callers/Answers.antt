use Rattle.object_messages.proofs.FrontsWhose.{replies_name}
use Rattle.object_messages.proofs.laws.replies_name_callers.Goals as goal

pub returns : goal.returns
returns c = replies_name
