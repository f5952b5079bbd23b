use Rattle.object_messages.proofs.FrontsOwing.{replies_owed}
use Rattle.object_messages.proofs.laws.replies_are_owed.Goals as goal

pub returns : goal.returns
returns c = replies_owed
