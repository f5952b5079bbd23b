use Rattle.object_messages.proofs.FrontsSound.{ends_needed}
use Rattle.object_messages.proofs.laws.ends_are_needed.Goals as goal

pub returns : goal.returns
returns c = ends_needed
