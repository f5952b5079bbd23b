use Rattle.object_messages.proofs.Leaving.{left_each}
use Rattle.object_messages.proofs.laws.left_is_each.Goals as goal

pub returns : goal.returns
returns c = left_each
