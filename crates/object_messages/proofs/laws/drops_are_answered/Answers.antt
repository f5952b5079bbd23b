use Rattle.object_messages.proofs.Dropped.{drops_answered}
use Rattle.object_messages.proofs.laws.drops_are_answered.Goals as goal

pub returns : goal.returns
returns c = drops_answered
