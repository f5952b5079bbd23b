use Rattle.object_messages.proofs.Unmoved.{answers_move_nothing}
use Rattle.object_messages.proofs.laws.answers_move_nothing.Goals as goal

pub returns : goal.returns
returns c = answers_move_nothing
