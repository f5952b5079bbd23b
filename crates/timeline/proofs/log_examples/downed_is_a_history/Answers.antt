use Rattle.timeline.proofs.Refuting.{is_down}
use Rattle.timeline.proofs.log_examples.downed_is_a_history.Goals as goal

pub returns : goal.returns
returns c = is_down
