use Rattle.timeline.proofs.Refuting.{halted}
use Rattle.timeline.proofs.log_examples.halt_without_turn_is_refuted.Goals as goal

pub returns : goal.returns
returns c = halted
