use Rattle.timeline.proofs.Refuting.{broken}
use Rattle.timeline.proofs.log_examples.end_without_halt_is_refuted.Goals as goal

pub returns : goal.returns
returns c = broken
