use Rattle.timeline.proofs.Refuting.{twice}
use Rattle.timeline.proofs.log_examples.end_behind_an_end_is_refuted.Goals as goal

pub returns : goal.returns
returns c = twice
