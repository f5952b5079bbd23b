use Rattle.timeline.proofs.Refuting.{gone}
use Rattle.timeline.proofs.log_examples.forgotten_write_is_refuted.Goals as goal

pub returns : goal.returns
returns c = gone
