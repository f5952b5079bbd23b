use Rattle.timeline.proofs.Refuting.{untold}
use Rattle.timeline.proofs.log_examples.untold_end_is_not_quiet.Goals as goal

pub returns : goal.returns
returns c = untold
