use Rattle.switch_history.proofs.Moments.{moments_in_range}
use Rattle.switch_history.proofs.laws.moments_are_in_range.Goals as goal

pub returns : goal.returns
returns c = moments_in_range
