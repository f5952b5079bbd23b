use Rattle.placement.proofs.Places.{each_has_one, least_is_free, lower_has_one}
use Rattle.placement.proofs.laws.least_free_is_least.Goals as goal

pub returns : goal.returns
returns c = record { free = least_is_free; lower = lower_has_one; none = each_has_one }
