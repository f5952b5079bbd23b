use Rattle.placement.proofs.Places.{one_each_after, one_each_with}
use Rattle.placement.proofs.laws.one_each_stays.Goals as goal

pub returns : goal.returns
returns c = record { placed = one_each_after; adopted = one_each_with }
