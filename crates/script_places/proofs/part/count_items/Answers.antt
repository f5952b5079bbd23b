use Rattle.std.proofs.Common.{arith}
use Rattle.script_ops.proofs.Parts.{count_le}
use Rattle.script_places.proofs.part.count_items.Goals as goal

pub count-requires : goal.count-requires
count-requires c = omega (arith, count_le _ _ c.as_slice.ensures.values c.as_slice.ensures.within)
