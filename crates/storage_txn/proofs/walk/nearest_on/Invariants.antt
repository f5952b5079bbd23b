use Rattle.std.proofs.Common.{◌≡◌, None, drop}
use Rattle.std.specs.Prelude.{option_map}
use Rattle.storage_txn.specs.Ahead.{nearest_on}
use Rattle.storage_txn.proofs.walk.nearest_on.Given as goal

-- the nearest of what was found and the keys of the operations that are left is that of all
abbrev pub invariant-loop-op : goal.invariant-loop-op
invariant-loop-op l =
    nearest_on l.reverse (option_map (λ key. key.now) l.last) (option_map (λ key. key.now) l.found) (drop l.op-index l.ops)
    ≡ nearest_on l.reverse (option_map (λ key. key.now) l.fn.last) None l.ops
