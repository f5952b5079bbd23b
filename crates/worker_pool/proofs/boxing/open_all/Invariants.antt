use Rattle.std.proofs.Common.{◌≡◌, ◌≤◌, ◌+◌, ◌++◌, reverse, vec_len}
use Rattle.std.specs.Vec.{vec_capacity}
use Rattle.worker_pool.proofs.boxing.open_all.Given as goal

-- those that are still boxed stand behind the others, and there is room for them
abbrev pub invariant-loop-halves : goal.invariant-loop-halves
invariant-loop-halves g l =
    (l.all.items ++ reverse l.boxed.items ≡ l.fn.slots.items ++ reverse l.fn.boxed.items) × (vec_len l.all + vec_len l.boxed ≤ vec_capacity l.all)

abbrev pub decreases-loop-halves : goal.decreases-loop-halves
decreases-loop-halves g l = goal.left-loop-halves g l
