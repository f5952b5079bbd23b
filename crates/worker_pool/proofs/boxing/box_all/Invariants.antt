use Rattle.std.proofs.Common.{◌≡◌, ◌≤◌, ◌+◌, ◌++◌, reverse, vec_len}
use Rattle.std.specs.Vec.{vec_capacity}
use Rattle.worker_pool.proofs.boxing.box_all.Given as goal

-- those that are boxed stand behind the others, from the last on, and there is room for all on either side
abbrev pub invariant-loop-halves : goal.invariant-loop-halves
invariant-loop-halves g l =
    (l.slots.items ++ reverse l.boxed.items ≡ l.fn.slots.items) × (vec_len l.slots + vec_len l.boxed ≤ vec_capacity l.slots)
    × (vec_len l.slots + vec_len l.boxed ≤ vec_capacity l.boxed)

abbrev pub decreases-loop-halves : goal.decreases-loop-halves
decreases-loop-halves g l = vec_len l.slots
