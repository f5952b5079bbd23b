use Rattle.std.proofs.Common.{◌≢◌, ◌≤◌, ◌<◌, None, nat_eq, ℕ}
use Rattle.indexmap.specs.IndexMap.{get}
use Rattle.placement.proofs.directory.first_without.Given as goal

-- each slot so far has an object
abbrev pub invariant-loop-slot : goal.invariant-loop-slot
invariant-loop-slot l = (other : ℕ) → l.from ≤ other → other < l.slot-counter → get nat_eq l.objects other ≢ None
