use Rattle.std.specs.Prelude.{◌≡◌, ◌≤◌, length}
use Rattle.std.specs.List.{All}
use Rattle.worker_pool.specs.Making.{AreNewEnds}
use Rattle.worker_pool.proofs.making.make_all_ends.Given as goal

-- so many slots have their lanes, which are new
abbrev pub invariant-loop : goal.invariant-loop
invariant-loop g l = (length l.all.items ≡ l.counter) × All AreNewEnds l.all.items × (l.counter ≤ l.fn.slots)
