use Rattle.std.proofs.Common.{ℕ, ℤ, Option}
use Rattle.host_workers.specs.Fronts.{IsFrontCell, KeepsFrontCell, SameLanes}
use Rattle.host_workers.proofs.jobs.make_turns.Given as goal

-- the front is one, by the same lanes
abbrev pub invariant-loop : goal.invariant-loop
invariant-loop g l = record {
  can : (first : Option ℕ) × (alarm : Option (ℤ × ℕ)) × IsFrontCell first alarm l.cell;
  lanes : SameLanes l.fn.cell l.cell;
  keeps : KeepsFrontCell l.fn.cell l.cell;
}
