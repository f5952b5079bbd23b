use Rattle.std.proofs.Common.{◌≡◌, ℕ, List}
use Rattle.host_workers.specs.Lines.{HasCounted, IsLinesCell, IsNumbered}
use Rattle.host_workers.proofs.jobs.read_lines.Given as goal

-- what the cell is, it still is, with its lane
abbrev pub invariant-loop : goal.invariant-loop
invariant-loop g l = record {
  keeps : (whole : List ℕ) → IsLinesCell g.R.Source.left whole l.fn.cell → IsLinesCell g.R.Source.left whole l.cell;
  counts : (from : ℕ) → HasCounted g.R.Source.faults_of from l.fn.cell.lines → HasCounted g.R.Source.faults_of from l.cell.lines;
  lane : l.cell.send.lane ≡ l.fn.cell.send.lane;
  numbers : IsNumbered l.fn.cell → IsNumbered l.cell;
}
