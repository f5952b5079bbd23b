use Rattle.std.specs.Prelude.{◌≡◌, ◌≤◌, ◌+◌, drop}
use Rattle.do_host.specs.GenRuns.{replies_in}
use Rattle.do_host.proofs.generating.replies_in.Given as goal

-- the replies so far, and those among the lines that are left, are all
abbrev pub invariant-loop-line : goal.invariant-loop-line
invariant-loop-line l = record {
  all : l.replies + replies_in (drop l.line-index l.lines) ≡ replies_in l.lines;
  few : l.replies ≤ l.line-index;
}
