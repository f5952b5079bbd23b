use Rattle.std.specs.Prelude.{◌≡◌, ◌+◌, ◌-◌, ◌++◌}
use Rattle.do_host.specs.Generator.{lines_behind, made_lines}
use Rattle.do_host.proofs.made_lines.made_lines.Given as goal

-- the lines so far, and those that are to come, are all
abbrev pub invariant-loop-line : goal.invariant-loop-line
invariant-loop-line l = l.bytes.items ++ lines_behind l.number (l.line + 1) (l.count - l.line) ≡ made_lines l.fn.seed l.fn.count
