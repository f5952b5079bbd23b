use Rattle.std.proofs.Common.{◌≡◌, drop, None}
use Rattle.script_mean.specs.Turn.{bound_in}
use Rattle.script_vars.specs.Seen.{scope_of}
use Rattle.script_vars.proofs.block.Block.place_of.Given as goal

-- no name from the place on is this one
abbrev pub invariant-loop-place : goal.invariant-loop-place
invariant-loop-place l = bound_in l.name (scope_of (drop l.place l.self-inside.names.items)) ≡ None
