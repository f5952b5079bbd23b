use Rattle.std.proofs.Common.{◌≡◌, drop, None}
use Rattle.script_mean.specs.Turn.{bound}
use Rattle.script_vars.specs.Seen.{env_of}
use Rattle.script_vars.proofs.vars.Vars.place_of.Given as goal

-- no block from this one on has the name
abbrev pub invariant-loop-block : goal.invariant-loop-block
invariant-loop-block l = bound l.name (env_of (drop l.block l.self-inside.blocks.items)) ≡ None
