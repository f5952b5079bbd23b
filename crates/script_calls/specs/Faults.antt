-- What faults throw.
use Rattle.std.specs.Prelude.{◌≡◌}
use Rattle.do_value.specs.Seen.{tree_of}
use Rattle.script_mean.specs.Answers.{threw}
use Rattle.script_ops.specs.declared.fault.OpFault.{OpFault}
use Rattle.script_ops.specs.declared.fault.OpFault.TheVariants.{Throw, NoMemory}
use Rattle.script_steps.specs.Seen.{outcome_of}
use Rattle.script_steps.specs.declared.focus.Outcome.{Outcome}

-- The outcome throws the fault's error. Where there is no memory there is no outcome.
abbrev pub IsThrown : OpFault → Outcome → Type 0
IsThrown (Throw v) o = outcome_of o ≡ threw (tree_of v)
IsThrown NoMemory o = ⊥
