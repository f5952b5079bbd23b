-- The class of the task that a turn left.
use Rattle.std.specs.Prelude.{ℕ}
use Rattle.script_eval.specs.declared.outcome.Outcome.{Outcome}
use Rattle.script_eval.specs.declared.outcome.Outcome.TheVariants as outcome

-- The number of the class of the task that waits, and this number where none does.
abbrev pub class_or : ℕ → Outcome → ℕ
class_or class (outcome.Paused t bs a fs) = t.class
class_or class o = class
