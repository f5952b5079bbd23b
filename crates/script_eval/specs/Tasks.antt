-- What is promised of a task.
use Rattle.std.specs.Prelude.{◌≡◌, ℕ, Bool, List, [], ◌∷◌, Option, Some, None, slice_get}
use Rattle.do_value.specs.Seen.{tree_of}
use Rattle.do_tree.specs.Tree.{Class, Method, Script}
use Rattle.script_mean.specs.Frames.{Suspended, rest}
use Rattle.script_mean.specs.Task as task
use Rattle.script_mean.specs.Task.{Resume, Segment}
use Rattle.script_state.specs.Seen.{wait_of}
use Rattle.script_vars.specs.Seen.{env_of}
use Rattle.script_eval.specs.Machines.{frames_of, stop_turns}
use Rattle.script_eval.specs.declared.machine.Machine.{Machine}
use Rattle.script_eval.specs.declared.machine.Stop.{Stop}
use Rattle.script_eval.specs.declared.outcome.Outcome.{Outcome}
use Rattle.script_eval.specs.declared.outcome.Outcome.TheVariants as outcome
use Rattle.script_eval.specs.declared.task.Task.{Task}

-- The suspended task of the definition, with the class of its object.
abbrev pub suspended_of : Class → Task → Suspended
suspended_of class t = record {
  class = class;
  starts = t.starts;
  frames = frames_of t.frames;
  wait = wait_of t.wait t.transaction;
  env = env_of t.vars;
  held = record { awaits = t.awaits; calls = t.calls; transaction = t.transaction; block = t.block };
}

-- The number of a task's class, and whether its block is open.
abbrev pub class_in : Task → ℕ
class_in t = t.class

abbrev pub has_block : Task → Bool
has_block t = t.block

-- The turns that it still gives, one for each answer, with the class that the script has under its number.
abbrev pub rest_with : Option Class → Task → List Resume → List Segment
rest_with None t rs = []
rest_with (Some class) t rs = rest (suspended_of class t) rs

abbrev pub rest_in : Script → Task → List Resume → List Segment
rest_in script t rs = rest_with (slice_get script.classes (class_in t)) t rs

-- The turn that ended so.
abbrev pub segment_of : Outcome → Segment
segment_of (outcome.Paused t bs a fs) = task.asked bs.items fs a (has_block t)
segment_of (outcome.Done bs v fs) = task.done bs.items fs (tree_of v)
segment_of (outcome.Threw bs v fs reset) = task.threw bs.items fs (tree_of v) reset
segment_of (outcome.Exceeded bs) = task.exceeded bs.items

-- The turns after it: those of the task that waits, if it does.
abbrev pub later : Script → Outcome → List Resume → List Segment
later script (outcome.Paused t bs a fs) rs = rest_in script t rs
later script o rs = []

-- The task that waits, if it does, is of this class.
abbrev pub IsOfClass : ℕ → Outcome → Type 0
IsOfClass class (outcome.Paused t bs a fs) = class_in t ≡ class
IsOfClass class o = Unit {0}

-- The script has a class of this number,
abbrev pub HasClass : Script → ℕ → Type 0
HasClass script class = (c : Class) × (slice_get script.classes class ≡ Some c)

-- and it has a method of this number.
abbrev pub HasMethod : Script → ℕ → ℕ → Type 0
HasMethod script class method = (c : Class) × (m : Method) × (slice_get script.classes class ≡ Some c) × (slice_get c.methods method ≡ Some m)

-- A turn that stopped so gave this, whatever the answers to come.
pub record Gives (class : ℕ) (starts : Bool) (s : Stop) (m : Machine) (o : Outcome) : Type 0 where
  pub turns : (script : Script) (c : Class) (rs : List Resume) → slice_get script.classes class ≡ Some c
      → stop_turns c starts s m rs ≡ segment_of o ∷ later script o rs
  pub kept : IsOfClass class o
