-- What a turn of the evaluator is in the meaning of scripts.
use Rattle.std.specs.Prelude.{◌≡◌, ℕ, List, []}
use Rattle.do_value.specs.Seen.{tree_of}
use Rattle.do_tree.specs.Tree.{Script}
use Rattle.script_mean.specs.Task as task
use Rattle.script_mean.specs.Task.{Resume, Segment}
use Rattle.front_turns.specs.Paused.{Paused}
use Rattle.front_turns.specs.declared.outcome.Outcome.{Outcome}
use Rattle.front_turns.specs.declared.outcome.Outcome.TheVariants as outcome

-- The turn that ended so.
abbrev pub segment_of : {T : Type 0} → (T → Paused) → Outcome T → Segment
segment_of seen (outcome.Paused t bs a fs) = task.asked bs.items fs a (seen t).block
segment_of seen (outcome.Done bs v fs) = task.done bs.items fs (tree_of v)
segment_of seen (outcome.Threw bs v fs reset) = task.threw bs.items fs (tree_of v) reset
segment_of seen (outcome.Exceeded bs) = task.exceeded bs.items

-- The turns after it: those of the task that waits, if it does.
abbrev pub later : {T : Type 0} → (T → Paused) → Script → Outcome T → List Resume → List Segment
later seen script (outcome.Paused t bs a fs) rs = (seen t).rest script rs
later seen script o rs = []

-- The task that waits, if it does, is of this class.
abbrev pub IsOfClass : {T : Type 0} → (T → Paused) → ℕ → Outcome T → Type 0
IsOfClass seen class (outcome.Paused t bs a fs) = (seen t).class ≡ class
IsOfClass seen class o = Unit {0}
