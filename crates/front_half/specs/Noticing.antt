-- What a notice of the storage gives to a task that waits for it, and where a notice leaves the front that takes it.
use Rattle.std.specs.Prelude.{ℕ, Bool, true, false, ◌&&◌, ◌==◌, if◌then◌else◌, Option, Some, None}
use Rattle.do_tree.specs.Tree.{Script}
use Rattle.do_value.specs.declared.value.Value.TheVariants as value
use Rattle.storage_map.specs.declared.answer.Reading.TheVariants as reading
use Rattle.script_mean.specs.Answers.{is_answer}
use Rattle.script_mean.specs.declared.answer.Answer.{Answer}
use Rattle.script_mean.specs.declared.answer.Answer.TheVariants as answer
use Rattle.timeline.specs.declared.notice.Notice.{Notice}
use Rattle.timeline.specs.declared.notice.Notice.TheVariants as notice
use Rattle.front_turns.specs.Paused.{Paused}
use Rattle.front_turns.specs.declared.object.Asked.{Asked}
use Rattle.front_turns.specs.declared.object.Asked.TheVariants as asked
use Rattle.front_turns.specs.declared.object.Object.{Object}
use Rattle.front_turns.specs.declared.object.Running.{Running}
use Rattle.front_turns.specs.declared.object.State.TheVariants.{Waiting}
use Rattle.front_half.specs.Moving.{Moves, Stops}
use Rattle.front_half.specs.Standing.{Stood, IsHalf}
use Rattle.front_half.specs.Taking.{Led, IsLedBy}
use Rattle.front_half.specs.declared.half.Half.{Half}
use Rattle.front_half.specs.declared.half.Mode.{Mode}
use Rattle.front_half.specs.declared.half.Mode.TheVariants.{Serves}

-- The answer that a notice brings to a task that asked so, where it is the one that is waited for: of the last of so many entries, and
-- of what was asked.
abbrev pub answer_to : ℕ → Asked → Notice → Option Answer
answer_to count (asked.Read ask) (notice.Read number r) = if (number == count) && is_answer ask r then Some (answer.Read r) else None
answer_to count asked.Taken (notice.Taken number deleted) = if number == count then Some (answer.Read (reading.Count deleted)) else None
answer_to count asked.Synced (notice.Synced number) = if number == count then Some (answer.Value value.Undefined) else None
answer_to count a n = None

-- The notice tells that an incarnation has ended.
abbrev pub is_end : Notice → Bool
is_end (notice.Fresh incarnation alarm cause) = true
is_end (notice.Down cause before after) = true
is_end n = false

-- The front, standing so.
abbrev pub in_mode : {T : Type 0} → Half T → Mode T → Half T
in_mode h mode = record h { mode = mode }

-- The front, one of whose tasks waits for the answer to what it asked.
abbrev pub in_wait : {T : Type 0} → Half T → Object T → Running → T → Asked → Half T
in_wait h object running task a = in_mode h (Serves (Waiting object running task a))

-- A front has taken a notice, and goes on; or memory was wanting, and it is stopped.
abbrev pub GoesOn : {T : Type 0} → (T → Paused) → Script → Half T → Half T → Notice → Type 0
GoesOn see script old new n = (st : Stood) → IsHalf see script old st → (led : Led) × IsLedBy script st n led × Moves see script old new led st

abbrev pub IsStoppedBy : {T : Type 0} → (T → Paused) → Script → Half T → Half T → Notice → Type 0
IsStoppedBy see script old new n = (st : Stood) → IsHalf see script old st → (led : Led) × IsLedBy script st n led × Stops script old new led st
