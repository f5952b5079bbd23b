-- What becomes of the calls and the fetches of objects. This project's profile.
use Rattle.std.specs.Prelude.{◌≡◌, ◌≤◌, ◌+◌, ℕ, List, length, map, Option}
use Rattle.std.specs.List.{filter}
use Rattle.do_tree.specs.Tree.{Script}
use Rattle.mailbox.specs.Posting.{of_slot}
use Rattle.object_messages.specs.Naming.{answered_in, asked_in, times, times_of}
use Rattle.timeline.specs.Finish.{is_fetch_of}
use Rattle.timeline.specs.Lines.{Identity}
use Rattle.timeline.specs.Switch.{OpenFetch, Switch, SwitchLog, opened}
use Rattle.timeline.specs.declared.caller.Caller.{Caller}
use Rattle.timeline.specs.declared.caller.Caller.TheVariants as from
use Rattle.timeline.specs.declared.notice.Waits.{Waits}
use Rattle.switch_history.specs.Answering.{AreOfSlots, AreServedOnce}
use Rattle.switch_history.specs.Fit.{IsFitRun}

-- The fetches of a slot's object that are open under these.
abbrev pub open_of : ℕ → ℕ × ℕ → List OpenFetch → ℕ
open_of slot asked fetches = length (filter (is_fetch_of slot asked.0 asked.1) fetches)

-- Whose calls are left.
abbrev pub who_waits : List (ℕ × Caller × Waits) → List Caller
who_waits left = map (λ (item : ℕ × Caller × Waits). item.1) left

-- A call or a fetch that was routed once from its slot got exactly one answer, or it is a call that is left, or a fetch that is open.
abbrev pub AreAsksAnswered : SwitchLog → Switch → List (ℕ × Caller × Waits) → Type 0
AreAsksAnswered log s left = (slot : ℕ) (asked : ℕ × ℕ) → times_of asked (asked_in (of_slot slot log.routed)) ≤ 1
    → times_of asked (answered_in (of_slot slot log.posts)) + times (from.Object slot asked.0 asked.1) (who_waits left) + open_of slot asked s.unanswered
    ≡ times_of asked (asked_in (of_slot slot log.routed))

-- So after a run whose messages are fit, where each slot's object served each who called it once.
abbrev pub AsksAreAnsweredOnce : Type 0
AsksAreAnsweredOnce = (script : Script) (named : List (Option Identity)) (log : SwitchLog) (s : Switch) (left : List (ℕ × Caller × Waits))
    → IsFitRun script (opened named) log s → AreOfSlots (length named) left → AreServedOnce (length named) log left → AreAsksAnswered log s left
