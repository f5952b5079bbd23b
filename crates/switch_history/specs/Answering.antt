-- Which lines answer the calls of a run, and which calls are left without an answer. This project's profile.
use Rattle.std.specs.Prelude.{◌≡◌, ◌<◌, ◌+◌, ℕ, ℤ, Bool, List, [], ◌∷◌, length, map, Option, Result, Ok}
use Rattle.std.specs.List.{All, AllByRecursion, filter, flat_map}
use Rattle.do_tree.specs.Tree.{Script}
use Rattle.mailbox.specs.Posting.{of_slot}
use Rattle.object_messages.specs.Exact.{IsServedOnce, callers}
use Rattle.object_messages.specs.Naming.{called_in, replied_in}
use Rattle.timeline.specs.Lines.{Identity, Line, OutLine, Request}
use Rattle.timeline.specs.Lines as line
use Rattle.timeline.specs.Switch.{Switch, SwitchLog, opened}
use Rattle.timeline.specs.declared.caller.Caller.{Caller}
use Rattle.timeline.specs.declared.caller.Caller.TheVariants as from
use Rattle.timeline.specs.declared.notice.Waits.{Waits}
use Rattle.switch_history.specs.Fit.{IsFitRun}

-- The calls that lines answer, and those for which they wait, by the numbers that their senders gave them.
abbrev pub answer_in : OutLine → List ℤ
answer_in (line.reply number value) = number ∷ []
answer_in (line.error number f) = number ∷ []
answer_in _ = []

abbrev pub answers_in : List OutLine → List ℤ
answers_in lines = flat_map answer_in lines

abbrev pub wait_in : OutLine → List ℤ
wait_in (line.waiting number on) = number ∷ []
wait_in _ = []

abbrev pub waits_in : List OutLine → List ℤ
waits_in lines = flat_map wait_in lines

-- The calls that accepted lines make.
abbrev pub call_in : Result Request ℕ → List ℤ
call_in (Ok (line.calls number to method args)) = number ∷ []
call_in _ = []

abbrev pub calls_in : List Line → List ℤ
calls_in lines = flat_map (λ (l : Line). call_in l.body) lines

-- The requests among the calls that are left.
abbrev pub request_of : Caller → List ℤ
request_of (from.Request line number) = number ∷ []
request_of (from.Object slot incarnation number) = []

abbrev pub requests_left : List (ℕ × Caller × Waits) → List ℤ
requests_left left = flat_map (λ (item : ℕ × Caller × Waits). request_of item.1) left

-- How many of some numbers count.
abbrev pub many : (ℤ → Bool) → List ℤ → ℕ
many counts numbers = length (filter counts numbers)

-- Each accepted call has exactly one line that replies to it or gives its error, or it is left, once: whichever numbers count, as many calls
-- of these are accepted as are answered or left.
abbrev pub AreAnsweredOrLeft : List Line → List OutLine → List (ℕ × Caller × Waits) → Type 0
AreAnsweredOrLeft accepted lines left = (counts : ℤ → Bool)
    → many counts (answers_in lines) + many counts (requests_left left) ≡ many counts (calls_in accepted)

-- Accepted lines stand in the order of their numbers, each of which is one line's.
abbrev pub AreInOrder : List Line → Type 0
AreInOrder [] = Unit {0}
AreInOrder (l ∷ lines) = AllByRecursion (λ (m : Line). l.number < m.number) lines × AreInOrder lines

-- What is left of a slot, in order.
abbrev pub left_of_slot : ℕ → List (ℕ × Caller × Waits) → List (Caller × Waits)
left_of_slot slot left = of_slot slot (map (λ (item : ℕ × Caller × Waits). (item.0, (item.1, item.2))) left)

-- Each slot's object served so.
abbrev pub AreServedOnce : (slots : ℕ) → SwitchLog → List (ℕ × Caller × Waits) → Type 0
AreServedOnce slots log left = (slot : ℕ) → slot < slots
    → IsServedOnce (called_in (of_slot slot log.posts)) (replied_in (of_slot slot log.routed)) (callers (left_of_slot slot left))

-- All that is left is of slots that are there.
abbrev pub AreOfSlots : (slots : ℕ) → List (ℕ × Caller × Waits) → Type 0
AreOfSlots slots left = All (λ (item : ℕ × Caller × Waits). item.0 < slots) left

-- Then each accepted call has one line, or is left.
abbrev pub CallsAreAnsweredOnce : Type 0
CallsAreAnsweredOnce = (script : Script) (named : List (Option Identity)) (log : SwitchLog) (s : Switch) (left : List (ℕ × Caller × Waits))
    → IsFitRun script (opened named) log s → AreInOrder log.accepted → AreOfSlots (length named) left → AreServedOnce (length named) log left
    → AreAnsweredOrLeft log.accepted log.lines left
