-- What a run of the switch shows: laws, each proved by a function of `laws`.
use Rattle.std.specs.Prelude.{◌≡◌, ◌⊎◌, ℕ, ℤ, true, false, List, [], length, Option, Some, None, Ok, Err}
use Rattle.std.specs.List.{Contains, list_any}
use Rattle.do_value.specs.declared.value.Value.{Value}
use Rattle.do_tree.specs.Lookup.{class_named}
use Rattle.do_tree.specs.Tree.{Script}
use Rattle.mailbox.specs.Posting.{of_slot}
use Rattle.object_front.specs.Came.{IsPartOf}
use Rattle.object_messages.specs.Naming.{answered_in, asked_in, called_in, replied_in}
use Rattle.timeline.specs.Lines.{Identity}
use Rattle.timeline.specs.Lines as line
use Rattle.timeline.specs.Replies.{same_caller}
use Rattle.timeline.specs.Switch.{IsSwitchRun, Switch, SwitchLog, is_known, object_at, opened}
use Rattle.timeline.specs.declared.caller.Caller.{Caller}
use Rattle.timeline.specs.declared.caller.Caller.TheVariants as from
use Rattle.timeline.specs.declared.caller.Failure.{Failure}
use Rattle.timeline.specs.declared.caller.Failure.TheVariants as failure
use Rattle.switch_history.specs.Posted.{AreFitFrom, AreNumberedFrom, calls_of, calls_to, fetches_in}

-- Each slot's messages reply to those alone who were posted to it.
abbrev pub AreRepliesOwed : SwitchLog → Type 0
AreRepliesOwed log = (slot : ℕ) (caller : Caller) → Contains (replied_in (of_slot slot log.routed)) caller
    → list_any (same_caller caller) (called_in (of_slot slot log.posts)) ≡ true

-- Then an answer is posted to the object that asked for it alone: for a call or a fetch that was routed from its slot.
abbrev pub AnswersAreAsked : Type 0
AnswersAreAsked = (script : Script) (named : List (Option Identity)) (log : SwitchLog) (s : Switch) → IsSwitchRun script (opened named) log s
    → AreRepliesOwed log → (slot : ℕ) (asked : ℕ × ℕ) → Contains (answered_in (of_slot slot log.posts)) asked
    → Contains (asked_in (of_slot slot log.routed)) asked

-- The calls of an object that are posted to another are some of those that were routed from it and name that one, once each and in order.
abbrev pub CallsComeInOrder : Type 0
CallsComeInOrder = (script : Script) (named : List (Option Identity)) (log : SwitchLog) (s : Switch) → IsSwitchRun script (opened named) log s
    → (slot other : ℕ) (object : Identity) → object_at s other ≡ Some object
    → IsPartOf (calls_of slot (called_in (of_slot other log.posts))) (calls_to object (of_slot slot log.routed))

-- A request is posted to the slot of the object that it names, or answered at once.
abbrev pub IsRefusal : Failure → Type 0
IsRefusal failure.NoClass = Unit {0}
IsRefusal failure.NoMethod = Unit {0}
IsRefusal (failure.NoSlot slots) = Unit {0}
IsRefusal other = ⊥

pub data IsAnswered (log : SwitchLog) (s : Switch) (at : ℕ) (number : ℤ) (to : Identity) : Type 0 where
  posted : (slot : ℕ) → object_at s slot ≡ Some to → Contains (called_in (of_slot slot log.posts)) (from.Request at number) → IsAnswered log s at number to
  refused : (f : Failure) → IsRefusal f → Contains log.lines (line.error number f) → IsAnswered log s at number to

abbrev pub RequestsAreAnswered : Type 0
RequestsAreAnswered = (script : Script) (named : List (Option Identity)) (log : SwitchLog) (s : Switch) → IsSwitchRun script (opened named) log s
    → (at : ℕ) (number : ℤ) (to : Identity) (method : List ℕ) (args : List Value)
    → Contains log.accepted (record { number = at; body = Ok (line.calls number to method args) }) → IsAnswered log s at number to

-- Fetches are numbered 1, 2, 3 and on.
abbrev pub FetchesAreNumbered : Type 0
FetchesAreNumbered = (script : Script) (named : List (Option Identity)) (log : SwitchLog) (s : Switch) → IsSwitchRun script (opened named) log s
    → AreNumberedFrom 0 (fetches_in log.lines)

-- The class of a slot's object, where the script has it.
abbrev pub class_in : Script → Option Identity → Option ℕ
class_in script None = None
class_in script (Some object) = class_named script object.0

-- A slot whose object is of no class of the script is posted no answer, as where it routes nothing.
abbrev pub NoAnswerWithoutClass : Script → List (Option Identity) → SwitchLog → ℕ → Type 0
NoAnswerWithoutClass script named log slot = (object : Identity) → object_at (opened named) slot ≡ Some object → is_known script object ≡ false
    → answered_in (of_slot slot log.posts) ≡ []

-- What is posted to a slot fits its object: it is bound where it has none, once and before all else, and then called by methods that its
-- class has for callers.
abbrev pub PostsFit : Type 0
PostsFit = (script : Script) (named : List (Option Identity)) (log : SwitchLog) (s : Switch) → IsSwitchRun script (opened named) log s
    → (slot : ℕ) → NoAnswerWithoutClass script named log slot
    → AreFitFrom script (class_in script (object_at (opened named) slot)) (of_slot slot log.posts)
