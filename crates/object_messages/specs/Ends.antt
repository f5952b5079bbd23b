-- Which messages tell of an end, and that none does where nothing has ended: laws, each proved by a function of `laws`.
use Rattle.std.specs.Prelude.{◌≡◌, ℕ, ℤ, Bool, true, false, List, [], Option, Result, Ok, Err}
use Rattle.std.specs.List.{All}
use Rattle.do_value.specs.declared.value.Value.{Value}
use Rattle.timeline.specs.History.{history}
use Rattle.timeline.specs.Intake.{IsIntake, Kind, Taken, ends_in, opened, sent_by}
use Rattle.timeline.specs.Logs.{Backed, Fronted}
use Rattle.timeline.specs.Passed.{passed}
use Rattle.timeline.specs.declared.caller.Failure.{Failure}
use Rattle.timeline.specs.declared.caller.Failure.TheVariants as failure
use Rattle.timeline.specs.declared.message.Message.{Message}
use Rattle.timeline.specs.declared.message.Message.TheVariants as message
use Rattle.object_messages.specs.Laws.{gone}
use Rattle.object_messages.specs.Naming.{messages_of}

-- The failures that come of an end: of the incarnation that was called, or of the mounting that was to follow it.
abbrev pub is_of_end : Failure → Bool
is_of_end (failure.Reset cause) = true
is_of_end (failure.Down before after) = true
is_of_end other = false

abbrev pub is_failed_by_end : Result Value Failure → Bool
is_failed_by_end (Ok value) = false
is_failed_by_end (Err f) = is_of_end f

abbrev pub tells_end : Message → Bool
tells_end (message.Reply to result) = is_failed_by_end result
tells_end other = false

-- No message tells of an end.
abbrev pub TellNoEnd : List Message → Type 0
TellNoEnd messages = All (λ (m : Message). tells_end m ≡ false) messages

-- Where no incarnation has ended, nothing that was sent tells of an end.
abbrev pub EndsAreNeeded : Type 0
EndsAreNeeded = (k : Kind) (alarm : Option (ℤ × ℕ)) (taken : List Taken) → IsIntake k (opened alarm) taken → ends_in k (opened alarm) taken ≡ []
    → TellNoEnd (messages_of (sent_by k (opened alarm) taken))

-- Where none stopped at the back, what passes is what was taken.
abbrev pub UnendedPassAsTaken : Type 0
UnendedPassAsTaken = (front : Fronted) (back : Backed) → back.stops ≡ [] → TellNoEnd (messages_of back.taken) → TellNoEnd (gone (passed (history front back)))
