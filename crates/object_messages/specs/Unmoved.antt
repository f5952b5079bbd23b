-- Who was given nothing, or nothing but answers, says nothing to others: laws, each proved by a function of `laws`.
use Rattle.std.specs.Prelude.{◌≡◌, ℕ, ℤ, Bool, true, false, List, [], Option}
use Rattle.std.specs.List.{All}
use Rattle.timeline.specs.Intake.{IsIntake, Kind, Taken, delivered_in, downed_in, opened, sent_by}
use Rattle.timeline.specs.declared.event.Event.{Event}
use Rattle.timeline.specs.declared.event.Event.TheVariants as event
use Rattle.object_messages.specs.Laws.{events}
use Rattle.object_messages.specs.Naming.{messages_of}

-- Where no event was delivered, and no call answered by `Down`, no message was sent.
abbrev pub UnmovedSaysNothing : Type 0
UnmovedSaysNothing = (k : Kind) (alarm : Option (ℤ × ℕ)) (taken : List Taken) → IsIntake k (opened alarm) taken
    → delivered_in k (opened alarm) taken ≡ [] → downed_in k (opened alarm) taken ≡ [] → messages_of (sent_by k (opened alarm) taken) ≡ []

-- Each of these events is an answer to a call or a fetch.
abbrev pub is_answer : Event → Bool
is_answer (event.Answer incarnation number result at) = true
is_answer e = false

abbrev pub AreAnswers : List Event → Type 0
AreAnswers es = All (λ (e : Event). is_answer e ≡ true) es

-- So it is where all of them are answers: nothing was asked that they could answer.
abbrev pub AnswersMoveNothing : Type 0
AnswersMoveNothing = (k : Kind) (alarm : Option (ℤ × ℕ)) (taken : List Taken) → IsIntake k (opened alarm) taken
    → AreAnswers (events (delivered_in k (opened alarm) taken)) → AreAnswers (events (downed_in k (opened alarm) taken))
    → messages_of (sent_by k (opened alarm) taken) ≡ []
