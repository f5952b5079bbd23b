-- What an object's messages name: laws, each proved by a function of `laws`.
use Rattle.std.specs.Prelude.{◌≡◌, ◌≤◌, ◌<◌, ◌⊎◌, ℕ, ℤ, Bool, true, false, List, [], ◌∷◌, ◌++◌, map, Option}
use Rattle.std.specs.List.{All, Contains}
use Rattle.timeline.specs.Eligible.{is_early}
use Rattle.timeline.specs.History.{history}
use Rattle.timeline.specs.Intake.{Front, IsIntake, Kind, Mode, Taken, delivered_in, down, downed_in, front_after, opened, sent_by, serves}
use Rattle.timeline.specs.Logs.{Backed, Fronted}
use Rattle.timeline.specs.Object.{ended, idle, waiting}
use Rattle.timeline.specs.Passed.{Passed, passed}
use Rattle.timeline.specs.declared.caller.Caller.{Caller}
use Rattle.timeline.specs.declared.event.Event.{Event}
use Rattle.timeline.specs.declared.message.Message.{Message}
use Rattle.object_messages.specs.Naming.{answered_by, asked_in, called_in, messages_of, replied_in, times, times_of}

-- Where a front stands so, its incarnation has given these numbers.
abbrev pub IsGivenIn : Mode → ℕ → Type 0
IsGivenIn (serves (idle o)) number = (1 ≤ number) × (number ≤ o.made)
IsGivenIn (serves (waiting o t b)) number = (1 ≤ number) × (number ≤ o.made)
IsGivenIn (serves (ended cause)) number = 1 ≤ number
IsGivenIn (down call) number = ⊥

abbrev pub IsGiven : Front → ℕ × ℕ → Type 0
IsGiven f (incarnation, number) = (incarnation < f.incarnation) ⊎ ((incarnation ≡ f.incarnation) × IsGivenIn f.mode number)

-- Each call and fetch that was sent has a number that was given.
abbrev pub NumbersAreGiven : Type 0
NumbersAreGiven = (k : Kind) (alarm : Option (ℤ × ℕ)) (taken : List Taken) → IsIntake k (opened alarm) taken
    → All (IsGiven (front_after k (opened alarm) taken)) (asked_in (messages_of (sent_by k (opened alarm) taken)))

-- Numbers ascend, those of an incarnation behind those of the ones before it.
abbrev pub IsBelow : (ℕ × ℕ) → (ℕ × ℕ) → Type 0
IsBelow (incarnation, number) (later, other) = (incarnation < later) ⊎ ((incarnation ≡ later) × (number < other))

abbrev pub AreAscending : List (ℕ × ℕ) → Type 0
AreAscending [] = Unit {0}
AreAscending (first ∷ rest) = All (IsBelow first) rest × AreAscending rest

abbrev pub NumbersAscend : Type 0
NumbersAscend = (k : Kind) (alarm : Option (ℤ × ℕ)) (taken : List Taken) → IsIntake k (opened alarm) taken
    → AreAscending (asked_in (messages_of (sent_by k (opened alarm) taken)))

-- The answer names what an object that takes events hasn't given out yet.
abbrev pub early_in : ℕ → Mode → Event → Bool
early_in now (serves (idle o)) e = is_early now o.made e
early_in now (serves state) e = false
early_in now (down call) e = is_early now 0 e

-- An answer that comes too early answers nothing that was sent.
abbrev pub EarlyIsUnasked : Type 0
EarlyIsUnasked = (k : Kind) (alarm : Option (ℤ × ℕ)) (taken : List Taken) (e : Event) → IsIntake k (opened alarm) taken
    → early_in (front_after k (opened alarm) taken).incarnation (front_after k (opened alarm) taken).mode e ≡ true
    → All (λ (asked : ℕ × ℕ). Contains (asked_in (messages_of (sent_by k (opened alarm) taken))) asked → ⊥) (answered_by e)

-- The events of a log that names their incarnations.
abbrev pub events : List (ℕ × Event) → List Event
events items = map (λ (item : ℕ × Event). item.1) items

-- Nobody gets more replies than he made calls, of those that were delivered or answered by `Down`.
abbrev pub RepliesAreOwed : Type 0
RepliesAreOwed = (k : Kind) (alarm : Option (ℤ × ℕ)) (taken : List Taken) → IsIntake k (opened alarm) taken → (from : Caller)
    → times from (replied_in (messages_of (sent_by k (opened alarm) taken)))
    ≤ times from (called_in (events (delivered_in k (opened alarm) taken) ++ events (downed_in k (opened alarm) taken)))

-- What passes: the messages alone.
abbrev pub gone : List Passed → List Message
gone items = map (λ (p : Passed). p.message) items

-- The calls and fetches that pass are some that were taken, none oftener than it was; and nobody gets more replies by them than were taken
-- for him.
abbrev pub PassedIsTaken : Type 0
PassedIsTaken = (front : Fronted) (back : Backed)
    → ((asked : ℕ × ℕ) → Contains (asked_in (gone (passed (history front back)))) asked → Contains (asked_in (messages_of back.taken)) asked)
    × ((from : Caller) → times from (replied_in (gone (passed (history front back)))) ≤ times from (replied_in (messages_of back.taken)))
    × ((asked : ℕ × ℕ) → times_of asked (asked_in (gone (passed (history front back)))) ≤ times_of asked (asked_in (messages_of back.taken)))
