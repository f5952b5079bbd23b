-- What a fetch is at which an idle object leaves a call: laws, each proved by a function of `laws`.
use Rattle.std.specs.Prelude.{◌≡◌, ℕ, ℤ, suc, List, ◌++◌, length, Option}
use Rattle.std.specs.List.{All, Contains, flat_map}
use Rattle.timeline.specs.History.{entries_of, history}
use Rattle.timeline.specs.Intake.{IsIntake, Kind, Taken, delivered_in, front_after, life, opened, serves}
use Rattle.timeline.specs.Left.{left}
use Rattle.timeline.specs.Logs.{Backed, Fronted}
use Rattle.timeline.specs.Object.{Object, idle}
use Rattle.timeline.specs.Passed.{passed}
use Rattle.timeline.specs.declared.caller.Caller.{Caller}
use Rattle.timeline.specs.declared.entry.Body.{Body}
use Rattle.timeline.specs.declared.event.Event.{Event}
use Rattle.timeline.specs.declared.message.Message.{Message}
use Rattle.timeline.specs.declared.notice.Waits.TheVariants as waits
use Rattle.object_messages.specs.Laws.{gone}
use Rattle.object_messages.specs.Naming.{answered_by, answered_in, fetched_in, message_of, messages_of}

-- The messages among what an incarnation has said.
abbrev pub sent_in : List Body → List Message
sent_in bodies = flat_map message_of bodies

-- A fetch of this incarnation, which was said, and which no event answers that was delivered or is deferred.
pub record IsOpenFetch (now : ℕ) (events : List Event) (said : List Body) (deferred : List Event) (asked : ℕ × ℕ) : Type 0 where
  pub own : asked.0 ≡ now
  pub fetched : Contains (fetched_in (sent_in said)) asked
  pub unanswered : Contains (answered_in events) asked → ⊥
  pub undeferred : Contains (answered_in deferred) asked → ⊥

-- Where an idle object leaves a call at a fetch, that one is open.
abbrev pub LeftFetchesAreOpen : Type 0
LeftFetchesAreOpen = (k : Kind) (alarm : Option (ℤ × ℕ)) (taken : List Taken) (o : Object) (deferred : List Event) → IsIntake k (opened alarm) taken
    → let f = front_after k (opened alarm) taken in f.mode ≡ serves (idle o) → (from : Caller) (incarnation number : ℕ)
    → Contains (left (life k f.incarnation) o f.events f.said deferred) (from, waits.Fetch incarnation number)
    → IsOpenFetch f.incarnation f.events f.said deferred (incarnation, number)

-- An answer is delivered to the incarnation that it names.
abbrev pub AnswersAreOwn : Type 0
AnswersAreOwn = (k : Kind) (alarm : Option (ℤ × ℕ)) (taken : List Taken) → IsIntake k (opened alarm) taken
    → All (λ (item : ℕ × Event). All (λ (asked : ℕ × ℕ). asked.0 ≡ item.0) (answered_by item.1)) (delivered_in k (opened alarm) taken)

-- What passes ends with all that was taken of the newest incarnation.
abbrev pub NewestPassesWhole : Type 0
NewestPassesWhole = (front : Fronted) (back : Backed)
    → (older : List Message) × (gone (passed (history front back)) ≡ older ++ messages_of (entries_of (suc (length back.stops)) back.taken))
