-- What an object says to the events that are delivered to it: each is run to its end or to a call or a fetch, and a storage
-- await is answered at once by the map as it then is. Source: the article on input and output gates.
use Rattle.std.specs.Prelude.{ℕ, zero, suc, ◌*◌, ◌-◌, Bool, List, [], ◌∷◌, ◌++◌, length, take, drop, Option, Some, None}
use Rattle.std.specs.List.{flat_map}
use Rattle.do_value.specs.declared.value.Value.TheVariants as value
use Rattle.storage_map.specs.Contents.{Contents, apply, removed}
use Rattle.storage_map.specs.Readings.{reading}
use Rattle.storage_map.specs.declared.answer.Reading.TheVariants.{Count}
use Rattle.storage_map.specs.declared.op.Op.{Op}
use Rattle.script_mean.specs.declared.answer.Answer.{Answer}
use Rattle.script_mean.specs.declared.answer.Answer.TheVariants as answer
use Rattle.script_mean.specs.Limits.{most_storage_awaits}
use Rattle.timeline.specs.Object.{Life, Object, OpenTask, begun, State, idle, waiting}
use Rattle.timeline.specs.Steps.{delivers, answers}
use Rattle.timeline.specs.declared.entry.Body.{Body}
use Rattle.timeline.specs.declared.entry.Body.TheVariants as body
use Rattle.timeline.specs.declared.entry.Entry.{Entry}
use Rattle.timeline.specs.declared.event.Event.{Event}
use Rattle.timeline.specs.declared.message.Message.{Message}

-- One thing that an object says to others or writes: a batch, as its operations, confirmed or not; or a message.
pub data Said : Type 0 where
  batch : List Op → (confirmed : Bool) → Said
  message : Message → Said

abbrev pub said_by : Body → List Said
said_by (body.Batch ops tail confirmed) = batch ops confirmed ∷ []
said_by (body.Message sent) = message sent ∷ []
said_by (body.Bind identity) = []
said_by (body.Ask ask free) = []
said_by body.Sync = []
said_by (body.Halt cause) = []
said_by body.Mend = []

-- The batches and messages among what was said, in order.
abbrev pub spoken_in : List Body → List Said
spoken_in bodies = flat_map said_by bodies

abbrev pub spoken : List Entry → List Said
spoken entries = flat_map (λ entry. said_by entry.body) entries

abbrev pub batches_of : List Said → List (List Op)
batches_of [] = []
batches_of (batch ops confirmed ∷ said) = ops ∷ batches_of said
batches_of (message sent ∷ said) = batches_of said

-- The map after what was said.
abbrev pub written_by : Contents → Body → Contents
written_by m (body.Batch ops tail confirmed) = apply m ops
written_by m _ = m

abbrev pub written : Contents → List Body → Contents
written m [] = m
written m (b ∷ bodies) = written (written_by m b) bodies

-- What the storage answers to an entry: a reading; of a batch, how many of its last operations deleted a key that was there; or
-- that all is durable.
abbrev pub counted : Contents → List Op → ℕ → ℕ
counted m ops tail = let first = length ops - tail in removed (apply m (take first ops)) (drop first ops)

abbrev pub stored_answer : Contents → Body → Answer
stored_answer m (body.Ask ask free) = answer.Read (reading m ask)
stored_answer m (body.Batch ops (Some tail) confirmed) = answer.Read (Count (counted m ops tail))
stored_answer m _ = answer.Value value.Undefined

-- How a storage that stands so answers: what it is after what was said; its answer to an entry that is waited for, with what it is
-- then, where it has answered; and that it gives no more answers than these to one event.
pub record Storage (S : Type 0) : Type 0 where
  pub wrote : S → List Body → S
  pub answered : S → Body → Option (Answer × S)
  pub most : S → ℕ

-- A task makes no more storage awaits than its limit, and an event runs a constructor and one task at most.
unfoldable pub most_waits : ℕ
most_waits = 2 * most_storage_awaits

-- The map answers at once.
abbrev pub by_map : Storage Contents
by_map = record { wrote = written; answered = λ m b. Some (stored_answer m b, written_by m b); most = λ m. most_waits }

-- These answers come one after another, as notices do.
abbrev pub next_of : List Answer → Option (Answer × List Answer)
next_of [] = None
next_of (a ∷ rest) = Some (a, rest)

abbrev pub by_answers : Storage (List Answer)
by_answers = record { wrote = λ rest says. rest; answered = λ rest b. next_of rest; most = λ rest. length rest }

-- What an object says from here on, and where it leaves the object and its storage. An entry that is waited for isn't in it yet.
pub record Run (S : Type 0) : Type 0 where
  pub says : List Body
  pub state : State
  pub storage : S

abbrev pub stands : {S : Type 0} → S → State → Run S
stands s state = record { says = []; state = state; storage = s }

abbrev pub after_saying : {S : Type 0} → List Body → Run S → Run S
after_saying bodies r = record { says = bodies ++ r.says; state = r.state; storage = r.storage }

-- A storage wait goes on with its answer, where there is one.
abbrev pub answered_with : {S : Type 0} → Storage S → (S → State → Run S) → Life → Object → OpenTask → Body → S → Option (Answer × S) → Run S
answered_with by again l o t b s None = stands s (waiting o t b)
answered_with by again l o t b s (Some a) =
    let step = answers l o t a.0 in after_saying (b ∷ step.says) (again (by.wrote a.1 step.says) step.state)

abbrev pub through : {S : Type 0} → Storage S → (S → State → Run S) → Life → S → State → Run S
through by again l s (waiting o t b) = answered_with by again l o t b s (by.answered s b)
through by again l s state = stands s state

-- The storage waits are answered one after another, so many at most.
abbrev pub settles : {S : Type 0} → Storage S → ℕ → Life → S → State → Run S
settles by zero l s state = stands s state
settles by (suc n) l s state = through by (λ later next. settles by n l later next) l s state

abbrev pub settled : {S : Type 0} → Storage S → Life → S → State → Run S
settled by l s state = settles by (by.most s) l s state

-- One event: it is delivered to an idle object, and runs to its end, or to a storage wait that isn't answered. None is delivered
-- while the storage is waited for, or where the incarnation has ended.
abbrev pub event_step : {S : Type 0} → Storage S → Life → S → State → Event → Run S
event_step by l s (idle o) e = let step = delivers l o e in after_saying step.says (settled by l (by.wrote s step.says) step.state)
event_step by l s state e = stands s state

-- The events one after another.
abbrev pub told_from : {S : Type 0} → Storage S → Life → S → State → List Event → Run S
told_from by l s state [] = stands s state
told_from by l s state (e ∷ events) = let r = event_step by l s state e in after_saying r.says (told_from by l r.storage r.state events)

-- The entry that is waited for, and all that was said with it.
abbrev pub asking : State → List Body
asking (waiting o t b) = b ∷ []
asking state = []

abbrev pub all_said : {S : Type 0} → Run S → List Body
all_said r = r.says ++ asking r.state

-- What an incarnation says in all to its events, from the map with which it starts.
abbrev pub told_bodies : Life → Contents → List Event → List Body
told_bodies l start events = (told_from by_map l start (idle (begun start.alarm)) events).says

abbrev pub told : Life → Contents → List Event → List Said
told l start events = spoken_in (told_bodies l start events)

-- The same from a state in which the storage may be waited for.
abbrev pub told_on : {S : Type 0} → Storage S → Life → S → State → List Event → Run S
told_on by l s state events = let r = settled by l s state in after_saying r.says (told_from by l r.storage r.state events)
