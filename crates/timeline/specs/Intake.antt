-- What a front takes, and what it then sends: the same steps as an object that is told its events, but for the storage's
-- answers, which come later as notices. Source: the article on input gates; that calls are answered while an object is down
-- is this project's profile.
use Rattle.std.specs.Prelude.{ℕ, suc, ◌≡◌, ℤ, Bool, true, false, not, ◌&&◌, ◌||◌, List, [], ◌∷◌, ◌++◌, length, Option, Some, None, Err}
use Rattle.do_value.specs.declared.value.Value.TheVariants as value
use Rattle.do_tree.specs.Tree.{Script}
use Rattle.storage_map.specs.declared.answer.Reading.TheVariants as reading
use Rattle.script_mean.specs.Answers.{is_answer}
use Rattle.script_mean.specs.declared.answer.Answer.{Answer}
use Rattle.script_mean.specs.declared.answer.Answer.TheVariants as answer
use Rattle.timeline.specs.Eligible.{is_eligible, is_stale, is_early, is_fit}
use Rattle.timeline.specs.Object.{Life, begun, State, idle, waiting, Step}
use Rattle.timeline.specs.Replies.{unanswered, resets_of}
use Rattle.timeline.specs.Steps.{delivers, answers, replies}
use Rattle.timeline.specs.Told.{asking}
use Rattle.timeline.specs.declared.caller.Cause.{Cause}
use Rattle.timeline.specs.declared.caller.Failure.TheVariants as failure
use Rattle.timeline.specs.declared.entry.Body.{Body}
use Rattle.timeline.specs.declared.entry.Body.TheVariants as body
use Rattle.timeline.specs.declared.entry.Entry.{Entry}
use Rattle.timeline.specs.declared.event.Event.{Event}
use Rattle.timeline.specs.declared.event.Event.TheVariants as event
use Rattle.timeline.specs.declared.notice.Notice.{Notice}
use Rattle.timeline.specs.declared.notice.Notice.TheVariants as notice

-- What a front takes: an event that is delivered; a notice; a call that finds the object down and asks for another mounting.
pub data Taken : Type 0 where
  delivered : Event → Taken
  noticed : Notice → Taken
  wanted : Event → Taken

-- The object serves; or it is down, and a call waits for the next mounting or none does.
pub data Mode : Type 0 where
  serves : State → Mode
  down : Option Event → Mode

-- A front: the number of its incarnation, what this one was delivered and has said, and how it stands.
pub record Front : Type 0 where
  pub incarnation : ℕ
  pub events : List Event
  pub said : List Body
  pub mode : Mode

-- The object of a script and a class.
pub record Kind : Type 0 where
  pub script : Script
  pub class : ℕ

abbrev pub life : Kind → ℕ → Life
life k incarnation = record { script = k.script; class = k.class; incarnation = incarnation }

abbrev pub opened : Option (ℤ × ℕ) → Front
opened alarm = record { incarnation = 1; events = []; said = []; mode = serves (idle (begun alarm)) }

abbrev pub steps_to : Front → Step → Front
steps_to f s = record f { said = f.said ++ s.says ++ asking s.state; mode = serves s.state }

abbrev pub says_more : Front → List Body → Front
says_more f bodies = record f { said = f.said ++ bodies }

-- The failures of the calls that an ended incarnation leaves unanswered.
abbrev pub resets : Front → Cause → List Body
resets f cause = resets_of cause (unanswered f.events f.said)

-- An incarnation has ended: the next one begins, mounted with this alarm, or it is down.
abbrev pub next_mounted : Front → Option (ℤ × ℕ) → Cause → Front
next_mounted f alarm cause = record { incarnation = suc f.incarnation; events = []; said = resets f cause; mode = serves (idle (begun alarm)) }

abbrev pub next_down : Front → Cause → Front
next_down f cause = record { incarnation = suc f.incarnation; events = []; said = resets f cause; mode = down None }

-- The call that waited for a mounting is answered by its failure.
abbrev pub down_replies : Option Event → ℕ → ℕ → List Body
down_replies (Some (event.Call from method args depth at)) before after = replies from (Err (failure.Down before after))
down_replies _ before after = []

-- An event is delivered to an idle object; the storage's answer reaches the task that waits for it.
abbrev pub on_delivered : Kind → Front → Mode → Event → Front
on_delivered k f (serves (idle o)) e = steps_to (record f { events = f.events ++ e ∷ [] }) (delivers (life k f.incarnation) o e)
on_delivered k f mode e = f

abbrev pub on_stored : Kind → Front → Mode → Answer → Front
on_stored k f (serves (waiting o t b)) a = steps_to f (answers (life k f.incarnation) o t a)
on_stored k f mode a = f

abbrev pub on_fresh : Front → Mode → Option (ℤ × ℕ) → Cause → Front
on_fresh f (serves state) alarm cause = next_mounted f alarm cause
on_fresh f (down call) alarm cause = record f { mode = serves (idle (begun alarm)) }

abbrev pub on_down : Front → Mode → Cause → ℕ → ℕ → Front
on_down f (serves state) cause before after = next_down f cause
on_down f (down call) cause before after = record (says_more f (down_replies call before after)) { mode = down None }

abbrev pub on_notice : Kind → Front → Notice → Front
on_notice k f (notice.Read number r) = on_stored k f f.mode (answer.Read r)
on_notice k f (notice.Taken number count) = on_stored k f f.mode (answer.Read (reading.Count count))
on_notice k f (notice.Synced number) = on_stored k f f.mode (answer.Value value.Undefined)
on_notice k f (notice.Fresh incarnation alarm cause) = on_fresh f f.mode alarm cause
on_notice k f (notice.Down cause before after) = on_down f f.mode cause before after

abbrev pub takes : Kind → Front → Taken → Front
takes k f (delivered e) = on_delivered k f f.mode e
takes k f (noticed n) = on_notice k f n
takes k f (wanted e) = record (says_more f (body.Mend ∷ [])) { mode = down (Some e) }

abbrev pub front_after : Kind → Front → List Taken → Front
front_after k f [] = f
front_after k f (t ∷ taken) = front_after k (takes k f t) taken

-- The entries that are sent: those of each incarnation numbered from 1.
abbrev pub numbered : ℕ → ℕ → List Body → List Entry
numbered incarnation number [] = []
numbered incarnation number (b ∷ bodies) = record { incarnation = incarnation; number = number; body = b } ∷ numbered incarnation (suc number) bodies

abbrev pub entries_of : Front → List Entry
entries_of f = numbered f.incarnation 1 f.said

-- Where an item ends an incarnation, the entries of this one are all sent.
abbrev pub closed_by : Front → Mode → Taken → List Entry
closed_by f (serves state) (noticed (notice.Fresh incarnation alarm cause)) = entries_of f
closed_by f (serves state) (noticed (notice.Down cause before after)) = entries_of f
closed_by f mode t = []

abbrev pub sent_by : Kind → Front → List Taken → List Entry
sent_by k f [] = entries_of f
sent_by k f (t ∷ taken) = closed_by f f.mode t ++ sent_by k (takes k f t) taken

-- A storage wait is open from the item that made the object say an entry which the storage answers, until its notice or the end of
-- the incarnation is taken.
abbrev pub IsStorageWait : Mode → Type 0
IsStorageWait (serves (waiting o t b)) = Unit {0}
IsStorageWait mode = ⊥

-- What is logged of it: the delivered events, and the calls that were answered by `Down`, each with its incarnation; and why
-- incarnations ended.
abbrev pub delivered_by : ℕ → Taken → List (ℕ × Event)
delivered_by now (delivered e) = (now, e) ∷ []
delivered_by now _ = []

abbrev pub downed_by : ℕ → Mode → Taken → List (ℕ × Event)
downed_by now (down (Some call)) (noticed (notice.Down cause before after)) = (now, call) ∷ []
downed_by now mode _ = []

abbrev pub ends_by : Mode → Taken → List Cause
ends_by (serves state) (noticed (notice.Fresh incarnation alarm cause)) = cause ∷ []
ends_by (serves state) (noticed (notice.Down cause before after)) = cause ∷ []
ends_by mode _ = []

abbrev pub logged : {X : Type 0} → (Front → Taken → List X) → Kind → Front → List Taken → List X
logged by k f [] = []
logged by k f (t ∷ taken) = by f t ++ logged by k (takes k f t) taken

abbrev pub delivered_in : Kind → Front → List Taken → List (ℕ × Event)
delivered_in = logged (λ f t. delivered_by f.incarnation t)

abbrev pub downed_in : Kind → Front → List Taken → List (ℕ × Event)
downed_in = logged (λ f t. downed_by f.incarnation f.mode t)

abbrev pub ends_in : Kind → Front → List Taken → List Cause
ends_in = logged (λ f t. ends_by f.mode t)

-- The number of the entry that is waited for is that of the last one.
abbrev pub FitsNotice : List Body → State → Notice → Type 0
FitsNotice said (waiting o t (body.Ask a free)) (notice.Read number r) = (number ≡ length said) × (is_answer a r ≡ true)
FitsNotice said (waiting o t (body.Batch ops tail confirmed)) (notice.Taken number count) = number ≡ length said
FitsNotice said (waiting o t body.Sync) (notice.Synced number) = number ≡ length said
FitsNotice said state (notice.Fresh incarnation alarm cause) = Unit {0}
FitsNotice said state (notice.Down cause before after) = Unit {0}
FitsNotice said state n = ⊥

-- A front that is down takes no other notice than these two, and only where a call waits for a mounting.
abbrev pub FitsMode : List Body → Mode → Notice → Type 0
FitsMode said (serves state) n = FitsNotice said state n
FitsMode said (down (Some call)) (notice.Fresh incarnation alarm cause) = Unit {0}
FitsMode said (down (Some call)) (notice.Down cause before after) = Unit {0}
FitsMode said (down call) n = ⊥

-- The input gate: an event is delivered to an idle object alone, and only where it is eligible and no stale answer; a call asks
-- for a mounting where the object is down and no other does; a notice is one that is waited for.
abbrev pub MayDeliver : ℕ → Mode → Event → Type 0
MayDeliver now (serves (idle o)) e = (is_eligible o e ≡ true) × (is_stale now o e ≡ false)
MayDeliver now mode e = ⊥

-- An event that is taken and dropped: one that the front can't take; an answer for which no task waits any more; and while the object
-- is down each event but a call.
abbrev pub drops_in : ℕ → Mode → Event → Bool
drops_in now (serves (idle o)) e = is_stale now o e && not (is_early now o.made e)
drops_in now (serves state) e = false
drops_in now (down call) (event.Call from method args depth at) = false
drops_in now (down call) e = not (is_early now 0 e)

abbrev pub is_dropped : Script → Option ℕ → Front → Event → Bool
is_dropped script class f e = not (is_fit script class e) || drops_in f.incarnation f.mode e

abbrev pub MayTake : Front → Taken → Type 0
MayTake f (delivered e) = MayDeliver f.incarnation f.mode e
MayTake f (wanted e) = f.mode ≡ down None
MayTake f (noticed n) = FitsMode f.said f.mode n

abbrev pub IsIntake : Kind → Front → List Taken → Type 0
IsIntake k f [] = Unit {0}
IsIntake k f (t ∷ taken) = MayTake f t × IsIntake k (takes k f t) taken

-- The events and the storage's answers of an intake, and that it stays in one incarnation.
abbrev pub answer_in : Notice → List Answer
answer_in (notice.Read number r) = answer.Read r ∷ []
answer_in (notice.Taken number count) = answer.Read (reading.Count count) ∷ []
answer_in (notice.Synced number) = answer.Value value.Undefined ∷ []
answer_in _ = []

abbrev pub events_in : List Taken → List Event
events_in [] = []
events_in (delivered e ∷ taken) = e ∷ events_in taken
events_in (_ ∷ taken) = events_in taken

abbrev pub answers_in : List Taken → List Answer
answers_in [] = []
answers_in (noticed n ∷ taken) = answer_in n ++ answers_in taken
answers_in (_ ∷ taken) = answers_in taken

abbrev pub StaysIn : List Taken → Type 0
StaysIn [] = Unit {0}
StaysIn (delivered e ∷ taken) = StaysIn taken
StaysIn (noticed (notice.Fresh incarnation alarm cause) ∷ taken) = ⊥
StaysIn (noticed (notice.Down cause before after) ∷ taken) = ⊥
StaysIn (noticed _ ∷ taken) = StaysIn taken
StaysIn (wanted e ∷ taken) = ⊥
