-- Laws of what an object says, each proved by a function of `laws`.
use Rattle.std.specs.List.{count_by, last_or}
use Rattle.std.specs.Prelude.{◌≡◌, ℕ, zero, suc, ◌+◌, ◌<◌, ◌≤◌, Bool, true, false, not, List, [], ◌∷◌, ◌++◌, length, slice_get, Some, None}
use Rattle.do_value.specs.Tree.{Tree}
use Rattle.do_tree.specs.Tree.{Method, Class, Script}
use Rattle.storage_map.specs.Contents.{Contents}
use Rattle.script_mean.specs.Law.{asks}
use Rattle.script_mean.specs.Limits.{most_storage_awaits, most_outside_calls}
use Rattle.script_mean.specs.Meaning.{First, meaning}
use Rattle.script_mean.specs.Task as task
use Rattle.script_mean.specs.Task.{Resume, Segment}
use Rattle.script_mean.specs.declared.answer.Answer.{Answer}
use Rattle.script_mean.specs.declared.ask.Ask.{Ask}
use Rattle.script_mean.specs.declared.ask.Ask.TheVariants as ask
use Rattle.timeline.specs.Headline.{IsPrefix}
use Rattle.timeline.specs.History.{incarnations}
use Rattle.timeline.specs.Logs.{Fronted, Backed}
use Rattle.timeline.specs.declared.entry.Entry.{Entry}
use Rattle.timeline.specs.Intake.{Kind, Front, life, Mode, serves, Taken, delivered, noticed, front_after, sent_by, IsIntake, answer_in, events_in, answers_in, StaysIn}
use Rattle.timeline.specs.Passed.{held_in, batches_to, reaches, is_mend}
use Rattle.timeline.specs.Object.{Life, Object, OpenTask, State, idle, waiting, ended}
use Rattle.timeline.specs.Steps.{delivers, answers, resumed, latest_turn, on_turn, runs, goes_on, most_refused}
use Rattle.timeline.specs.Told.{Storage, Run, by_map, by_answers, settles, settled, stored_answer, written, written_by, told_from, told_on, after_saying, asking, all_said, most_waits}
use Rattle.timeline.specs.declared.entry.Body.{Body}
use Rattle.timeline.specs.declared.event.Event.{Event}

-- More events add to what was said.
abbrev pub MoreEvents : {S : Type 0} → Storage S → Type 0
MoreEvents {S} by = (l : Life) (s : S) (state : State) (events more : List Event)
    → let r = told_from by l s state events in told_from by l s state (events ++ more) ≡ after_saying r.says (told_from by l r.storage r.state more)

-- Given answers are used up one after another: that their number bounds how many are used doesn't show.
abbrev pub AnswersBoundNothing : Type 0
AnswersBoundNothing = (l : Life) (got : List Answer) (n : ℕ) (state : State) → length got ≤ n
    → settles by_answers n l got state ≡ settled by_answers l got state

-- The answers that the map gives to one event's waits, as far as so many.
abbrev pub map_answers : ℕ → Life → Contents → State → List Answer
map_answers zero l m state = []
map_answers (suc n) l m (waiting o t b) = let a = stored_answer m b in let step = answers l o t a in
    a ∷ map_answers n l (written (written_by m b) step.says) step.state
map_answers (suc n) l m state = []

-- An object that is given the map's answers says what it says over the map, and uses no others.
abbrev pub MapAnswers : Type 0
MapAnswers = (n : ℕ) (l : Life) (m : Contents) (state : State) (more : List Answer)
    → let r = settles by_map n l m state in
    settles by_answers n l (map_answers n l m state ++ more) state ≡ record { says = r.says; state = r.state; storage = more }

-- Where the answers that came are the map's, what was said with them, and the entry that is waited for, begins what is said over
-- the map.
abbrev pub AreMapAnswers : Life → Contents → State → List Answer → Type 0
AreMapAnswers l m state [] = Unit {0}
AreMapAnswers l m (waiting o t b) (a ∷ got) = (a ≡ stored_answer m b)
    × AreMapAnswers l (written (written_by m b) (answers l o t a).says) (answers l o t a).state got
AreMapAnswers l m state (a ∷ got) = ⊥

abbrev pub FirstAnswersTell : Type 0
FirstAnswersTell = (n : ℕ) (l : Life) (m : Contents) (state : State) (got : List Answer) → length got ≤ n → AreMapAnswers l m state got
    → IsPrefix (all_said (settles by_answers n l got state)) (all_said (settles by_map n l m state))

-- In one incarnation a front has sent what its object says to its events with the answers that its notices give, however the
-- events are split into turns: with what was said before, and the entry that is waited for.
abbrev pub front_at : ℕ → List Event → List Body → State → Front
front_at incarnation events before state = record { incarnation = incarnation; events = events; said = before ++ asking state; mode = serves state }

abbrev pub FrontTells : Type 0
FrontTells = (k : Kind) (incarnation : ℕ) (events : List Event) (before : List Body) (state : State) (taken : List Taken)
    → IsIntake k (front_at incarnation events before state) taken → StaysIn taken
    → (front_after k (front_at incarnation events before state) taken).said
    ≡ before ++ all_said (told_on by_answers (life k incarnation) (answers_in taken) state (events_in taken))

-- The answers of an intake are the map's: each is what the map answers to the entry that is waited for, after all that was said
-- before it. So many more answers may come to the event that is under way.
abbrev pub FitsMap : ℕ → Life → Contents → State → List Taken → Type 0
FitsMap n l m state [] = Unit {0}
FitsMap n l m (idle o) (delivered e ∷ taken) = let step = delivers l o e in FitsMap most_waits l (written m step.says) step.state taken
FitsMap (suc n) l m (waiting o t b) (noticed x ∷ taken) = (answer_in x ≡ stored_answer m b ∷ [])
    × (let step = answers l o t (stored_answer m b) in FitsMap n l (written (written_by m b) step.says) step.state taken)
FitsMap n l m state (t ∷ taken) = ⊥

-- What is told over the map from a state on, so many answers being left to the event that is under way.
abbrev pub told_up : ℕ → Life → Contents → State → List Event → Run Contents
told_up n l m state events = let r = settles by_map n l m state in after_saying r.says (told_from by_map l r.storage r.state events)

-- Then what the front has said begins what is told over the map, and is the whole of it where nothing is waited for.
abbrev pub FrontBeginsTold : Type 0
FrontBeginsTold = (k : Kind) (i : ℕ) (events : List Event) (before : List Body) (n : ℕ) (m : Contents) (state : State) (taken : List Taken)
    → FitsMap n (life k i) m state taken
    → IsPrefix (front_after k (front_at i events before state) taken).said (before ++ all_said (told_up n (life k i) m state (events_in taken)))

abbrev pub IsAtRest : Mode → Type 0
IsAtRest (serves (waiting o t b)) = ⊥
IsAtRest mode = Unit {0}

abbrev pub FrontTellsAll : Type 0
FrontTellsAll = (k : Kind) (i : ℕ) (events : List Event) (before : List Body) (n : ℕ) (m : Contents) (state : State) (taken : List Taken)
    → FitsMap n (life k i) m state taken → IsAtRest (front_after k (front_at i events before state) taken).mode
    → (front_after k (front_at i events before state) taken).said ≡ before ++ all_said (told_up n (life k i) m state (events_in taken))

-- What a front has sent it has sent, whatever it takes then, over all incarnations.
abbrev pub SentStays : Type 0
SentStays = (k : Kind) (f : Front) (taken more : List Taken) → IsPrefix (sent_by k f taken) (sent_by k f (taken ++ more))

-- The one link between a task of the evaluator and an open task: whatever answers come, the meaning at all answers is what it was
-- at those so far, and then what the evaluator's task still gives.
abbrev pub turns_with : Life → OpenTask → List Resume → List Segment
turns_with l t rs = meaning l.script l.class t.method t.args t.first (t.resumes ++ rs)

abbrev pub IsLinked : Life → OpenTask → (List Resume → List Segment) → Type 0
IsLinked l t rest = (rs : List Resume) → turns_with l t rs ≡ turns_with l t [] ++ rest rs

-- By it the turn that an answer gives is the evaluator's, and the link holds of the task that then waits. It holds from the start.
abbrev pub answer_as : Object → Answer → Resume
answer_as o a = record { answer = a; fields = o.fields; now = o.clock }

abbrev pub LinkGoesOn : Type 0
LinkGoesOn = (l : Life) (o : Object) (t : OpenTask) (a : Answer) (rest later : List Resume → List Segment) (turn : Segment)
    → IsLinked l t rest → ((rs : List Resume) → rest (answer_as o a ∷ rs) ≡ turn ∷ later rs) → later [] ≡ []
    → (latest_turn l (resumed o t a) ≡ Some turn) × IsLinked l (resumed o t a) later

abbrev pub LinkBegins : Type 0
LinkBegins = (l : Life) (t : OpenTask) (rest : List Resume → List Segment) (turn : Segment)
    → t.resumes ≡ [] → ((rs : List Resume) → meaning l.script l.class t.method t.args t.first rs ≡ turn ∷ rest rs) → rest [] ≡ []
    → (latest_turn l t ≡ Some turn) × IsLinked l t rest

-- What is logged of a later incarnation leaves the earlier ones as they are.
pub record OlderStay : Type 0 where
  pub delivered : (front : Fronted) (back : Backed) (n number : ℕ) (e : Event) → n < number
      → incarnations (record front { delivered = front.delivered ++ (number, e) ∷ [] }) back n ≡ incarnations front back n
  pub sent : (front : Fronted) (back : Backed) (n : ℕ) (e : Entry) → n < e.incarnation
      → incarnations (record front { sent = front.sent ++ e ∷ [] }) back n ≡ incarnations front back n
  pub taken : (front : Fronted) (back : Backed) (n : ℕ) (e : Entry) → n < e.incarnation
      → incarnations front (record back { taken = back.taken ++ e ∷ [] }) n ≡ incarnations front back n

-- The alarm that an object keeps is that of its map.
abbrev pub alarm_of : State → Contents → Type 0
alarm_of (idle o) m = o.alarm ≡ m.alarm
alarm_of (waiting o t b) m = o.alarm ≡ (written_by m b).alarm
alarm_of (ended cause) m = Unit {0}

abbrev pub AlarmIsTheMaps : Type 0
AlarmIsTheMaps = (l : Life) (m : Contents) (o : Object) (events : List Event) → o.alarm ≡ m.alarm
    → let r = told_from by_map l m (idle o) events in alarm_of r.state r.storage

-- Whether an ask is one of the storage: a read, or a wait for what was written. The others are calls and fetches.
abbrev pub is_of_storage : Ask → Bool
is_of_storage (ask.Store a) = true
is_of_storage (ask.Open a) = true
is_of_storage (ask.Written tail) = true
is_of_storage ask.Sync = true
is_of_storage (ask.Call to method args) = false
is_of_storage (ask.Fetch value) = false

-- Whether a turn ends with an ask of the storage, and whether with a call or a fetch.
abbrev pub asks_storage : Segment → Bool
asks_storage (task.asked batches fields a block) = is_of_storage a
asks_storage _ = false

abbrev pub asks_outside : Segment → Bool
asks_outside (task.asked batches fields a block) = not (is_of_storage a)
asks_outside _ = false

-- Whatever answers come, a task asks the storage at most 65,536 times, and calls and fetches at most 2,000 times, refused calls
-- counted.
pub record AsksAreLimited : Type 0 where
  pub storage : (script : Script) (class method : ℕ) (args : List Tree) (first : First) (rs : List Resume)
      → count_by asks_storage (meaning script class method args first rs) ≤ most_storage_awaits
  pub outside : (script : Script) (class method : ℕ) (args : List Tree) (first : First) (rs : List Resume)
      → count_by asks_outside (meaning script class method args first rs) ≤ most_outside_calls

-- A task that asks has asked once for each answer and once more, so that fewer answers came than both limits together; and one to
-- which so many came has a last turn that doesn't ask.
abbrev pub most_asks : ℕ
most_asks = most_storage_awaits + most_outside_calls

pub record TasksEnd : Type 0 where
  pub counts : (script : Script) (class method : ℕ) (args : List Tree) (first : First) (rs : List Resume) (turn : Segment)
      → last_or None (meaning script class method args first rs) ≡ Some turn → asks turn ≡ true
      → let turns = meaning script class method args first rs in count_by asks_storage turns + count_by asks_outside turns ≡ suc (length rs)
  pub waits : (script : Script) (class method : ℕ) (args : List Tree) (first : First) (rs : List Resume) (turn : Segment)
      → last_or None (meaning script class method args first rs) ≡ Some turn → asks turn ≡ true → length rs < most_asks
  pub ends : (script : Script) (class method : ℕ) (args : List Tree) (first : First) (rs : List Resume) (c : Class) (m : Method)
      → slice_get script.classes class ≡ Some c → slice_get c.methods method ≡ Some m → most_asks ≤ length rs
      → (turn : Segment) × (last_or None (meaning script class method args first rs) ≡ Some turn) × (asks turn ≡ false)

-- The turns of an open task at the answers so far. A further answer leaves what it has asked, and where its turn then asks that
-- is one more: so a task that went on through so many asks of a kind has made so many.
abbrev pub turns_of : Life → OpenTask → List Segment
turns_of l t = meaning l.script l.class t.method t.args t.first t.resumes

pub record AsksAddUp (kind : Segment → Bool) : Type 0 where
  pub keeps : (l : Life) (o : Object) (t : OpenTask) (a : Answer) → count_by kind (turns_of l t) ≤ count_by kind (turns_of l (resumed o t a))
  pub adds : (l : Life) (o : Object) (t : OpenTask) (a : Answer) (turn : Segment) → latest_turn l (resumed o t a) ≡ Some turn → kind turn ≡ true
      → count_by kind (turns_of l t) < count_by kind (turns_of l (resumed o t a))

-- The bound on the refused calls of one input doesn't show: a task goes on from turn to turn as if there were none.
pub record RefusedBoundIsEnough : Type 0 where
  pub more : (n : ℕ) → most_refused ≤ n → (l : Life) (o : Object) (t : OpenTask) → runs n l o t ≡ goes_on l o t
  pub unfolds : (l : Life) (o : Object) (t : OpenTask) → goes_on l o t ≡ on_turn (λ new u. goes_on l new u) l o t (latest_turn l t)

-- The map that answers to one event so often at most.
abbrev pub by_map_within : ℕ → Storage Contents
by_map_within n = record by_map { most = λ m. n }

-- The bound on the storage waits of one event doesn't show either: any larger one tells the same, and no event is left waiting.
pub record BoundIsEnough : Type 0 where
  pub more : (n : ℕ) → most_waits ≤ n → (l : Life) (m : Contents) (o : Object) (events : List Event)
      → told_from (by_map_within n) l m (idle o) events ≡ told_from by_map l m (idle o) events
  pub ends : (l : Life) (m : Contents) (o : Object) (events : List Event)
      → IsAtRest (serves (told_from by_map l m (idle o) events).state)

-- The answers of an intake are the map's, and nothing is said of how many come to one event: they fit all the same.
abbrev pub AreTheMaps : Life → Contents → State → List Taken → Type 0
AreTheMaps l m state [] = Unit {0}
AreTheMaps l m (idle o) (delivered e ∷ taken) = let step = delivers l o e in AreTheMaps l (written m step.says) step.state taken
AreTheMaps l m (waiting o t b) (noticed x ∷ taken) = (answer_in x ≡ stored_answer m b ∷ [])
    × (let step = answers l o t (stored_answer m b) in AreTheMaps l (written (written_by m b) step.says) step.state taken)
AreTheMaps l m state (t ∷ taken) = ⊥

abbrev pub MapsAnswersFit : Type 0
MapsAnswersFit = (n : ℕ) (l : Life) (m : Contents) (o : Object) (taken : List Taken) → AreTheMaps l m (idle o) taken → FitsMap n l m (idle o) taken

-- What is held and what it needs grows at its end, but where a mounting is asked for: two counters tell what the next message needs, of
-- which the one that reaches to the last confirmed batch is at most the other.
pub record NeedsGrow : Type 0 where
  pub held : (bodies : List Body) (b : Body) (count behind : ℕ) → is_mend b ≡ false
      → held_in count behind (bodies ++ b ∷ []) ≡ held_in count behind bodies ++ held_in (batches_to count bodies) (reaches count behind bodies) (b ∷ [])
  pub batches : (bodies : List Body) (b : Body) (count : ℕ) → batches_to count (bodies ++ b ∷ []) ≡ batches_to (batches_to count bodies) (b ∷ [])
  pub reach : (bodies : List Body) (b : Body) (count behind : ℕ)
      → reaches count behind (bodies ++ b ∷ []) ≡ reaches (batches_to count bodies) (reaches count behind bodies) (b ∷ [])
  pub within : (bodies : List Body) (count behind : ℕ) → behind ≤ count → reaches count behind bodies ≤ batches_to count bodies
