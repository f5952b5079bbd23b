-- How what a front holds stands to the object of the definitions.
use Rattle.std.specs.Prelude.{◌≡◌, ℕ, ◌+◌, ℤ, Bool, pos, ◌≤ℤ◌, List, [], ◌∷◌, ◌++◌, if◌then◌else◌, Option, Some, None, IfSome}
use Rattle.do_tree.specs.Tree.{Script}
use Rattle.object_calls.specs.Numbered.{AreAtMost}
use Rattle.storage_map.specs.Limits.{most_time}
use Rattle.write_batcher.specs.declared.batcher.Made.{Made}
use Rattle.script_mean.specs.Task as task
use Rattle.script_mean.specs.Task.{Fields}
use Rattle.script_mean.specs.declared.ask.Ask.{Ask}
use Rattle.timeline.specs.Laws.{IsLinked}
use Rattle.timeline.specs.Left.{wait_of}
use Rattle.timeline.specs.Object as seen
use Rattle.timeline.specs.Object.{Life, OpenTask, Step, idle, waiting, ended, task_under, tasks_but}
use Rattle.timeline.specs.declared.event.Event.{Event}
use Rattle.timeline.specs.declared.event.Event.TheVariants as event
use Rattle.timeline.specs.declared.notice.Waits.{Waits}
use Rattle.timeline.specs.declared.notice.Waits.TheVariants as waits
use Rattle.timeline.specs.Steps.{latest_turn}
use Rattle.timeline.specs.Told.{asking}
use Rattle.timeline.specs.declared.entry.Body.{Body}
use Rattle.timeline.specs.declared.entry.Body.TheVariants as body
use Rattle.front_turns.specs.Paused.{Paused, HasMethod}
use Rattle.front_turns.specs.Outcomes.{segment_of, later, IsOfClass}
use Rattle.front_turns.specs.declared.outcome.Outcome.{Outcome}
use Rattle.front_turns.specs.declared.object.Purpose.{Purpose}
use Rattle.front_turns.specs.declared.object.Purpose.TheVariants as purpose
use Rattle.front_turns.specs.declared.object.Running.{Running}
use Rattle.front_turns.specs.declared.object.Awaited.{Awaited}
use Rattle.front_turns.specs.declared.object.Awaited.TheVariants as awaited
use Rattle.front_turns.specs.declared.object.Held.{Held}
use Rattle.front_turns.specs.declared.object.Object.{Object}
use Rattle.front_turns.specs.declared.object.Asked.{Asked}
use Rattle.front_turns.specs.declared.object.Asked.TheVariants as asked
use Rattle.front_turns.specs.declared.object.State.{State}
use Rattle.front_turns.specs.declared.object.State.TheVariants as state

abbrev pub life_in : Script → ℕ → ℕ → Life
life_in script class incarnation = record { script = script; class = class; incarnation = incarnation }

abbrev pub purpose_of : Purpose → seen.Purpose
purpose_of purpose.Starts = seen.starts
purpose_of (purpose.Handles alarm) = seen.handles alarm.1
purpose_of (purpose.Serves from) = seen.serves from

-- A front knows of an open task why it runs, its depth, and how many of its calls were let through.
pub record IsRunning (r : Running) (t : OpenTask) : Type 0 where
  pub purpose : t.purpose ≡ purpose_of r.purpose
  pub depth : t.depth ≡ r.depth
  pub made : t.made ≡ r.made

-- The task of the evaluator is the open task: whatever answers come, both give the same turns.
pub record IsPaused (l : Life) (p : Paused) (r : Running) (t : OpenTask) : Type 0 where
  pub linked : IsLinked l t (p.rest l.script)
  pub class : p.class ≡ l.class
  pub block : t.block ≡ p.block
  pub running : IsRunning r t

-- The latest turn of a task ended with this ask.
pub record HasAsked (l : Life) (t : OpenTask) (a : Ask) : Type 0 where
  pub batches : List Made
  pub fields : Fields
  pub block : Bool
  pub turn : latest_turn l t ≡ Some (task.asked batches fields a block)

-- What a task waits for under its number, by what is kept of it: that is what its latest turn asked.
abbrev pub waits_of : ℕ → ℕ → Awaited → Waits
waits_of incarnation number (awaited.Call to) = waits.Call to.0 to.1
waits_of incarnation number awaited.Fetch = waits.Fetch incarnation number

abbrev pub WaitsFor : Life → OpenTask → Awaited → Type 0
WaitsFor l t a = wait_of l t (latest_turn l t) ≡ waits_of l.incarnation t.number a ∷ []

-- One that waits for a call or a fetch under its number, and several.
pub record IsHeld {T : Type 0} (see : T → Paused) (l : Life) (h : ℕ × Held T) (t : OpenTask) : Type 0 where
  pub number : t.number ≡ h.0
  pub paused : IsPaused l (see h.1.task) h.1.running t
  pub waits : WaitsFor l t h.1.awaited

abbrev pub AreHeld : {T : Type 0} → (T → Paused) → Life → List (ℕ × Held T) → List OpenTask → Type 0
AreHeld see l [] [] = Unit {0}
AreHeld see l (h ∷ hs) (t ∷ ts) = IsHeld see l h t × AreHeld see l hs ts
AreHeld see l hs ts = ⊥

-- How many of the tasks that wait have their block open.
abbrev pub blocks_in : List OpenTask → ℕ
blocks_in [] = 0
blocks_in (t ∷ ts) = (if t.block then 1 else 0) + blocks_in ts

-- A call is of a method that its class has.
abbrev pub IsOfMethod : Life → Event → Type 0
IsOfMethod l (event.Call from method args depth at) = HasMethod l.script l.class method
IsOfMethod l e = Unit {0}

-- What a front keeps of an object beside its fields and its alarm: the tasks that wait, each under the number of its call or fetch,
-- with how many blocks are open and numbers were given out; the event that waits for the constructor; the clock.
pub record AreKept {T : Type 0} (see : T → Paused) (l : Life) (hs : List (ℕ × Held T)) (count made : ℕ) (call : Option Event) (now : ℤ)
    (ts : List OpenTask) : Type 0 where
  pub tasks : AreHeld see l hs ts
  pub blocks : count ≡ blocks_in ts
  pub numbers : AreAtMost made hs
  pub parked : IfSome call (IsOfMethod l)
  pub clock : pos 0 ≤ℤ now

abbrev pub Holds : {T : Type 0} → (T → Paused) → Life → Object T → List OpenTask → Type 0
Holds see l o ts = AreKept see l o.tasks.entries o.blocks o.made o.parked o.clock ts

-- A turn of the evaluator is the latest turn of the open task, which goes on with it.
pub record Runs {T : Type 0} (see : T → Paused) (l : Life) (o : Outcome T) (r : Running) (t : OpenTask) : Type 0 where
  pub turn : latest_turn l t ≡ Some (segment_of see o)
  pub linked : IsLinked l t (later see l.script o)
  pub class : IsOfClass see l.class o
  pub running : IsRunning r t

-- The fields that are kept, if any are.
abbrev pub fields_of : Option Fields → Fields
fields_of None = []
fields_of (Some fields) = fields

-- The retry number of the alarm whose handler runs.
abbrev pub retry_of : Option (ℤ × ℕ) → Option ℕ
retry_of None = None
retry_of (Some alarm) = Some alarm.1

-- The object with these open tasks.
abbrev pub object_of : {T : Type 0} → Object T → List OpenTask → seen.Object
object_of o ts = record {
  fields = fields_of o.fields;
  started = o.started;
  tasks = ts;
  parked = o.parked;
  clock = o.clock;
  alarm = o.alarm;
  handler = retry_of o.handler;
  touched = o.touched;
  made = o.made;
}

abbrev pub IsObject : {T : Type 0} → (T → Paused) → Life → Object T → seen.Object → Type 0
IsObject see l o ob = (ts : List OpenTask) × (ob ≡ object_of o ts) × Holds see l o ts

-- What the front keeps of the entry that is waited for.
abbrev pub asked_in : Body → Option Asked
asked_in (body.Ask ask free) = Some (asked.Read ask)
asked_in (body.Batch ops (Some tail) confirmed) = Some asked.Taken
asked_in body.Sync = Some asked.Synced
asked_in _ = None

abbrev pub IsState : {T : Type 0} → (T → Paused) → Life → State T → seen.State → Type 0
IsState see l (state.Idle o) (idle ob) = IsObject see l o ob
IsState see l (state.Waiting o r task a) (waiting ob t b) = IsObject see l o ob × IsPaused l (see task) r t × (asked_in b ≡ Some a)
IsState see l (state.Ended c) (ended cause) = c ≡ cause
IsState see l s st = ⊥

-- What a turn says from here on, with the entry that is then waited for, and where it leaves the object.
pub record Says {T : Type 0} (see : T → Paused) (l : Life) (old new : List Body) (s : State T) (step : Step) : Type 0 where
  pub said : new ≡ old ++ step.says ++ asking step.state
  pub state : IsState see l s step.state

-- A moment, in milliseconds.
pub record IsTime (at : ℤ) : Type 0 where
  pub positive : pos 0 ≤ℤ at
  pub small : at ≤ℤ pos most_time

-- The task that waits under the number was taken out of its object, or none waits under it.
pub record IsTakenOut {T : Type 0} (see : T → Paused) (l : Life) (number : ℕ) (h : Held T) (left : Object T) (ts : List OpenTask) : Type 0 where
  pub task : OpenTask
  pub there : task_under number ts ≡ Some task
  pub paused : IsPaused l (see h.task) h.running task
  pub rest : Holds see l left (tasks_but number ts)
  pub under : task.number ≡ number
