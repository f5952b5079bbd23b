-- Each task of an object waits for a call or a fetch that it made.
use Rattle.std.proofs.Common.{◌≡◌, sym, refl, subst, ℕ, zero, suc, ◌+◌, List, [], ◌∷◌, ◌++◌}
use Rattle.std.specs.Int.{int_max}
use Rattle.std.specs.List.{AllByRecursion}
use Rattle.std.specs.Prelude.{ℤ, Bool, true, false, ◌==◌, if◌then◌else◌, Option, Some, None, is_some}
use Rattle.do_value.specs.Tree.{Tree}
use Rattle.do_tree.specs.Lookup.{constructor_of, alarm_of as handler_of}
use Rattle.storage_map.specs.declared.op.Op.{Op}
use Rattle.write_batcher.specs.declared.batcher.Made.{Made}
use Rattle.storage_map.specs.declared.op.Op.TheVariants as op
use Rattle.script_mean.specs.Task as task
use Rattle.script_mean.specs.Task.{Segment}
use Rattle.script_mean.specs.declared.answer.Answer.{Answer}
use Rattle.script_mean.specs.declared.ask.Ask.TheVariants as ask
use Rattle.alarm_core.specs.AlarmRule.{is_due}
use Rattle.timeline.specs.Object.{Life, Purpose, starts, handles, serves, OpenTask, Object, task_under, tasks_but, State, idle, waiting, ended, Step}
use Rattle.timeline.specs.Steps as steps
use Rattle.timeline.specs.Steps.{rests, before, batch, wrote, fresh, resumed, latest_turn, outside, asks, asks_written, refusal, on_ask, handled, on_done, on_threw, on_exceeded, on_turn, runs, goes_on, begins_handler, begins_parked, on_state, then_parked, starts_by, arrives, handles_due, on_answer, answer_of, on_event, delivers, answers, hides, most_refused, moment_of}
use Rattle.timeline.specs.declared.event.Event.{Event}
use Rattle.timeline.specs.declared.event.Event.TheVariants as event
use Rattle.timeline.specs.declared.message.Message.{Message}

-- A turn ended with a call or a fetch; the latest one of a task did; so it did of each task of a state.
abbrev pub AsksOutside : Option Segment → Type 0
AsksOutside (Some (task.asked batches fs (ask.Call to method args) block)) = Unit {0}
AsksOutside (Some (task.asked batches fs (ask.Fetch value) block)) = Unit {0}
AsksOutside turn = ⊥

abbrev pub WaitsOutside : Life → OpenTask → Type 0
WaitsOutside l t = AsksOutside (latest_turn l t)

abbrev pub TasksWait : Life → List OpenTask → Type 0
TasksWait l tasks = AllByRecursion (WaitsOutside l) tasks

abbrev pub StateWaits : Life → State → Type 0
StateWaits l (idle o) = TasksWait l o.tasks
StateWaits l (waiting o t b) = TasksWait l o.tasks
StateWaits l (ended c) = Unit {0}

abbrev pub StepWaits : Life → Step → Type 0
StepWaits l s = StateWaits l s.state

-- One of two steps.
either_waits : (l : Life) (b : Bool) (s q : Step) → StepWaits l s → StepWaits l q → StepWaits l (if b then s else q)
either_waits l true s q one other = one
either_waits l false s q one other = other

-- A task that waits stands behind those that do.
more_wait : (l : Life) (tasks : List OpenTask) (t : OpenTask) → TasksWait l tasks → WaitsOutside l t → TasksWait l (tasks ++ t ∷ [])
more_wait l [] t all own = (own, tt)
more_wait l (u ∷ tasks) t all own = (all.0, more_wait l tasks t all.1 own)

-- A write's completion is waited for.
written_waits : (l : Life) (o : Object) (t : OpenTask) (tail : ℕ) (batches : List Made) → TasksWait l o.tasks
    → StepWaits l (asks_written o t tail batches)
written_waits l o t tail [] all = all
written_waits l o t tail (made ∷ []) all = all
written_waits l o t tail (made ∷ next ∷ batches) all = written_waits l o t tail (next ∷ batches) all

-- A call or a fetch leaves and its task waits, or it is refused.
outside_waits : (l : Life) (again : OpenTask → Step) (o : Object) (t : OpenTask) (refused : Option Answer) (message : ℕ → Message)
    → ((u : OpenTask) → StepWaits l (again u)) → TasksWait l o.tasks → WaitsOutside l t → StepWaits l (outside again o t refused message)
outside_waits l again o t (Some a) message waits all own = waits (resumed o t a)
outside_waits l again o t None message waits all own =
    more_wait l o.tasks (record t { number = o.made + 1; made = t.made + 1 }) all own

-- The end of a task,
handled_waits : (l : Life) (made : Option Op) (o : Object) → TasksWait l o.tasks → StepWaits l (handled made o)
handled_waits l None o all = all
handled_waits l (Some made) o all = all

-- where it is done,
done_waits : (l : Life) (o : Object) (purpose : Purpose) (v : Tree) → TasksWait l o.tasks → StepWaits l (on_done o purpose v)
done_waits l o starts v all = all
done_waits l o (handles retry) v all = handled_waits l _ o all
done_waits l o (serves caller) v all = all

-- where it threw,
threw_waits : (l : Life) (reset : Bool) (o : Object) (purpose : Purpose) (v : Tree) → TasksWait l o.tasks → StepWaits l (on_threw reset o purpose v)
threw_waits l true o starts v all = tt
threw_waits l true o (handles retry) v all = tt
threw_waits l true o (serves caller) v all = tt
threw_waits l false o starts v all = all
threw_waits l false o (handles retry) v all = handled_waits l _ o all
threw_waits l false o (serves caller) v all = all

-- where it was stopped at a limit,
exceeded_waits : (l : Life) (purpose : Purpose) → StepWaits l (on_exceeded purpose)
exceeded_waits l starts = tt
exceeded_waits l (handles retry) = tt
exceeded_waits l (serves caller) = tt

-- and so what follows a turn.
turn_waits : (l : Life) (again : Object → OpenTask → Step) → ((o : Object) (t : OpenTask) → TasksWait l o.tasks → StepWaits l (again o t))
    → (o : Object) (t : OpenTask) (turn : Option Segment) → latest_turn l t ≡ turn → TasksWait l o.tasks → StepWaits l (on_turn again l o t turn)
turn_waits l again waits o t None is all = all
turn_waits l again waits o t (Some (task.asked batches fs (ask.Store a) block)) is all = all
turn_waits l again waits o t (Some (task.asked batches fs (ask.Open a) block)) is all = all
turn_waits l again waits o t (Some (task.asked batches fs (ask.Written tail) block)) is all =
    written_waits l (wrote batches (record o { fields = fs })) (record t { block = block }) tail batches all
turn_waits l again waits o t (Some (task.asked batches fs ask.Sync block)) is all = all
turn_waits l again waits o t (Some (task.asked batches fs (ask.Call to method args) block)) is all =
    let new = wrote batches (record o { fields = fs }) in
    outside_waits l (again new) new (record t { block = block }) (refusal (t.depth + 1) t.made) _ (λ u. waits new u all) all
    (subst AsksOutside (sym is) tt)
turn_waits l again waits o t (Some (task.asked batches fs (ask.Fetch value) block)) is all =
    let new = wrote batches (record o { fields = fs }) in
    outside_waits l (again new) new (record t { block = block }) (refusal 0 t.made) _ (λ u. waits new u all) all
    (subst AsksOutside (sym is) tt)
turn_waits l again waits o t (Some (task.done batches fs v)) is all = done_waits l (wrote batches (record o { fields = fs })) t.purpose v all
turn_waits l again waits o t (Some (task.threw batches fs v reset)) is all =
    threw_waits l reset (wrote batches (record o { fields = fs })) t.purpose v all
turn_waits l again waits o t (Some (task.exceeded batches)) is all = exceeded_waits l t.purpose

-- A task runs,
runs_wait : (n : ℕ) (l : Life) (o : Object) (t : OpenTask) → TasksWait l o.tasks → StepWaits l (runs n l o t)
runs_wait zero l o t all = all
runs_wait (suc n) l o t all = turn_waits l (λ new u. runs n l new u) (λ new u. runs_wait n l new u) o t (latest_turn l t) refl all

-- and an event begins one.
handler_waits : (l : Life) (o : Object) (method retry : Option ℕ) → TasksWait l o.tasks → StepWaits l (begins_handler l o method retry)
handler_waits l o (Some method) (Some retry) all = runs_wait most_refused l o (fresh (handles retry) method (steps.alarm_info retry ∷ []) 0 o) all
handler_waits l o (Some method) None all = all
handler_waits l o None retry all = all

-- Each event.
begins_wait : (l : Life) (o : Object) (e : Event) → TasksWait l o.tasks → StepWaits l (steps.begins l o e)
begins_wait l o (event.Call caller method args depth at) all = runs_wait most_refused l o _ all
begins_wait l o (event.Tick at) all = handler_waits l o (handler_of l.script l.class) o.handler all
begins_wait l o (event.Bind identity) all = all
begins_wait l o (event.Answer incarnation number result at) all = all
begins_wait l o (event.Evict at) all = all

-- The event that waited for the constructor begins its task.
parked_waits : (l : Life) (o : Object) (started : Bool) (parked : Option Event) → TasksWait l o.tasks → StepWaits l (begins_parked l o started parked)
parked_waits l o true (Some e) all = begins_wait l (record o { parked = None }) e all
parked_waits l o true None all = all
parked_waits l o false parked all = all

-- It begins where a state is idle.
state_waits : (l : Life) (state : State) → StateWaits l state → StepWaits l (on_state l state)
state_waits l (idle o) all = parked_waits l o o.started o.parked all
state_waits l (waiting o t b) all = all
state_waits l (ended c) all = all

-- So it does behind a step of a constructor.
then_waits : (l : Life) (purpose : Purpose) (s : Step) → StepWaits l s → StepWaits l (then_parked l purpose s)
then_waits l starts s waits = state_waits l s.state waits
then_waits l (handles retry) s waits = waits
then_waits l (serves caller) s waits = waits

-- A task with what waited for it.
task_goes_on : (l : Life) (o : Object) (t : OpenTask) → TasksWait l o.tasks → StepWaits l (then_parked l t.purpose (goes_on l o t))
task_goes_on l o t all = then_waits l t.purpose (goes_on l o t) (runs_wait most_refused l o t all)

-- An event that starts its object,
starts_wait : (l : Life) (o : Object) (e : Event) (depth : ℕ) (constructor : Option ℕ) → TasksWait l o.tasks
    → StepWaits l (starts_by l o e depth constructor)
starts_wait l o e depth None all = begins_wait l (record o { started = true }) e all
starts_wait l o e depth (Some constructor) all = task_goes_on l (record o { parked = Some e }) (fresh starts constructor [] depth o) all

-- one that arrives,
arrives_wait : (l : Life) (o : Object) (e : Event) (depth : ℕ) → TasksWait l o.tasks → StepWaits l (arrives l o e depth)
arrives_wait l o e depth all =
    either_waits l o.started (steps.begins l o e) (starts_by l o e depth (constructor_of l.script l.class)) (begins_wait l o e all)
    (starts_wait l o e depth (constructor_of l.script l.class) all)

-- and a tick that is due.
due_waits : (l : Life) (o : Object) (e : Event) (alarm : Option (ℤ × ℕ)) (method : Option ℕ) → TasksWait l o.tasks
    → StepWaits l (handles_due l o e alarm method)
due_waits l o e (Some alarm) (Some method) all = arrives_wait l (record o { handler = Some alarm.1; touched = false }) e 0 all
due_waits l o e (Some alarm) None all = handled_waits l (Some op.ClearAlarm) o all
due_waits l o e None None all = handled_waits l (Some op.ClearAlarm) o all
due_waits l o e None (Some method) all = all

-- The tasks but one wait where all do.
others_wait : (l : Life) (number : ℕ) (tasks : List OpenTask) → TasksWait l tasks → TasksWait l (tasks_but number tasks)
others_wait l number [] all = all
others_wait l number (t ∷ tasks) all = by_first (t.number == number) (others_wait l number tasks all.1)
  where
    by_first : (b : Bool) → TasksWait l (tasks_but number tasks) → TasksWait l (if b then tasks else t ∷ tasks_but number tasks)
    by_first true rest = all.1
    by_first false rest = (all.0, rest)

-- The answer to a call or a fetch.
answer_waits : (l : Life) (o : Object) (t : Option OpenTask) (a : Answer) → TasksWait l o.tasks → StepWaits l (on_answer l o t a)
answer_waits l o None a all = all
answer_waits l o (Some t) a all =
    task_goes_on l (record o { tasks = tasks_but t.number o.tasks }) (resumed o t a) (others_wait l t.number o.tasks all)

-- Each event that is delivered.
event_waits : (l : Life) (o : Object) (e : Event) → TasksWait l o.tasks → StepWaits l (on_event l o e)
event_waits l o (event.Bind identity) all = all
event_waits l o (event.Call caller method args depth at) all = arrives_wait l o (event.Call caller method args depth at) depth all
event_waits l o (event.Answer incarnation number result at) all = answer_waits l o (task_under number o.tasks) (answer_of result) all
event_waits l o (event.Tick at) all =
    either_waits l (is_due o.alarm (is_some o.handler) at) (handles_due l o (event.Tick at) o.alarm (handler_of l.script l.class)) (rests o)
    (due_waits l o (event.Tick at) o.alarm (handler_of l.script l.class) all) all
event_waits l o (event.Evict at) all = all

-- So a step at an event,
pub delivers_waits : (l : Life) (o : Object) (e : Event) → TasksWait l o.tasks → StepWaits l (delivers l o e)
delivers_waits l o e all = event_waits l (record o { clock = int_max o.clock (moment_of e) }) e all

-- and one at an answer of the storage.
pub answers_wait : (l : Life) (o : Object) (t : OpenTask) (a : Answer) → TasksWait l o.tasks → StepWaits l (answers l o t a)
answers_wait l o t a all = task_goes_on l o (resumed o t (hides o.handler o.touched a)) all
