-- A step replies to those alone whom it serves.
use Rattle.std.proofs.Common.{ℕ, zero, suc, ◌+◌, List, [], ◌∷◌, ◌++◌}
use Rattle.std.specs.Int.{int_max}
use Rattle.std.specs.List.{AllByRecursion}
use Rattle.std.specs.Prelude.{ℤ, Bool, true, false, ◌==◌, map, if◌then◌else◌, Option, Some, None, is_some}
use Rattle.do_value.specs.Tree.{Tree}
use Rattle.do_tree.specs.Lookup.{constructor_of, alarm_of as handler_of}
use Rattle.storage_map.specs.declared.op.Op.{Op}
use Rattle.write_batcher.specs.declared.batcher.Made.{Made}
use Rattle.storage_map.specs.declared.op.Op.TheVariants as op
use Rattle.script_mean.specs.Task as task
use Rattle.script_mean.specs.Task.{Segment}
use Rattle.script_mean.specs.declared.answer.Answer.{Answer}
use Rattle.script_mean.specs.declared.ask.Ask.{Ask}
use Rattle.script_mean.specs.declared.ask.Ask.TheVariants as ask
use Rattle.alarm_core.specs.AlarmRule.{is_due}
use Rattle.timeline.specs.Object.{Life, Purpose, starts, handles, serves, OpenTask, Object, task_under, tasks_but, State, idle, waiting, ended, Step}
use Rattle.timeline.specs.Replies.{answered_by, caller_of}
use Rattle.timeline.specs.Steps as steps
use Rattle.timeline.specs.Steps.{rests, before, batch, wrote, fresh, resumed, latest_turn, outside, asks, asks_written, refusal, on_ask, handled, on_done, on_threw, on_exceeded, on_turn, runs, goes_on, begins_handler, begins_parked, on_state, then_parked, starts_by, arrives, handles_due, on_answer, answer_of, on_event, delivers, answers, hides, most_refused, moment_of}
use Rattle.timeline.specs.declared.caller.Caller.{Caller}
use Rattle.timeline.specs.declared.entry.Body.{Body}
use Rattle.timeline.specs.declared.entry.Body.TheVariants as body
use Rattle.timeline.specs.declared.event.Event.{Event}
use Rattle.timeline.specs.declared.event.Event.TheVariants as event
use Rattle.timeline.specs.declared.message.Message.{Message}

-- two lists of which all is so
pub all_both : {X : Type 0} (P : X → Type 0) (xs ys : List X) → AllByRecursion P xs → AllByRecursion P ys → AllByRecursion P (xs ++ ys)
all_both P [] ys one other = other
all_both P (x ∷ xs) ys one other = (one.0, all_both P xs ys one.1 other)

module _ (P : Caller → Type 0) where
  -- Whom a body replies to, who called by an event, and whom a task serves, are of these callers.
  abbrev pub BodyNames : Body → Type 0
  BodyNames b = AllByRecursion P (answered_by b)

  abbrev pub BodiesName : List Body → Type 0
  BodiesName bodies = AllByRecursion BodyNames bodies

  abbrev pub EventNames : Event → Type 0
  EventNames e = AllByRecursion P (caller_of e)

  abbrev pub PurposeNames : Purpose → Type 0
  PurposeNames (serves caller) = P caller
  PurposeNames purpose = Unit {0}

  abbrev pub TasksName : List OpenTask → Type 0
  TasksName tasks = AllByRecursion (λ (t : OpenTask). PurposeNames t.purpose) tasks

  abbrev pub ParkedNames : Option Event → Type 0
  ParkedNames None = Unit {0}
  ParkedNames (Some e) = EventNames e

  abbrev pub ObjectNames : Object → Type 0
  ObjectNames o = TasksName o.tasks × ParkedNames o.parked

  abbrev pub StateNames : State → Type 0
  StateNames (idle o) = ObjectNames o
  StateNames (waiting o t b) = BodyNames b × ObjectNames o × PurposeNames t.purpose
  StateNames (ended c) = Unit {0}

  abbrev pub StepNames : Step → Type 0
  StepNames s = BodiesName s.says × StateNames s.state

  -- What is said before a step.
  before_names : (xs : List Body) (s : Step) → BodiesName xs → StepNames s → StepNames (before xs s)
  before_names xs s first names = (all_both BodyNames xs s.says first names.0, names.1)

  -- Batches reply to nobody.
  batches_name : (batches : List Made) → BodiesName (map batch batches)
  batches_name [] = tt
  batches_name (made ∷ batches) = (tt, batches_name batches)

  behind_batches : (batches : List Made) (s : Step) → StepNames s → StepNames (before (map batch batches) s)
  behind_batches batches s names = before_names (map batch batches) s (batches_name batches) names

  -- One of two steps.
  either_names : (b : Bool) (s q : Step) → StepNames s → StepNames q → StepNames (if b then s else q)
  either_names true s q one other = one
  either_names false s q one other = other

  -- A write's completion is waited for.
  written_names : (o : Object) (t : OpenTask) (tail : ℕ) (batches : List Made) → ObjectNames o → PurposeNames t.purpose
      → StepNames (asks_written o t tail batches)
  written_names o t tail [] all own = (tt, all)
  written_names o t tail (made ∷ []) all own = (tt, (tt, all, own))
  written_names o t tail (made ∷ next ∷ batches) all own =
      before_names (batch made ∷ []) (asks_written o t tail (next ∷ batches)) (tt, tt) (written_names o t tail (next ∷ batches) all own)

  -- A call or a fetch leaves and its task waits, or it is refused.
  outside_names : (again : OpenTask → Step) (o : Object) (t : OpenTask) (refused : Option Answer) (message : ℕ → Message)
      → ((u : OpenTask) → PurposeNames u.purpose → StepNames (again u)) → BodyNames (body.Message (message (o.made + 1))) → ObjectNames o → PurposeNames t.purpose
      → StepNames (outside again o t refused message)
  outside_names again o t (Some a) message names silent all own = names (resumed o t a) own
  outside_names again o t None message names silent all own =
      let later : OpenTask = record t { number = o.made + 1; made = t.made + 1 } in
      ((silent, tt), (all_both (λ (u : OpenTask). PurposeNames u.purpose) o.tasks (later ∷ []) all.0 (own, tt), all.1))

  -- An ask,
  ask_names : (again : OpenTask → Step) (l : Life) (o : Object) (t : OpenTask) (batches : List Made) (a : Ask)
      → ((u : OpenTask) → PurposeNames u.purpose → StepNames (again u)) → ObjectNames o → PurposeNames t.purpose → StepNames (on_ask again l o t batches a)
  ask_names again l o t batches (ask.Store a) names all own = behind_batches batches (asks o t (body.Ask a false)) (tt, (tt, all, own))
  ask_names again l o t batches (ask.Open a) names all own = behind_batches batches (asks o t (body.Ask a false)) (tt, (tt, all, own))
  ask_names again l o t batches (ask.Written tail) names all own = written_names o t tail batches all own
  ask_names again l o t batches ask.Sync names all own = behind_batches batches (asks o t body.Sync) (tt, (tt, all, own))
  ask_names again l o t batches (ask.Call to method args) names all own =
      behind_batches batches _ (outside_names again o t (refusal (t.depth + 1) t.made) _ names tt all own)
  ask_names again l o t batches (ask.Fetch value) names all own = behind_batches batches _ (outside_names again o t (refusal 0 t.made) _ names tt all own)

  -- the end of a task,
  handled_names : (made : Option Op) (o : Object) → ObjectNames o → StepNames (handled made o)
  handled_names None o all = (tt, all)
  handled_names (Some made) o all = ((tt, tt), all)

  -- where it is done,
  done_names : (o : Object) (purpose : Purpose) (v : Tree) → ObjectNames o → PurposeNames purpose → StepNames (on_done o purpose v)
  done_names o starts v all own = (tt, all)
  done_names o (handles retry) v all own = handled_names _ o all
  done_names o (serves caller) v all own = (((own, tt), tt), all)

  -- where it threw,
  threw_names : (reset : Bool) (o : Object) (purpose : Purpose) (v : Tree) → ObjectNames o → PurposeNames purpose → StepNames (on_threw reset o purpose v)
  threw_names true o starts v all own = ((tt, tt), tt)
  threw_names true o (handles retry) v all own = ((tt, tt), tt)
  threw_names true o (serves caller) v all own = ((tt, tt), tt)
  threw_names false o starts v all own = (tt, all)
  threw_names false o (handles retry) v all own = handled_names _ o all
  threw_names false o (serves caller) v all own = (((own, tt), tt), all)

  -- where it was stopped at a limit,
  exceeded_names : (purpose : Purpose) → PurposeNames purpose → StepNames (on_exceeded purpose)
  exceeded_names starts own = ((tt, tt), tt)
  exceeded_names (handles retry) own = ((tt, tt), tt)
  exceeded_names (serves caller) own = (((own, tt), (tt, tt)), tt)

  -- and so what follows a turn.
  turn_names : (again : Object → OpenTask → Step) → ((o : Object) (t : OpenTask) → ObjectNames o → PurposeNames t.purpose → StepNames (again o t))
      → (l : Life) (o : Object) (t : OpenTask) (turn : Option Segment) → ObjectNames o → PurposeNames t.purpose → StepNames (on_turn again l o t turn)
  turn_names again names l o t None all own = (tt, all)
  turn_names again names l o t (Some (task.asked batches fs a block)) all own =
      let new = wrote batches (record o { fields = fs }) in
      ask_names (again new) l new (record t { block = block }) batches a (λ u. names new u all) all own
  turn_names again names l o t (Some (task.done batches fs v)) all own =
      let new = wrote batches (record o { fields = fs }) in behind_batches batches (on_done new t.purpose v) (done_names new t.purpose v all own)
  turn_names again names l o t (Some (task.threw batches fs v reset)) all own =
      let new = wrote batches (record o { fields = fs }) in behind_batches batches (on_threw reset new t.purpose v) (threw_names reset new t.purpose v all own)
  turn_names again names l o t (Some (task.exceeded batches)) all own = behind_batches batches (on_exceeded t.purpose) (exceeded_names t.purpose own)

  -- A task runs,
  runs_name : (n : ℕ) (l : Life) (o : Object) (t : OpenTask) → ObjectNames o → PurposeNames t.purpose → StepNames (runs n l o t)
  runs_name zero l o t all own = (tt, all)
  runs_name (suc n) l o t all own = turn_names (λ new u. runs n l new u) (λ new u. runs_name n l new u) l o t (latest_turn l t) all own

  -- and an event begins one.
  handler_names : (l : Life) (o : Object) (method retry : Option ℕ) → ObjectNames o → StepNames (begins_handler l o method retry)
  handler_names l o (Some method) (Some retry) all = runs_name most_refused l o (fresh (handles retry) method (steps.alarm_info retry ∷ []) 0 o) all tt
  handler_names l o (Some method) None all = (tt, all)
  handler_names l o None retry all = (tt, all)

  -- Each event.
  begins_name : (l : Life) (o : Object) (e : Event) → ObjectNames o → EventNames e → StepNames (steps.begins l o e)
  begins_name l o (event.Call caller method args depth at) all own = runs_name most_refused l o _ all own.0
  begins_name l o (event.Tick at) all own = handler_names l o (handler_of l.script l.class) o.handler all
  begins_name l o (event.Bind identity) all own = (tt, all)
  begins_name l o (event.Answer incarnation number result at) all own = (tt, all)
  begins_name l o (event.Evict at) all own = (tt, all)

  -- The event that waited for the constructor begins its task.
  parked_names : (l : Life) (o : Object) (started : Bool) (parked : Option Event) → ObjectNames o → ParkedNames parked → StepNames (begins_parked l o started parked)
  parked_names l o true (Some e) all own = begins_name l (record o { parked = None }) e (all.0, tt) own
  parked_names l o true None all own = (tt, all)
  parked_names l o false parked all own = (tt, all)

  -- It begins where a state is idle.
  state_names : (l : Life) (state : State) → StateNames state → StepNames (on_state l state)
  state_names l (idle o) all = parked_names l o o.started o.parked all all.1
  state_names l (waiting o t b) all = (tt, all)
  state_names l (ended c) all = (tt, tt)

  -- So it does behind a step of a constructor.
  then_names : (l : Life) (purpose : Purpose) (s : Step) → StepNames s → StepNames (then_parked l purpose s)
  then_names l starts s names = before_names s.says (on_state l s.state) names.0 (state_names l s.state names.1)
  then_names l (handles retry) s names = names
  then_names l (serves caller) s names = names

  -- A task with what waited for it.
  task_names : (l : Life) (o : Object) (t : OpenTask) → ObjectNames o → PurposeNames t.purpose → StepNames (then_parked l t.purpose (goes_on l o t))
  task_names l o t all own = then_names l t.purpose (goes_on l o t) (runs_name most_refused l o t all own)

  -- An event that starts its object,
  starts_name : (l : Life) (o : Object) (e : Event) (depth : ℕ) (constructor : Option ℕ) → ObjectNames o → EventNames e
      → StepNames (starts_by l o e depth constructor)
  starts_name l o e depth None all own = begins_name l (record o { started = true }) e all own
  starts_name l o e depth (Some constructor) all own =
      task_names l (record o { parked = Some e }) (fresh starts constructor [] depth o) (all.0, own) tt

  -- one that arrives,
  arrives_name : (l : Life) (o : Object) (e : Event) (depth : ℕ) → ObjectNames o → EventNames e → StepNames (arrives l o e depth)
  arrives_name l o e depth all own =
      either_names o.started (steps.begins l o e) (starts_by l o e depth (constructor_of l.script l.class)) (begins_name l o e all own)
      (starts_name l o e depth (constructor_of l.script l.class) all own)

  -- and a tick that is due.
  due_names : (l : Life) (o : Object) (e : Event) (alarm : Option (ℤ × ℕ)) (method : Option ℕ) → ObjectNames o → EventNames e
      → StepNames (handles_due l o e alarm method)
  due_names l o e (Some alarm) (Some method) all own = arrives_name l (record o { handler = Some alarm.1; touched = false }) e 0 all own
  due_names l o e (Some alarm) None all own = handled_names (Some op.ClearAlarm) o all
  due_names l o e None None all own = handled_names (Some op.ClearAlarm) o all
  due_names l o e None (Some method) all own = (tt, all)

  -- The tasks but one, and the one that waits under a number.
  others_name : (number : ℕ) (tasks : List OpenTask) → TasksName tasks → TasksName (tasks_but number tasks)
  others_name number [] all = tt
  others_name number (t ∷ tasks) all = by_first (t.number == number) (others_name number tasks all.1)
    where
      by_first : (b : Bool) → TasksName (tasks_but number tasks) → TasksName (if b then tasks else t ∷ tasks_but number tasks)
      by_first true rest = all.1
      by_first false rest = (all.0, rest)

  abbrev FoundNames : Option OpenTask → Type 0
  FoundNames None = Unit {0}
  FoundNames (Some t) = PurposeNames t.purpose

  found_names : (number : ℕ) (tasks : List OpenTask) → TasksName tasks → FoundNames (task_under number tasks)
  found_names number [] all = tt
  found_names number (t ∷ tasks) all = by_first (t.number == number) (found_names number tasks all.1)
    where
      by_first : (b : Bool) → FoundNames (task_under number tasks) → FoundNames (if b then Some t else task_under number tasks)
      by_first true rest = all.0
      by_first false rest = rest

  -- The answer to a call or a fetch.
  answer_names : (l : Life) (o : Object) (t : Option OpenTask) (a : Answer) → ObjectNames o → FoundNames t → StepNames (on_answer l o t a)
  answer_names l o None a all own = (tt, all)
  answer_names l o (Some t) a all own =
      task_names l (record o { tasks = tasks_but t.number o.tasks }) (resumed o t a) (others_name t.number o.tasks all.0, all.1) own

  -- Each event that is delivered.
  event_names : (l : Life) (o : Object) (e : Event) → ObjectNames o → EventNames e → StepNames (on_event l o e)
  event_names l o (event.Bind identity) all own = ((tt, tt), all)
  event_names l o (event.Call caller method args depth at) all own = arrives_name l o (event.Call caller method args depth at) depth all own
  event_names l o (event.Answer incarnation number result at) all own =
      answer_names l o (task_under number o.tasks) (answer_of result) all (found_names number o.tasks all.0)
  event_names l o (event.Tick at) all own =
      either_names (is_due o.alarm (is_some o.handler) at) (handles_due l o (event.Tick at) o.alarm (handler_of l.script l.class)) (rests o)
      (due_names l o (event.Tick at) o.alarm (handler_of l.script l.class) all own) (tt, all)
  event_names l o (event.Evict at) all own = (tt, all)

  -- So a step at an event,
  pub delivers_names : (l : Life) (o : Object) (e : Event) → ObjectNames o → EventNames e → StepNames (delivers l o e)
  delivers_names l o e all own = event_names l (record o { clock = int_max o.clock (moment_of e) }) e all own

  -- and one at an answer of the storage.
  pub answers_name : (l : Life) (o : Object) (t : OpenTask) (a : Answer) → ObjectNames o → PurposeNames t.purpose → StepNames (answers l o t a)
  answers_name l o t a all own = task_names l o (resumed o t (hides o.handler o.touched a)) all own
