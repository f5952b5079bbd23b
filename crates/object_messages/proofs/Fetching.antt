-- Each task that an object has open is unanswered, and where it waits for a fetch, that was said under the task's number.
use Rattle.std.proofs.Common.{◌≡◌, sym, refl, subst, ℕ, zero, suc, ◌+◌, ◌<◌, ◌≤◌, List, [], ◌∷◌, ◌++◌, map, arith}
use Rattle.std.proofs.lemmas.List.Concat.{flat_map-append}
use Rattle.std.proofs.lemmas.List.Elements.{Contains-append_left, Contains-append_right, Contains-push}
use Rattle.std.specs.Int.{int_max}
use Rattle.std.specs.List.{Contains, flat_map}
use Rattle.std.specs.Prelude.{ℤ, Bool, true, false, if◌then◌else◌, Option, Some, None, is_some}
use Rattle.do_value.specs.Tree.{Tree}
use Rattle.do_tree.specs.Lookup.{constructor_of, alarm_of as handler_of}
use Rattle.storage_map.specs.declared.op.Op.{Op}
use Rattle.write_batcher.specs.declared.batcher.Made.{Made}
use Rattle.storage_map.specs.declared.op.Op.TheVariants as op
use Rattle.script_mean.specs.Task as task
use Rattle.script_mean.specs.Task.{Segment}
use Rattle.script_mean.specs.declared.answer.Answer.{Answer}
use Rattle.script_mean.specs.declared.ask.Ask.TheVariants as ask
use Rattle.alarm_core.specs.AlarmRule.{is_due}
use Rattle.timeline.specs.Object.{Life, Purpose, starts, handles, serves, OpenTask, Object, task_under, tasks_but, State, idle, waiting, ended, Step}
use Rattle.timeline.specs.Steps as steps
use Rattle.timeline.specs.Steps.{rests, before, batch, wrote, fresh, resumed, latest_turn, outside, asks, asks_written, refusal, handled, on_done, on_threw, on_exceeded, on_turn, runs, goes_on, begins_handler, begins_parked, on_state, then_parked, starts_by, arrives, handles_due, on_answer, answer_of, on_event, delivers, answers, hides, most_refused, moment_of}
use Rattle.timeline.specs.declared.entry.Body.{Body}
use Rattle.timeline.specs.declared.entry.Body.TheVariants as body
use Rattle.timeline.specs.declared.event.Event.{Event}
use Rattle.timeline.specs.declared.event.Event.TheVariants as event
use Rattle.timeline.specs.declared.message.Message.{Message}
use Rattle.timeline.specs.declared.message.Message.TheVariants as message
use Rattle.object_messages.proofs.Passing.{Within}
use Rattle.object_messages.specs.Naming.{fetched_in, message_of}

-- The fetches among what was said.
abbrev pub fetched_of : Body → List (ℕ × ℕ)
fetched_of b = fetched_in (message_of b)

abbrev pub fetched : List Body → List (ℕ × ℕ)
fetched bodies = flat_map fetched_of bodies

-- A turn that ended with a fetch has it among these, under the task's number.
abbrev pub IsSaid : Life → List (ℕ × ℕ) → ℕ → Option Segment → Type 0
IsSaid l all number (Some (task.asked batches fs (ask.Fetch value) block)) = Contains all (l.incarnation, number)
IsSaid l all number turn = Unit {0}

abbrev pub IsOpenTask : Life → (answered all : List (ℕ × ℕ)) → OpenTask → Type 0
IsOpenTask l answered all t = (Contains answered (l.incarnation, t.number) → ⊥) × IsSaid l all t.number (latest_turn l t)

-- Tasks that are so stand in the order of their numbers, between these two.
abbrev pub AreOpen : Life → (answered all : List (ℕ × ℕ)) → (made low : ℕ) → List OpenTask → Type 0
AreOpen l answered all made low [] = low ≤ made
AreOpen l answered all made low (t ∷ ts) = (low < t.number) × IsOpenTask l answered all t × AreOpen l answered all made t.number ts

-- So those of an object, which has given each number that was answered.
abbrev pub Opens : Life → (answered all : List (ℕ × ℕ)) → Object → Type 0
Opens l answered all o = AreOpen l answered all o.made 0 o.tasks × ((x : ℕ × ℕ) → Contains answered x → x.1 ≤ o.made)

abbrev pub StateOpens : Life → (answered all : List (ℕ × ℕ)) → State → Type 0
StateOpens l answered all (idle o) = Opens l answered all o
StateOpens l answered all (waiting o t b) = Opens l answered all o
StateOpens l answered all (ended c) = Unit {0}

-- A step leads to such, where what it says is among what was said in all.
abbrev pub StepOpens : Life → (answered all : List (ℕ × ℕ)) → Step → Type 0
StepOpens l answered all s = Within (fetched s.says) all → StateOpens l answered all s.state

-- An object meets an event with the tasks that it doesn't resume.
abbrev pub MeetsBy : Life → (answered all : List (ℕ × ℕ)) → Object → Option OpenTask → Type 0
MeetsBy l answered all o None = Opens l answered all o
MeetsBy l answered all o (Some t) = Opens l answered all (record o { tasks = tasks_but t.number o.tasks })

abbrev pub Meets : Life → (answered all : List (ℕ × ℕ)) → Object → Event → Type 0
Meets l answered all o (event.Answer incarnation number result at) = MeetsBy l answered all o (task_under number o.tasks)
Meets l answered all o e = Opens l answered all o

-- The first number isn't past the last.
pub low_made : (l : Life) (answered all : List (ℕ × ℕ)) (made low : ℕ) (ts : List OpenTask) → AreOpen l answered all made low ts → low ≤ made
low_made l answered all made low [] is = is
low_made l answered all made low (t ∷ ts) is = omega (arith, is.0, low_made l answered all made t.number ts is.2)

module _ (l : Life) (answered all : List (ℕ × ℕ)) where
  -- Parts of what is said are said.
  left_within : (xs ys : List Body) → Within (fetched (xs ++ ys)) all → Within (fetched xs) all
  left_within xs ys within x there =
      within x (subst (λ (zs : List (ℕ × ℕ)). Contains zs x) (sym (flat_map-append fetched_of xs ys)) (Contains-append_left (fetched xs) (fetched ys) x there))

  right_within : (xs ys : List Body) → Within (fetched (xs ++ ys)) all → Within (fetched ys) all
  right_within xs ys within x there =
      within x (subst (λ (zs : List (ℕ × ℕ)). Contains zs x) (sym (flat_map-append fetched_of xs ys)) (Contains-append_right (fetched xs) (fetched ys) x there))

  before_opens : (bodies : List Body) (s : Step) → StepOpens l answered all s → StepOpens l answered all (before bodies s)
  before_opens bodies s is within = is (right_within bodies s.says within)

  -- One of two steps.
  either_opens : (b : Bool) (s q : Step) → StepOpens l answered all s → StepOpens l answered all q → StepOpens l answered all (if b then s else q)
  either_opens true s q one other = one
  either_opens false s q one other = other

  -- A task that waits under the next number stands behind the others.
  more_open : (made low : ℕ) (ts : List OpenTask) (t : OpenTask) → t.number ≡ made + 1 → IsOpenTask l answered all t → AreOpen l answered all made low ts
      → AreOpen l answered all (made + 1) low (ts ++ t ∷ [])
  more_open made low [] t next own is = (omega (arith, next, is), own, omega (arith, next))
  more_open made low (u ∷ ts) t next own is = (is.0, is.1, more_open made u.number ts t next own is.2)

  -- A write's completion is waited for.
  written_opens : (o : Object) (t : OpenTask) (tail : ℕ) (batches : List Made) → Opens l answered all o → StepOpens l answered all (asks_written o t tail batches)
  written_opens o t tail [] is = λ within. is
  written_opens o t tail (made ∷ []) is = λ within. is
  written_opens o t tail (made ∷ next ∷ batches) is =
      before_opens (batch made ∷ []) (asks_written o t tail (next ∷ batches)) (written_opens o t tail (next ∷ batches) is)

  -- A call or a fetch leaves and its task waits, or it is refused.
  outside_opens : (again : OpenTask → Step) (o : Object) (t : OpenTask) (refused : Option Answer) (message : ℕ → Message)
      → ((u : OpenTask) → StepOpens l answered all (again u)) → Opens l answered all o
      → (Within (fetched (body.Message (message (o.made + 1)) ∷ [])) all → IsSaid l all (o.made + 1) (latest_turn l t))
      → StepOpens l answered all (outside again o t refused message)
  outside_opens again o t (Some a) message opens is own = opens (resumed o t a)
  outside_opens again o t None message opens is own = λ within. (
    more_open o.made 0 o.tasks (record t { number = o.made + 1; made = t.made + 1 }) refl
        ((λ was. absurd (omega (arith, is.1 (l.incarnation, o.made + 1) was))), own within) is.0,
    λ x was. omega (arith, is.1 x was),
  )

  -- The end of a task,
  handled_opens : (made : Option Op) (o : Object) → Opens l answered all o → StepOpens l answered all (handled made o)
  handled_opens None o is = λ within. is
  handled_opens (Some made) o is = λ within. is

  -- where it is done,
  done_opens : (o : Object) (purpose : Purpose) (v : Tree) → Opens l answered all o → StepOpens l answered all (on_done o purpose v)
  done_opens o starts v is = λ within. is
  done_opens o (handles retry) v is = handled_opens _ o is
  done_opens o (serves caller) v is = λ within. is

  -- where it threw,
  threw_opens : (reset : Bool) (o : Object) (purpose : Purpose) (v : Tree) → Opens l answered all o → StepOpens l answered all (on_threw reset o purpose v)
  threw_opens true o starts v is = λ within. tt
  threw_opens true o (handles retry) v is = λ within. tt
  threw_opens true o (serves caller) v is = λ within. tt
  threw_opens false o starts v is = λ within. is
  threw_opens false o (handles retry) v is = handled_opens _ o is
  threw_opens false o (serves caller) v is = λ within. is

  -- where it was stopped at a limit,
  exceeded_opens : (purpose : Purpose) → StepOpens l answered all (on_exceeded purpose)
  exceeded_opens starts within = tt
  exceeded_opens (handles retry) within = tt
  exceeded_opens (serves caller) within = tt

  -- and so what follows a turn.
  turn_opens : (again : Object → OpenTask → Step) → ((o : Object) (t : OpenTask) → Opens l answered all o → StepOpens l answered all (again o t))
      → (o : Object) (t : OpenTask) (turn : Option Segment) → latest_turn l t ≡ turn → Opens l answered all o → StepOpens l answered all (on_turn again l o t turn)
  turn_opens again opens o t None is all_so = λ within. all_so
  turn_opens again opens o t (Some (task.asked batches fs (ask.Store a) block)) is all_so =
      before_opens (map batch batches) (asks (wrote batches (record o { fields = fs })) (record t { block = block }) (body.Ask a false)) (λ within. all_so)
  turn_opens again opens o t (Some (task.asked batches fs (ask.Open a) block)) is all_so =
      before_opens (map batch batches) (asks (wrote batches (record o { fields = fs })) (record t { block = block }) (body.Ask a false)) (λ within. all_so)
  turn_opens again opens o t (Some (task.asked batches fs (ask.Written tail) block)) is all_so =
      written_opens (wrote batches (record o { fields = fs })) (record t { block = block }) tail batches all_so
  turn_opens again opens o t (Some (task.asked batches fs ask.Sync block)) is all_so =
      before_opens (map batch batches) (asks (wrote batches (record o { fields = fs })) (record t { block = block }) body.Sync) (λ within. all_so)
  turn_opens again opens o t (Some (task.asked batches fs (ask.Call to method args) block)) is all_so =
      let new = wrote batches (record o { fields = fs }) in
      before_opens (map batch batches) _ (outside_opens (again new) new (record t { block = block }) (refusal (t.depth + 1) t.made)
      (λ number. message.Call l.incarnation number to method args (t.depth + 1)) (λ u. opens new u all_so) all_so
      (λ within. subst (IsSaid l all (o.made + 1)) (sym is) tt))
  turn_opens again opens o t (Some (task.asked batches fs (ask.Fetch value) block)) is all_so =
      let new = wrote batches (record o { fields = fs }) in
      before_opens (map batch batches) _ (outside_opens (again new) new (record t { block = block }) (refusal 0 t.made)
      (λ number. message.Fetch l.incarnation number value) (λ u. opens new u all_so) all_so
      (λ within. subst (IsSaid l all (o.made + 1)) (sym is) (within (l.incarnation, o.made + 1) (Contains-push [] (l.incarnation, o.made + 1)))))
  turn_opens again opens o t (Some (task.done batches fs v)) is all_so =
      let new = wrote batches (record o { fields = fs }) in before_opens (map batch batches) (on_done new t.purpose v) (done_opens new t.purpose v all_so)
  turn_opens again opens o t (Some (task.threw batches fs v reset)) is all_so =
      let new = wrote batches (record o { fields = fs }) in before_opens (map batch batches) (on_threw reset new t.purpose v) (threw_opens reset new t.purpose v all_so)
  turn_opens again opens o t (Some (task.exceeded batches)) is all_so =
      before_opens (map batch batches) (on_exceeded t.purpose) (exceeded_opens t.purpose)

  -- A task runs,
  runs_open : (n : ℕ) (o : Object) (t : OpenTask) → Opens l answered all o → StepOpens l answered all (runs n l o t)
  runs_open zero o t is = λ within. is
  runs_open (suc n) o t is = turn_opens (λ new u. runs n l new u) (λ new u. runs_open n new u) o t (latest_turn l t) refl is

  -- and an event begins one.
  handler_opens : (o : Object) (method retry : Option ℕ) → Opens l answered all o → StepOpens l answered all (begins_handler l o method retry)
  handler_opens o (Some method) (Some retry) is = runs_open most_refused o (fresh (handles retry) method (steps.alarm_info retry ∷ []) 0 o) is
  handler_opens o (Some method) None is = λ within. is
  handler_opens o None retry is = λ within. is

  -- Each event.
  begins_open : (o : Object) (e : Event) → Opens l answered all o → StepOpens l answered all (steps.begins l o e)
  begins_open o (event.Call caller method args depth at) is = runs_open most_refused o _ is
  begins_open o (event.Tick at) is = handler_opens o (handler_of l.script l.class) o.handler is
  begins_open o (event.Bind identity) is = λ within. is
  begins_open o (event.Answer incarnation number result at) is = λ within. is
  begins_open o (event.Evict at) is = λ within. is

  -- The event that waited for the constructor begins its task.
  parked_opens : (o : Object) (started : Bool) (parked : Option Event) → Opens l answered all o → StepOpens l answered all (begins_parked l o started parked)
  parked_opens o true (Some e) is = begins_open (record o { parked = None }) e is
  parked_opens o true None is = λ within. is
  parked_opens o false parked is = λ within. is

  -- It begins where a state is idle.
  state_opens : (says : List Body) (state : State) → (Within (fetched says) all → StateOpens l answered all state)
      → StepOpens l answered all (before says (on_state l state))
  state_opens says (idle o) is within =
      let next : Step = begins_parked l o o.started o.parked in
      parked_opens o o.started o.parked (is (left_within says next.says within)) (right_within says next.says within)
  state_opens says (waiting o t b) is within = is (left_within says [] within)
  state_opens says (ended c) is within = tt

  -- So it does behind a step of a constructor.
  then_opens : (purpose : Purpose) (s : Step) → StepOpens l answered all s → StepOpens l answered all (then_parked l purpose s)
  then_opens starts s opens = state_opens s.says s.state opens
  then_opens (handles retry) s opens = opens
  then_opens (serves caller) s opens = opens

  -- A task with what waited for it.
  task_opens : (o : Object) (t : OpenTask) → Opens l answered all o → StepOpens l answered all (then_parked l t.purpose (goes_on l o t))
  task_opens o t is = then_opens t.purpose (goes_on l o t) (runs_open most_refused o t is)

  -- An event that starts its object,
  starts_open : (o : Object) (e : Event) (depth : ℕ) (constructor : Option ℕ) → Opens l answered all o
      → StepOpens l answered all (starts_by l o e depth constructor)
  starts_open o e depth None is = begins_open (record o { started = true }) e is
  starts_open o e depth (Some constructor) is = task_opens (record o { parked = Some e }) (fresh starts constructor [] depth o) is

  -- one that arrives,
  arrives_open : (o : Object) (e : Event) (depth : ℕ) → Opens l answered all o → StepOpens l answered all (arrives l o e depth)
  arrives_open o e depth is =
      either_opens o.started (steps.begins l o e) (starts_by l o e depth (constructor_of l.script l.class)) (begins_open o e is)
      (starts_open o e depth (constructor_of l.script l.class) is)

  -- and a tick that is due.
  due_opens : (o : Object) (e : Event) (alarm : Option (ℤ × ℕ)) (method : Option ℕ) → Opens l answered all o
      → StepOpens l answered all (handles_due l o e alarm method)
  due_opens o e (Some alarm) (Some method) is = arrives_open (record o { handler = Some alarm.1; touched = false }) e 0 is
  due_opens o e (Some alarm) None is = handled_opens (Some op.ClearAlarm) o is
  due_opens o e None None is = handled_opens (Some op.ClearAlarm) o is
  due_opens o e None (Some method) is = λ within. is

  -- The answer to a call or a fetch.
  answer_opens : (o : Object) (t : Option OpenTask) (a : Answer) → MeetsBy l answered all o t → StepOpens l answered all (on_answer l o t a)
  answer_opens o None a is = λ within. is
  answer_opens o (Some t) a is = task_opens (record o { tasks = tasks_but t.number o.tasks }) (resumed o t a) is

  -- Each event that is delivered.
  event_opens : (o : Object) (e : Event) → Meets l answered all o e → StepOpens l answered all (on_event l o e)
  event_opens o (event.Bind identity) is = λ within. is
  event_opens o (event.Call caller method args depth at) is = arrives_open o (event.Call caller method args depth at) depth is
  event_opens o (event.Answer incarnation number result at) is = answer_opens o (task_under number o.tasks) (answer_of result) is
  event_opens o (event.Tick at) is =
      either_opens (is_due o.alarm (is_some o.handler) at) (handles_due l o (event.Tick at) o.alarm (handler_of l.script l.class)) (rests o)
      (due_opens o (event.Tick at) o.alarm (handler_of l.script l.class) is) (λ within. is)
  event_opens o (event.Evict at) is = λ within. is

  -- So a step at an event,
  clocked : (o : Object) (e : Event) → Meets l answered all o e → Meets l answered all (record o { clock = int_max o.clock (moment_of e) }) e
  clocked o (event.Bind identity) is = is
  clocked o (event.Call caller method args depth at) is = is
  clocked o (event.Answer incarnation number result at) is = by_task (task_under number o.tasks) is
    where
      by_task : (t : Option OpenTask) → MeetsBy l answered all o t → MeetsBy l answered all (record o { clock = int_max o.clock at }) t
      by_task None so = so
      by_task (Some t) so = so
  clocked o (event.Tick at) is = is
  clocked o (event.Evict at) is = is

  pub delivers_opens : (o : Object) (e : Event) → Meets l answered all o e → StepOpens l answered all (delivers l o e)
  delivers_opens o e is = event_opens (record o { clock = int_max o.clock (moment_of e) }) e (clocked o e is)

  -- and one at an answer of the storage.
  pub answers_open : (o : Object) (t : OpenTask) (a : Answer) → Opens l answered all o → StepOpens l answered all (answers l o t a)
  answers_open o t a is = task_opens o (resumed o t (hides o.handler o.touched a)) is
