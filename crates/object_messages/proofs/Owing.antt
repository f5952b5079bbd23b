-- A step replies to a caller no more often than it was owed to him before.
use Rattle.std.proofs.Common.{◌≡◌, ◌∙◌, sym, refl, ap, subst, ℕ, zero, suc, ◌+◌, ◌≤◌, List, [], ◌∷◌, arith}
use Rattle.std.proofs.lemmas.List.Sums.{sum_by-cons, sum_by-append}
use Rattle.std.proofs.lemmas.Bool.{eqb-true, eq-eqb}
use Rattle.std.specs.Int.{int_max}
use Rattle.std.specs.List.{sum_by}
use Rattle.std.specs.Prelude.{ℤ, Bool, true, false, ◌==◌, map, if◌then◌else◌, Option, Some, None, is_some}
use Rattle.do_value.specs.Tree.{Tree}
use Rattle.do_tree.specs.Lookup.{constructor_of, alarm_of as handler_of}
use Rattle.storage_map.specs.declared.op.Op.{Op}
use Rattle.write_batcher.specs.declared.batcher.Made.{Made}
use Rattle.storage_map.specs.declared.op.Op.TheVariants as op
use Rattle.script_mean.specs.Task as task
use Rattle.script_mean.specs.Task.{Segment}
use Rattle.script_mean.specs.declared.answer.Answer.{Answer}
use Rattle.script_mean.specs.declared.ask.Ask.{Ask}
use Rattle.script_mean.specs.declared.ask.Ask.TheVariants as ask
use Rattle.alarm_core.specs.AlarmRule.{is_due}
use Rattle.timeline.specs.Object.{Life, Purpose, starts, handles, serves, OpenTask, Object, task_under, tasks_but, State, idle, waiting, ended, Step}
use Rattle.timeline.specs.Steps as steps
use Rattle.timeline.specs.Steps.{rests, before, batch, confirmed, wrote, fresh, resumed, latest_turn, outside, asks, asks_written, refusal, on_ask, handled, on_done, on_threw, on_exceeded, on_turn, runs, goes_on, begins_handler, begins_parked, on_state, then_parked, starts_by, arrives, handles_due, on_answer, answer_of, on_event, delivers, answers, hides, most_refused, moment_of}
use Rattle.timeline.specs.declared.caller.Caller.{Caller}
use Rattle.timeline.specs.declared.entry.Body.{Body}
use Rattle.timeline.specs.declared.entry.Body.TheVariants as body
use Rattle.timeline.specs.declared.event.Event.{Event}
use Rattle.timeline.specs.declared.event.Event.TheVariants as event
use Rattle.timeline.specs.declared.message.Message.{Message}
use Rattle.object_messages.proofs.Counts.{told, calls}
use Rattle.object_messages.specs.Naming.{times}

-- What a task owes a caller, an event that waits for the constructor, and an object.
abbrev pub served : Purpose → List Caller
served (serves from) = from ∷ []
served purpose = []

abbrev pub task_owes : Caller → OpenTask → ℕ
task_owes from t = times from (served t.purpose)

abbrev pub parked_owes : Caller → Option Event → ℕ
parked_owes from None = 0
parked_owes from (Some e) = calls from e

abbrev pub object_owes : Caller → Object → ℕ
object_owes from o = sum_by (task_owes from) o.tasks + parked_owes from o.parked

-- What a state owes him, with the entry that it has said already; and what a step says to him and then owes.
abbrev pub state_owes : Caller → State → ℕ
state_owes from (idle o) = object_owes from o
state_owes from (waiting o t b) = told from b + object_owes from o + task_owes from t
state_owes from (ended c) = 0

abbrev pub Owes : Caller → ℕ → Step → Type 0
Owes from n s = sum_by (told from) s.says + state_owes from s.state ≤ n

-- What is said before a step.
before_owes : (from : Caller) (n m : ℕ) (xs : List Body) (s : Step) → Owes from n s → sum_by (told from) xs + n ≤ m → Owes from m (before xs s)
before_owes from n m xs s owes more = omega (arith, owes, more, sum_by-append (told from) xs s.says)

-- Batches reply to nobody.
batches_silent : (from : Caller) (batches : List Made) → sum_by (told from) (map batch batches) ≡ 0
batches_silent from [] = refl
batches_silent from (made ∷ batches) = omega (arith, batches_silent from batches, sum_by-cons (told from) (batch made) (map batch batches))

-- So batches before a step leave what it owes.
batches_owe : (from : Caller) (n : ℕ) (batches : List Made) (s : Step) → Owes from n s → Owes from n (before (map batch batches) s)
batches_owe from n batches s owes = before_owes from n n (map batch batches) s owes (omega (arith, batches_silent from batches))

-- One of two steps.
either_owes : (from : Caller) (n : ℕ) (b : Bool) (s q : Step) → Owes from n s → Owes from n q → Owes from n (if b then s else q)
either_owes from n true s q one other = one
either_owes from n false s q one other = other

-- What is within a number is within a greater one.
more_owes : (from : Caller) (n m : ℕ) (s : Step) → Owes from n s → n ≤ m → Owes from m s
more_owes from n m s owes more = omega (arith, owes, more)

-- A write's completion is waited for.
written_owes : (from : Caller) (o : Object) (t : OpenTask) (tail : ℕ) (batches : List Made)
    → Owes from (object_owes from o + task_owes from t) (asks_written o t tail batches)
written_owes from o t tail [] = omega arith
written_owes from o t tail (made ∷ []) = omega arith
written_owes from o t tail (made ∷ next ∷ batches) =
    let n = object_owes from o + task_owes from t in
    before_owes from n n (batch made ∷ []) (asks_written o t tail (next ∷ batches)) (written_owes from o t tail (next ∷ batches)) (omega arith)

-- A call or a fetch leaves and its task waits, or it is refused.
outside_owes : (from : Caller) (again : OpenTask → Step) (o : Object) (t : OpenTask) (refused : Option Answer) (message : ℕ → Message)
    → ((u : OpenTask) → Owes from (object_owes from o + task_owes from u) (again u))
    → told from (body.Message (message (o.made + 1))) ≡ 0
    → Owes from (object_owes from o + task_owes from t) (outside again o t refused message)
outside_owes from again o t (Some a) message owes silent = owes (resumed o t a)
outside_owes from again o t None message owes silent =
    let later : OpenTask = record t { number = o.made + 1; made = t.made + 1 } in
    omega (
      arith,
      silent,
      sum_by-append (task_owes from) o.tasks (later ∷ []),
      sum_by-cons (task_owes from) later [],
      sum_by-cons (told from) (body.Message (message (o.made + 1))) [],
    )

-- An ask,
ask_owes : (from : Caller) (again : OpenTask → Step) (l : Life) (o : Object) (t : OpenTask) (batches : List Made) (a : Ask)
    → ((u : OpenTask) → Owes from (object_owes from o + task_owes from u) (again u))
    → Owes from (object_owes from o + task_owes from t) (on_ask again l o t batches a)
ask_owes from again l o t batches (ask.Store a) owes =
    batches_owe from (object_owes from o + task_owes from t) batches (asks o t (body.Ask a false)) (omega arith)
ask_owes from again l o t batches (ask.Open a) owes =
    batches_owe from (object_owes from o + task_owes from t) batches (asks o t (body.Ask a false)) (omega arith)
ask_owes from again l o t batches (ask.Written tail) owes = written_owes from o t tail batches
ask_owes from again l o t batches ask.Sync owes =
    batches_owe from (object_owes from o + task_owes from t) batches (asks o t body.Sync) (omega arith)
ask_owes from again l o t batches (ask.Call to method args) owes =
    batches_owe from (object_owes from o + task_owes from t) batches _ (outside_owes from again o t (refusal (t.depth + 1) t.made) _ owes refl)
ask_owes from again l o t batches (ask.Fetch value) owes =
    batches_owe from (object_owes from o + task_owes from t) batches _ (outside_owes from again o t (refusal 0 t.made) _ owes refl)

-- the end of a task,
handled_owes : (from : Caller) (made : Option Op) (o : Object) → Owes from (object_owes from o) (handled made o)
handled_owes from None o = omega arith
handled_owes from (Some made) o = omega (arith, sum_by-cons (told from) (batch (confirmed (made ∷ []))) [])

-- where it is done,
done_owes : (from : Caller) (o : Object) (purpose : Purpose) (v : Tree)
    → Owes from (object_owes from o + times from (served purpose)) (on_done o purpose v)
done_owes from o starts v = omega arith
done_owes from o (handles retry) v = more_owes from (object_owes from o) _ (handled _ o) (handled_owes from _ o) (omega arith)
done_owes from o (serves caller) v = omega arith

-- where it threw,
threw_owes : (from : Caller) (reset : Bool) (o : Object) (purpose : Purpose) (v : Tree)
    → Owes from (object_owes from o + times from (served purpose)) (on_threw reset o purpose v)
threw_owes from true o starts v = omega arith
threw_owes from true o (handles retry) v = omega arith
threw_owes from true o (serves caller) v = omega arith
threw_owes from false o starts v = omega arith
threw_owes from false o (handles retry) v = more_owes from (object_owes from o) _ (handled _ o) (handled_owes from _ o) (omega arith)
threw_owes from false o (serves caller) v = omega arith

-- where it was stopped at a limit,
exceeded_owes : (from : Caller) (n : ℕ) (purpose : Purpose) → Owes from (n + times from (served purpose)) (on_exceeded purpose)
exceeded_owes from n starts = omega arith
exceeded_owes from n (handles retry) = omega arith
exceeded_owes from n (serves caller) = omega arith

-- and so what follows a turn.
turn_owes : (from : Caller) (again : Object → OpenTask → Step)
    → ((o : Object) (t : OpenTask) → Owes from (object_owes from o + task_owes from t) (again o t))
    → (l : Life) (o : Object) (t : OpenTask) (turn : Option Segment) → Owes from (object_owes from o + task_owes from t) (on_turn again l o t turn)
turn_owes from again owes l o t None = omega arith
turn_owes from again owes l o t (Some (task.asked batches fs a block)) =
    let new = wrote batches (record o { fields = fs }) in ask_owes from (again new) l new (record t { block = block }) batches a (owes new)
turn_owes from again owes l o t (Some (task.done batches fs v)) =
    let new = wrote batches (record o { fields = fs }) in
    batches_owe from (object_owes from o + task_owes from t) batches (on_done new t.purpose v) (done_owes from new t.purpose v)
turn_owes from again owes l o t (Some (task.threw batches fs v reset)) =
    let new = wrote batches (record o { fields = fs }) in
    batches_owe from (object_owes from o + task_owes from t) batches (on_threw reset new t.purpose v) (threw_owes from reset new t.purpose v)
turn_owes from again owes l o t (Some (task.exceeded batches)) =
    batches_owe from (object_owes from o + task_owes from t) batches (on_exceeded t.purpose) (exceeded_owes from (object_owes from o) t.purpose)

-- A task runs,
runs_owe : (from : Caller) (n : ℕ) (l : Life) (o : Object) (t : OpenTask) → Owes from (object_owes from o + task_owes from t) (runs n l o t)
runs_owe from zero l o t = omega arith
runs_owe from (suc n) l o t = turn_owes from (λ new u. runs n l new u) (λ new u. runs_owe from n l new u) l o t (latest_turn l t)

-- and an event begins one.
handler_owes : (from : Caller) (l : Life) (o : Object) (method retry : Option ℕ) → Owes from (object_owes from o) (begins_handler l o method retry)
handler_owes from l o (Some method) (Some retry) =
    let t = fresh (handles retry) method (steps.alarm_info retry ∷ []) 0 o in
    more_owes from (object_owes from o + task_owes from t) (object_owes from o) (goes_on l o t) (runs_owe from most_refused l o t) (omega arith)
handler_owes from l o (Some method) None = omega arith
handler_owes from l o None retry = omega arith

-- Each event.
begins_owe : (from : Caller) (l : Life) (o : Object) (e : Event) → Owes from (object_owes from o + calls from e) (steps.begins l o e)
begins_owe from l o (event.Call caller method args depth at) = runs_owe from most_refused l o _
begins_owe from l o (event.Tick at) =
    more_owes from (object_owes from o) _ (steps.begins l o (event.Tick at)) (handler_owes from l o (handler_of l.script l.class) o.handler) (omega arith)
begins_owe from l o (event.Bind identity) = omega arith
begins_owe from l o (event.Answer incarnation number result at) = omega arith
begins_owe from l o (event.Evict at) = omega arith

-- The event that waited for the constructor begins its task.
parked_owe : (from : Caller) (l : Life) (o : Object) (started : Bool) (parked : Option Event) → o.parked ≡ parked
    → Owes from (object_owes from o) (begins_parked l o started parked)
parked_owe from l o true (Some e) is = more_owes from _ (object_owes from o) (steps.begins l (record o { parked = None }) e)
    (begins_owe from l (record o { parked = None }) e) (omega (arith, ap (parked_owes from) is))
parked_owe from l o true None is = omega arith
parked_owe from l o false parked is = omega arith

-- It begins where a state is idle.
state_owe : (from : Caller) (l : Life) (state : State) → Owes from (state_owes from state) (on_state l state)
state_owe from l (idle o) = parked_owe from l o o.started o.parked refl
state_owe from l (waiting o t b) = omega arith
state_owe from l (ended c) = omega arith

-- So it does behind a step of a constructor.
then_owes : (from : Caller) (n : ℕ) (l : Life) (purpose : Purpose) (s : Step) → Owes from n s → Owes from n (then_parked l purpose s)
then_owes from n l starts s owes = before_owes from (state_owes from s.state) n s.says (on_state l s.state) (state_owe from l s.state) (omega (arith, owes))
then_owes from n l (handles retry) s owes = owes
then_owes from n l (serves caller) s owes = owes

-- A task with what waited for it.
task_goes_on : (from : Caller) (l : Life) (o : Object) (t : OpenTask)
    → Owes from (object_owes from o + task_owes from t) (then_parked l t.purpose (goes_on l o t))
task_goes_on from l o t = then_owes from (object_owes from o + task_owes from t) l t.purpose (goes_on l o t) (runs_owe from most_refused l o t)

-- An event that starts its object,
starts_owe : (from : Caller) (l : Life) (o : Object) (e : Event) (depth : ℕ) (constructor : Option ℕ)
    → Owes from (object_owes from o + calls from e) (starts_by l o e depth constructor)
starts_owe from l o e depth None = begins_owe from l (record o { started = true }) e
starts_owe from l o e depth (Some constructor) =
    let waits : Object = record o { parked = Some e } in
    let t : OpenTask = fresh starts constructor [] depth o in
    more_owes from (object_owes from waits + task_owes from t) _ (starts_by l o e depth (Some constructor)) (task_goes_on from l waits t) (omega arith)

-- one that arrives,
arrives_owe : (from : Caller) (l : Life) (o : Object) (e : Event) (depth : ℕ) → Owes from (object_owes from o + calls from e) (arrives l o e depth)
arrives_owe from l o e depth =
    either_owes from _ o.started (steps.begins l o e) (starts_by l o e depth (constructor_of l.script l.class)) (begins_owe from l o e)
    (starts_owe from l o e depth (constructor_of l.script l.class))

-- and a tick that is due.
due_owes : (from : Caller) (l : Life) (o : Object) (e : Event) (alarm : Option (ℤ × ℕ)) (method : Option ℕ)
    → Owes from (object_owes from o + calls from e) (handles_due l o e alarm method)
due_owes from l o e (Some alarm) (Some method) = arrives_owe from l (record o { handler = Some alarm.1; touched = false }) e 0
due_owes from l o e (Some alarm) None =
    more_owes from (object_owes from o) _ (handled (Some op.ClearAlarm) o) (handled_owes from (Some op.ClearAlarm) o) (omega arith)
due_owes from l o e None None =
    more_owes from (object_owes from o) _ (handled (Some op.ClearAlarm) o) (handled_owes from (Some op.ClearAlarm) o) (omega arith)
due_owes from l o e None (Some method) = omega arith

-- The task that waits under a number and the others owe what all tasks owe.
others_owe : (from : Caller) (number : ℕ) (tasks : List OpenTask) (t : OpenTask) → task_under number tasks ≡ Some t
    → (t.number ≡ number) × (sum_by (task_owes from) (tasks_but t.number tasks) + task_owes from t ≡ sum_by (task_owes from) tasks)
others_owe from number [] t found = cc
others_owe from number (u ∷ ts) t found = by_first (u.number == number) refl (others_owe from number ts t)
  where
    by_first : (b : Bool) → (u.number == number) ≡ b
        → (task_under number ts ≡ Some t
        → (t.number ≡ number) × (sum_by (task_owes from) (tasks_but t.number ts) + task_owes from t ≡ sum_by (task_owes from) ts))
        → (t.number ≡ number) × (sum_by (task_owes from) (tasks_but t.number (u ∷ ts)) + task_owes from t ≡ sum_by (task_owes from) (u ∷ ts))
    by_first true here rest =
        let is : Some u ≡ Some t = sym (ap (λ (c : Bool). if c then Some u else task_under number ts) here) ∙ found in
        let same : u ≡ t = cc in
        subst (λ (x : OpenTask). (x.number ≡ number)
        × (sum_by (task_owes from) (tasks_but x.number (u ∷ ts)) + task_owes from x ≡ sum_by (task_owes from) (u ∷ ts)))
        same (eqb-true u.number number here, rw (eq-eqb u.number u.number refl) (omega (arith, sum_by-cons (task_owes from) u ts)))
    by_first false other rest =
        let found_there : task_under number ts ≡ Some t = sym (ap (λ (c : Bool). if c then Some u else task_under number ts) other) ∙ found in
        let further = rest found_there in
        let is_other : (u.number == t.number) ≡ false = ap (λ (n : ℕ). u.number == n) further.0 ∙ other in
        (further.0, rw is_other (omega (arith, further.1, sum_by-cons (task_owes from) u ts, sum_by-cons (task_owes from) u (tasks_but t.number ts))))

-- The answer to a call or a fetch.
answer_owes : (from : Caller) (l : Life) (o : Object) (number : ℕ) (t : Option OpenTask) (a : Answer) → task_under number o.tasks ≡ t
    → Owes from (object_owes from o) (on_answer l o t a)
answer_owes from l o number None a found = omega arith
answer_owes from l o number (Some t) a found =
    let rest : Object = record o { tasks = tasks_but t.number o.tasks } in
    more_owes from (object_owes from rest + task_owes from t) (object_owes from o) (on_answer l o (Some t) a)
    (task_goes_on from l rest (resumed o t a)) (omega (arith, (others_owe from number o.tasks t found).1))

-- Each event that is delivered.
event_owes : (from : Caller) (l : Life) (o : Object) (e : Event) → Owes from (object_owes from o + calls from e) (on_event l o e)
event_owes from l o (event.Bind identity) = omega (arith, sum_by-cons (told from) (body.Bind identity) [])
event_owes from l o (event.Call caller method args depth at) = arrives_owe from l o (event.Call caller method args depth at) depth
event_owes from l o (event.Answer incarnation number result at) =
    more_owes from (object_owes from o) _ (on_answer l o (task_under number o.tasks) (answer_of result))
    (answer_owes from l o number (task_under number o.tasks) (answer_of result) refl) (omega arith)
event_owes from l o (event.Tick at) =
    either_owes from _ (is_due o.alarm (is_some o.handler) at) (handles_due l o (event.Tick at) o.alarm (handler_of l.script l.class)) (rests o)
    (due_owes from l o (event.Tick at) o.alarm (handler_of l.script l.class)) (omega arith)
event_owes from l o (event.Evict at) = omega arith

-- So a step at an event, and one at an answer of the storage.
pub delivers_owes : (from : Caller) (l : Life) (o : Object) (e : Event) → Owes from (object_owes from o + calls from e) (delivers l o e)
delivers_owes from l o e = event_owes from l (record o { clock = int_max o.clock (moment_of e) }) e

-- The same at an answer of the storage.
pub answers_owes : (from : Caller) (l : Life) (o : Object) (t : OpenTask) (a : Answer)
    → Owes from (object_owes from o + task_owes from t) (answers l o t a)
answers_owes from l o t a = task_goes_on from l o (resumed o t (hides o.handler o.touched a))
