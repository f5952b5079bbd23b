-- The bound on the storage waits of one event doesn't show over the map, and no event is left waiting.
use Rattle.std.proofs.Common.{◌≡◌, ◌∙◌, sym, refl, ap, ℕ, zero, suc, ◌+◌, ◌≤◌, Bool, true, false, List, [], ◌∷◌, count_by, arith, if◌then◌else◌}
use Rattle.std.specs.Int.{int_max}
use Rattle.std.specs.Prelude.{Option, Some, None, is_some, ℤ}
use Rattle.do_tree.specs.Lookup.{constructor_of, alarm_of as handler_of}
use Rattle.do_value.specs.Tree.{Tree}
use Rattle.alarm_core.specs.AlarmRule.{is_due, after_success, after_failure}
use Rattle.storage_map.specs.Contents.{Contents}
use Rattle.storage_map.specs.declared.op.Op.{Op}
use Rattle.write_batcher.specs.declared.batcher.Made.{Made}
use Rattle.storage_map.specs.declared.op.Op.TheVariants as op
use Rattle.script_mean.specs.Limits.{most_storage_awaits}
use Rattle.script_mean.specs.Task as task
use Rattle.script_mean.specs.Task.{Segment}
use Rattle.script_mean.specs.declared.answer.Answer.{Answer}
use Rattle.script_mean.specs.declared.ask.Ask.{Ask}
use Rattle.script_mean.specs.declared.ask.Ask.TheVariants as ask
use Rattle.timeline.proofs.Asking.{asks_few, AskedAfter, after_none, goes_after, storage_asks}
use Rattle.timeline.specs.Intake.{serves as in_mode, Taken, delivered, noticed, wanted}
use Rattle.timeline.specs.Laws.{asks_storage, turns_of, by_map_within, IsAtRest, FitsMap, AreTheMaps}
use Rattle.timeline.specs.Object.{Life, Purpose, starts, handles, serves, OpenTask, Object, task_under, tasks_but, State, idle, waiting, ended, Step}
use Rattle.timeline.specs.Steps as steps
use Rattle.timeline.specs.Steps.{rests, wrote, fresh, resumed, latest_turn, outside, asks_written, refusal, on_ask, handled, on_done, on_threw, on_exceeded, on_turn, runs, goes_on, begins_handler, begins_parked, on_state, then_parked, starts_by, arrives, handles_due, on_tick, answer_of, moment_of, on_answer, on_event, delivers, hides, answers, most_refused}
use Rattle.timeline.specs.Told.{Run, stands, by_map, settles, stored_answer, written, written_by, event_step, told_from, after_saying, most_waits}
use Rattle.timeline.specs.declared.entry.Body.{Body}
use Rattle.timeline.specs.declared.event.Event.{Event}
use Rattle.timeline.specs.declared.event.Event.TheVariants as event
use Rattle.timeline.specs.declared.message.Message.{Message}

-- The awaits of the tasks of one event: of the constructor and one task.
waits_is : most_waits ≡ most_storage_awaits + most_storage_awaits
unfolding most_waits
waits_is = refl

-- How many awaits the task that runs behind a task may make: behind a constructor there may be one.
abbrev behind : Purpose → ℕ
behind starts = most_storage_awaits
behind (handles retry) = 0
behind (serves from) = 0

-- How often a task has awaited the storage.
abbrev awaited : Life → OpenTask → ℕ
awaited l t = count_by asks_storage (turns_of l t)

at_most : (l : Life) (t : OpenTask) → awaited l t ≤ most_storage_awaits
at_most l t = (asks_few l.script l.class t.method t.args t.first t.resumes).storage

-- From here on the storage is waited for so many times at most.
abbrev pub Within : ℕ → Life → State → Type 0
Within n l (idle o) = Unit {0}
Within n l (ended c) = Unit {0}
Within n l (waiting o t b) = suc most_storage_awaits + behind t.purpose ≤ n + awaited l t

-- A write's completion is waited for.
written_within : (n : ℕ) (l : Life) (o : Object) (t : OpenTask) (tail : ℕ) (batches : List Made)
    → suc most_storage_awaits + behind t.purpose ≤ n + awaited l t → Within n l (asks_written o t tail batches).state
written_within n l o t tail [] le = tt
written_within n l o t tail (ops ∷ []) le = le
written_within n l o t tail (ops ∷ next ∷ batches) le = written_within n l o t tail (next ∷ batches) le

-- A call or a fetch leaves, or is refused.
outside_within : (n : ℕ) (l : Life) (again : OpenTask → Step) (o : Object) (t : OpenTask) (refused : Option Answer) (message : ℕ → Message)
    → ((a : Answer) → Within n l (again (resumed o t a)).state) → Within n l (outside again o t refused message).state
outside_within n l again o t None message kept = tt
outside_within n l again o t (Some a) message kept = kept a

-- An ask,
ask_within : (n : ℕ) (l : Life) (again : OpenTask → Step) (o : Object) (t : OpenTask) (batches : List Made) (a : Ask)
    → (asks_storage (task.asked batches o.fields a t.block) ≡ true → suc most_storage_awaits + behind t.purpose ≤ n + awaited l t)
    → ((x : Answer) → Within n l (again (resumed o t x)).state) → Within n l (on_ask again l o t batches a).state
ask_within n l again o t batches (ask.Store a) le kept = le refl
ask_within n l again o t batches (ask.Open a) le kept = le refl
ask_within n l again o t batches (ask.Written tail) le kept = written_within n l o t tail batches (le refl)
ask_within n l again o t batches ask.Sync le kept = le refl
ask_within n l again o t batches (ask.Call to method args) le kept = outside_within n l again o t (refusal (t.depth + 1) t.made) _ kept
ask_within n l again o t batches (ask.Fetch value) le kept = outside_within n l again o t (refusal 0 t.made) _ kept

-- the end of a task,
handled_within : (n : ℕ) (l : Life) (made : Option Op) (o : Object) → Within n l (handled made o).state
handled_within n l None o = tt
handled_within n l (Some made) o = tt

done_within : (n : ℕ) (l : Life) (o : Object) (purpose : Purpose) (v : Tree) → Within n l (on_done o purpose v).state
done_within n l o starts v = tt
done_within n l o (handles retry) v = handled_within n l (after_success o.touched) o
done_within n l o (serves from) v = tt

threw_within : (n : ℕ) (l : Life) (reset : Bool) (o : Object) (purpose : Purpose) (v : Tree) → Within n l (on_threw reset o purpose v).state
threw_within n l true o starts v = tt
threw_within n l true o (handles retry) v = tt
threw_within n l true o (serves from) v = tt
threw_within n l false o starts v = tt
threw_within n l false o (handles retry) v = handled_within n l (after_failure retry o.touched o.clock) o
threw_within n l false o (serves from) v = tt

exceeded_within : (n : ℕ) (l : Life) (purpose : Purpose) → Within n l (on_exceeded purpose).state
exceeded_within n l starts = tt
exceeded_within n l (handles retry) = tt
exceeded_within n l (serves from) = tt

-- and so what follows a turn.
turn_within : (n : ℕ) (again : Object → OpenTask → Step) (l : Life) (o : Object) (t : OpenTask) (turn : Option Segment)
    → ((s : Segment) → turn ≡ Some s → asks_storage s ≡ true → suc most_storage_awaits + behind t.purpose ≤ n + awaited l t)
    → ((new : Object) (block : Bool) (a : Answer) → Within n l (again new (resumed new (record t { block = block }) a)).state)
    → Within n l (on_turn again l o t turn).state
turn_within n again l o t None le kept = tt
turn_within n again l o t (Some (task.asked batches fs a block)) le kept =
    let new = wrote batches (record o { fields = fs }) in
    ask_within n l (again new) new (record t { block = block }) batches a (le (task.asked batches fs a block) refl) (kept new block)
turn_within n again l o t (Some (task.done batches fs v)) le kept = done_within n l (wrote batches (record o { fields = fs })) t.purpose v
turn_within n again l o t (Some (task.threw batches fs v reset)) le kept =
    threw_within n l reset (wrote batches (record o { fields = fs })) t.purpose v
turn_within n again l o t (Some (task.exceeded batches)) le kept = exceeded_within n l t.purpose

-- A task that has awaited the storage k times before its latest turn.
runs_within : (i n : ℕ) (l : Life) (o : Object) (t : OpenTask) (k : ℕ) → AskedAfter asks_storage k (turns_of l t)
    → most_storage_awaits + behind t.purpose ≤ n + k → Within n l (runs i l o t).state
runs_within zero n l o t k after le = tt
runs_within (suc i) n l o t k after le =
    turn_within n (λ new u. runs i l new u) l o t (latest_turn l t) (λ s last it_is. omega (arith, le, after.latest s last it_is))
    (λ new block a.
    runs_within i n l new (resumed new (record t { block = block }) a) k
    (goes_after asks_storage storage_asks l new (record t { block = block }) a k after.so_far) le)

-- One that begins, with no task behind it.
fresh_within : (n : ℕ) (l : Life) (o : Object) (t : OpenTask) → behind t.purpose ≡ 0 → most_storage_awaits ≤ n → Within n l (goes_on l o t).state
fresh_within n l o t none le = runs_within most_refused n l o t 0 (after_none asks_storage (turns_of l t)) (omega (arith, none, le))

handler_within : (n : ℕ) (l : Life) (o : Object) (method retry : Option ℕ) → most_storage_awaits ≤ n
    → Within n l (begins_handler l o method retry).state
handler_within n l o (Some method) (Some retry) le = fresh_within n l o _ refl le
handler_within n l o (Some method) None le = tt
handler_within n l o None retry le = tt

begins_within : (n : ℕ) (l : Life) (o : Object) (e : Event) → most_storage_awaits ≤ n → Within n l (steps.begins l o e).state
begins_within n l o (event.Call from method args depth at) le = fresh_within n l o _ refl le
begins_within n l o (event.Tick at) le = handler_within n l o (handler_of l.script l.class) o.handler le
begins_within n l o (event.Bind identity) le = tt
begins_within n l o (event.Answer incarnation number result at) le = tt
begins_within n l o (event.Evict at) le = tt

parked_within : (n : ℕ) (l : Life) (o : Object) (started : Bool) (parked : Option Event) → most_storage_awaits ≤ n
    → Within n l (begins_parked l o started parked).state
parked_within n l o true (Some e) le = begins_within n l (record o { parked = None }) e le
parked_within n l o true None le = tt
parked_within n l o false parked le = tt

state_within : (n : ℕ) (l : Life) (state : State) → Within n l state → most_storage_awaits ≤ n → Within n l (on_state l state).state
state_within n l (idle o) within le = parked_within n l o o.started o.parked le
state_within n l (waiting o t b) within le = within
state_within n l (ended c) within le = tt

then_within : (n : ℕ) (l : Life) (purpose : Purpose) (s : Step) → Within n l s.state → behind purpose ≤ n → Within n l (then_parked l purpose s).state
then_within n l starts s within le = state_within n l s.state within le
then_within n l (handles retry) s within le = within
then_within n l (serves from) s within le = within

-- A task, with the one behind it.
task_within : (n : ℕ) (l : Life) (o : Object) (t : OpenTask) (k : ℕ) → AskedAfter asks_storage k (turns_of l t)
    → most_storage_awaits + behind t.purpose ≤ n + k → behind t.purpose ≤ n → Within n l (then_parked l t.purpose (goes_on l o t)).state
task_within n l o t k after le less = then_within n l t.purpose (goes_on l o t) (runs_within most_refused n l o t k after le) less

behind_is : (purpose : Purpose) → behind purpose ≤ most_storage_awaits
behind_is starts = omega arith
behind_is (handles retry) = omega arith
behind_is (serves from) = omega arith

-- Any task of an event, with the one behind it, is within the bound.
first_within : (n : ℕ) → most_waits ≤ n → (l : Life) (o : Object) (t : OpenTask) → Within n l (then_parked l t.purpose (goes_on l o t)).state
first_within n le l o t =
    let less = behind_is t.purpose in
    task_within n l o t 0 (after_none asks_storage (turns_of l t)) (omega (arith, waits_is, le, less)) (omega (arith, waits_is, le, less))

if_within : (b : Bool) (n : ℕ) (l : Life) (s q : Step) → Within n l s.state → Within n l q.state → Within n l (if b then s else q).state
if_within true n l s q one other = one
if_within false n l s q one other = other

-- So an event is.
module _ (n : ℕ) (le : most_waits ≤ n) where
  enough : most_storage_awaits ≤ n
  enough = omega (arith, waits_is, le)

  starts_within : (l : Life) (o : Object) (e : Event) (depth : ℕ) (constructor : Option ℕ) → Within n l (starts_by l o e depth constructor).state
  starts_within l o e depth None = begins_within n l (record o { started = true }) e enough
  starts_within l o e depth (Some constructor) = first_within n le l (record o { parked = Some e }) (fresh starts constructor [] depth o)

  arrives_within : (l : Life) (o : Object) (e : Event) (depth : ℕ) → Within n l (arrives l o e depth).state
  arrives_within l o e depth =
      if_within o.started n l (steps.begins l o e) (starts_by l o e depth (constructor_of l.script l.class)) (begins_within n l o e enough)
      (starts_within l o e depth (constructor_of l.script l.class))

  due_within : (l : Life) (o : Object) (e : Event) (alarm : Option (ℤ × ℕ)) (method : Option ℕ) → Within n l (handles_due l o e alarm method).state
  due_within l o e (Some alarm) (Some method) = arrives_within l (record o { handler = Some alarm.1; touched = false }) e 0
  due_within l o e (Some alarm) None = handled_within n l (Some op.ClearAlarm) o
  due_within l o e None None = handled_within n l (Some op.ClearAlarm) o
  due_within l o e None (Some method) = tt

  answer_within : (l : Life) (o : Object) (t : Option OpenTask) (a : Answer) → Within n l (on_answer l o t a).state
  answer_within l o None a = tt
  answer_within l o (Some t) a = first_within n le l (record o { tasks = tasks_but t.number o.tasks }) (resumed o t a)

  event_within : (l : Life) (o : Object) (e : Event) → Within n l (on_event l o e).state
  event_within l o (event.Bind identity) = tt
  event_within l o (event.Call from method args depth at) = arrives_within l o (event.Call from method args depth at) depth
  event_within l o (event.Answer incarnation number result at) = answer_within l o (task_under number o.tasks) (answer_of result)
  event_within l o (event.Tick at) =
      if_within (is_due o.alarm (is_some o.handler) at) n l (handles_due l o (event.Tick at) o.alarm (handler_of l.script l.class)) (rests o)
      (due_within l o (event.Tick at) o.alarm (handler_of l.script l.class)) tt
  event_within l o (event.Evict at) = tt

  pub delivers_within : (l : Life) (o : Object) (e : Event) → Within n l (delivers l o e).state
  delivers_within l o e = event_within l (record o { clock = int_max o.clock (moment_of e) }) e

-- After an answer one less is waited for; and one at least is left before it.
pub answers_within : (n : ℕ) (l : Life) (o : Object) (t : OpenTask) (b : Body) (a : Answer) → Within (suc n) l (waiting o t b)
    → Within n l (answers l o t a).state
answers_within n l o t b a within =
    let seen = hides o.handler o.touched a in
    let after = goes_after asks_storage storage_asks l o t seen (awaited l t) (omega arith) in
    task_within n l o (resumed o t seen) (awaited l t) after (omega (arith, within)) (omega (arith, within, at_most l t))

pub one_left : (l : Life) (o : Object) (t : OpenTask) (b : Body) → Within zero l (waiting o t b) → ⊥
one_left l o t b within = omega (arith, within, at_most l t)

-- An object that waits for nothing settles at once.
settled_idle : (by n : ℕ) (l : Life) (m : Contents) (o : Object) → settles (by_map_within by) n l m (idle o) ≡ stands m (idle o)
settled_idle by zero l m o = refl
settled_idle by (suc n) l m o = refl

-- Within two bounds it settles the same.
settles_same : (by by' n n' : ℕ) (l : Life) (m : Contents) (state : State) → Within n l state → Within n' l state
    → settles (by_map_within by) n l m state ≡ settles (by_map_within by') n' l m state
settles_same by by' n n' l m (idle o) within within' = settled_idle by n l m o ∙ sym (settled_idle by' n' l m o)
settles_same by by' zero zero l m (ended c) within within' = refl
settles_same by by' zero (suc n') l m (ended c) within within' = refl
settles_same by by' (suc n) zero l m (ended c) within within' = refl
settles_same by by' (suc n) (suc n') l m (ended c) within within' = refl
settles_same by by' zero n' l m (waiting o t b) within within' = absurd (one_left l o t b within)
settles_same by by' (suc n) zero l m (waiting o t b) within within' = absurd (one_left l o t b within')
settles_same by by' (suc n) (suc n') l m (waiting o t b) within within' =
    let a = stored_answer m b in
    let step = answers l o t a in
    ap (after_saying (b ∷ step.says))
    (settles_same by by' n n' l (written (written_by m b) step.says) step.state (answers_within n l o t b a within) (answers_within n' l o t b a within'))

-- It comes to its end.
settles_end : (n : ℕ) (l : Life) (m : Contents) (state : State) → Within n l state → IsAtRest (in_mode (settles by_map n l m state).state)
settles_end zero l m (idle o) within = tt
settles_end (suc n) l m (idle o) within = tt
settles_end zero l m (ended c) within = tt
settles_end (suc n) l m (ended c) within = tt
settles_end zero l m (waiting o t b) within = one_left l o t b within
settles_end (suc n) l m (waiting o t b) within =
    let step = answers l o t (stored_answer m b) in
    settles_end n l (written (written_by m b) step.says) step.state (answers_within n l o t b (stored_answer m b) within)

-- So does an event,
event_same : (n : ℕ) → most_waits ≤ n → (l : Life) (m : Contents) (state : State) (e : Event)
    → event_step (by_map_within n) l m state e ≡ event_step by_map l m state e
event_same n le l m (idle o) e =
    let step = delivers l o e in
    ap (after_saying step.says)
    (settles_same n most_waits n most_waits l (written m step.says) step.state (delivers_within n le l o e) (delivers_within most_waits (omega arith) l o e))
event_same n le l m (waiting o t b) e = refl
event_same n le l m (ended c) e = refl

event_ends : (l : Life) (m : Contents) (state : State) (e : Event) → IsAtRest (in_mode state) → IsAtRest (in_mode (event_step by_map l m state e).state)
event_ends l m (idle o) e rest =
    let step = delivers l o e in settles_end most_waits l (written m step.says) step.state (delivers_within most_waits (omega arith) l o e)
event_ends l m (waiting o t b) e rest = rest
event_ends l m (ended c) e rest = tt

-- and each of them.
pub told_same : (n : ℕ) → most_waits ≤ n → (l : Life) (m : Contents) (state : State) (events : List Event)
    → told_from (by_map_within n) l m state events ≡ told_from by_map l m state events
told_same n le l m state [] = refl
told_same n le l m state (e ∷ events) =
    let r = event_step by_map l m state e in
    ap (λ (q : Run Contents). after_saying q.says (told_from (by_map_within n) l q.storage q.state events)) (event_same n le l m state e)
    ∙ ap (after_saying r.says) (told_same n le l r.storage r.state events)

pub told_ends : (l : Life) (m : Contents) (state : State) (events : List Event) → IsAtRest (in_mode state)
    → IsAtRest (in_mode (told_from by_map l m state events).state)
told_ends l m state [] rest = rest
told_ends l m state (e ∷ events) rest =
    let r = event_step by_map l m state e in told_ends l r.storage r.state events (event_ends l m state e rest)

-- Where an intake's answers are the map's, no more come to one event than it may wait.
pub fits : (n : ℕ) (l : Life) (m : Contents) (state : State) (taken : List Taken) → Within n l state → AreTheMaps l m state taken
    → FitsMap n l m state taken
fits n l m state [] within are = tt
fits n l m (idle o) (delivered e ∷ taken) within are =
    let step = delivers l o e in fits most_waits l (written m step.says) step.state taken (delivers_within most_waits (omega arith) l o e) are
fits zero l m (waiting o t b) (noticed x ∷ taken) within are = absurd (one_left l o t b within)
fits (suc n) l m (waiting o t b) (noticed x ∷ taken) within are =
    let step = answers l o t (stored_answer m b) in
    (are.0, fits n l (written (written_by m b) step.says) step.state taken (answers_within n l o t b (stored_answer m b) within) are.1)
fits n l m (waiting o t b) (delivered e ∷ taken) within are = absurd are
fits n l m (ended c) (delivered e ∷ taken) within are = absurd are
fits n l m (idle o) (noticed x ∷ taken) within are = absurd are
fits n l m (ended c) (noticed x ∷ taken) within are = absurd are
fits n l m (idle o) (wanted e ∷ taken) within are = absurd are
fits n l m (waiting o t b) (wanted e ∷ taken) within are = absurd are
fits n l m (ended c) (wanted e ∷ taken) within are = absurd are
