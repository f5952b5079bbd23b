-- The alarm that an object keeps is its map's.
use Rattle.std.proofs.Common.{◌≡◌, ◌∙◌, sym, refl, ap, subst, ℕ, zero, suc, List, [], ◌∷◌, ◌++◌, append-nil}
use Rattle.std.specs.Prelude.{ℤ, Bool, true, false, map, if◌then◌else◌, Option, Some, None, is_some}
use Rattle.std.specs.Int.{int_max}
use Rattle.std.specs.List.{flat_map}
use Rattle.do_value.specs.Tree.{Tree}
use Rattle.storage_map.specs.Contents.{Contents, apply, apply_op}
use Rattle.storage_map.specs.Stored.{alarm_after, alarm_step}
use Rattle.storage_map.specs.declared.op.Op.{Op}
use Rattle.write_batcher.specs.declared.batcher.Made.{Made}
use Rattle.storage_map.specs.declared.op.Op.TheVariants as op
use Rattle.script_mean.specs.Task as task
use Rattle.script_mean.specs.Task.{Segment}
use Rattle.script_mean.specs.declared.answer.Answer.{Answer}
use Rattle.script_mean.specs.declared.ask.Ask.{Ask}
use Rattle.script_mean.specs.declared.ask.Ask.TheVariants as ask
use Rattle.do_tree.specs.Lookup.{constructor_of, alarm_of as handler_of}
use Rattle.alarm_core.specs.AlarmRule.{is_due}
use Rattle.timeline.specs.Laws.{alarm_of}
use Rattle.timeline.specs.Object.{Life, Purpose, starts, handles, serves, OpenTask, Object, task_under, tasks_but, State, idle, waiting, ended, Step}
use Rattle.timeline.specs.Steps as steps
use Rattle.timeline.specs.Steps.{rests, before, batch, wrote, fresh, resumed, latest_turn, outside, asks, asks_written, on_ask, handled, on_done, on_thrown, on_threw, on_reset, on_exceeded, on_turn, runs, goes_on, begins_handler, begins_parked, on_state, then_parked, starts_by, arrives, handles_due, on_tick, answer_of, moment_of, on_answer, on_event, delivers, hides, answers, most_refused}
use Rattle.timeline.specs.Told.{by_map, settles, stored_answer, written, written_by, event_step, told_from, most_waits}
use Rattle.timeline.specs.declared.entry.Body.{Body}
use Rattle.timeline.specs.declared.entry.Body.TheVariants as body
use Rattle.timeline.specs.declared.event.Event.{Event}
use Rattle.timeline.specs.declared.event.Event.TheVariants as event
use Rattle.timeline.specs.declared.message.Message.{Message}

-- What operations make of a map's alarm.
step_alarm : (m : Contents) (o : Op) → (apply_op m o).alarm ≡ alarm_step m.alarm o
step_alarm m (op.Put key value) = refl
step_alarm m (op.Delete key) = refl
step_alarm m op.DeleteAll = refl
step_alarm m (op.SetAlarm time retry) = refl
step_alarm m op.ClearAlarm = refl

apply_alarm : (m : Contents) (ops : List Op) → (apply m ops).alarm ≡ alarm_after m.alarm ops
apply_alarm m [] = refl
apply_alarm m (o ∷ ops) = apply_alarm (apply_op m o) ops ∙ ap (λ (alarm : Option (ℤ × ℕ)). alarm_after alarm ops) (step_alarm m o)

after_both : (alarm : Option (ℤ × ℕ)) (xs ys : List Op) → alarm_after alarm (xs ++ ys) ≡ alarm_after (alarm_after alarm xs) ys
after_both alarm [] ys = refl
after_both alarm (x ∷ xs) ys = after_both (alarm_step alarm x) xs ys

abbrev all : List Made → List Op
all batches = flat_map (λ made. made.batch) batches

batches_alarm : (m : Contents) (batches : List Made) → (written m (map batch batches)).alarm ≡ alarm_after m.alarm (all batches)
batches_alarm m [] = refl
batches_alarm m (made ∷ batches) =
    batches_alarm (apply m made.batch) batches
    ∙ ap (λ (alarm : Option (ℤ × ℕ)). alarm_after alarm (all batches)) (apply_alarm m made.batch)
    ∙ sym (after_both m.alarm made.batch (all batches))

written_both : (m : Contents) (xs ys : List Body) → written m (xs ++ ys) ≡ written (written m xs) ys
written_both m [] ys = refl
written_both m (x ∷ xs) ys = written_both (written_by m x) xs ys

-- A step that leaves the object's alarm as its map's.
abbrev Keeps : Contents → Step → Type 0
Keeps m s = alarm_of s.state (written m s.says)

before_keeps : (m : Contents) (xs : List Body) (s : Step) → Keeps (written m xs) s → Keeps m (before xs s)
before_keeps m xs s kept = subst (λ (n : Contents). alarm_of s.state n) (sym (written_both m xs s.says)) kept

either_keeps : (b : Bool) (m : Contents) (s q : Step) → Keeps m s → Keeps m q → Keeps m (if b then s else q)
either_keeps true m s q one other = one
either_keeps false m s q one other = other

-- The alarm of an object after batches.
wrote_alarm : (m : Contents) (o : Object) (batches : List Made) → o.alarm ≡ m.alarm → (wrote batches o).alarm ≡ alarm_after m.alarm (all batches)
wrote_alarm m o batches same = ap (λ (alarm : Option (ℤ × ℕ)). alarm_after alarm (all batches)) same

written_keeps : (m : Contents) (o : Object) (t : OpenTask) (tail : ℕ) (batches : List Made) → o.alarm ≡ alarm_after m.alarm (all batches)
    → Keeps m (asks_written o t tail batches)
written_keeps m o t tail [] same = same
written_keeps m o t tail (made ∷ []) same = same ∙ ap (λ (xs : List Op). alarm_after m.alarm xs) (append-nil made.batch) ∙ sym (apply_alarm m made.batch)
written_keeps m o t tail (made ∷ next ∷ batches) same =
    before_keeps m (batch made ∷ []) (asks_written o t tail (next ∷ batches)) (written_keeps (apply m made.batch) o t tail (next ∷ batches)
    (same ∙ after_both m.alarm made.batch (all (next ∷ batches))
    ∙ ap (λ (alarm : Option (ℤ × ℕ)). alarm_after alarm (all (next ∷ batches))) (sym (apply_alarm m made.batch))))

outside_keeps : (m : Contents) (again : OpenTask → Step) → ((t : OpenTask) → Keeps m (again t)) → (o : Object) (t : OpenTask)
    (refused : Option Answer) (message : ℕ → Message) → o.alarm ≡ m.alarm → Keeps m (outside again o t refused message)
outside_keeps m again kept o t None message same = same
outside_keeps m again kept o t (Some a) message same = kept (resumed o t a)

ask_keeps : (m : Contents) (again : OpenTask → Step) (l : Life) (o : Object) (t : OpenTask) (batches : List Made) (a : Ask)
    → o.alarm ≡ alarm_after m.alarm (all batches) → ((u : OpenTask) → Keeps (written m (map batch batches)) (again u))
    → Keeps m (on_ask again l o t batches a)
ask_keeps m again l o t batches (ask.Store a) same kept = before_keeps m (map batch batches) (asks o t (body.Ask a false)) (same ∙ sym (batches_alarm m batches))
ask_keeps m again l o t batches (ask.Open a) same kept = before_keeps m (map batch batches) (asks o t (body.Ask a false)) (same ∙ sym (batches_alarm m batches))
ask_keeps m again l o t batches (ask.Written tail) same kept = written_keeps m o t tail batches same
ask_keeps m again l o t batches ask.Sync same kept = before_keeps m (map batch batches) (asks o t body.Sync) (same ∙ sym (batches_alarm m batches))
ask_keeps m again l o t batches (ask.Call to method args) same kept =
    before_keeps m (map batch batches) _ (outside_keeps (written m (map batch batches)) again kept o t _ _ (same ∙ sym (batches_alarm m batches)))
ask_keeps m again l o t batches (ask.Fetch value) same kept =
    before_keeps m (map batch batches) _ (outside_keeps (written m (map batch batches)) again kept o t _ _ (same ∙ sym (batches_alarm m batches)))

handled_keeps : (m : Contents) (made : Option Op) (o : Object) → o.alarm ≡ m.alarm → Keeps m (handled made o)
handled_keeps m None o same = same
handled_keeps m (Some made) o same =
    ap (λ (alarm : Option (ℤ × ℕ)). alarm_after alarm (made ∷ [])) same ∙ sym (apply_alarm m (made ∷ []))

done_keeps : (m : Contents) (o : Object) (purpose : Purpose) (v : Tree) → o.alarm ≡ m.alarm → Keeps m (on_done o purpose v)
done_keeps m o starts v same = same
done_keeps m o (handles retry) v same = handled_keeps m _ o same
done_keeps m o (serves from) v same = same

threw_keeps : (m : Contents) (reset : Bool) (o : Object) (purpose : Purpose) (v : Tree) → o.alarm ≡ m.alarm → Keeps m (on_threw reset o purpose v)
threw_keeps m true o starts v same = tt
threw_keeps m true o (handles retry) v same = tt
threw_keeps m true o (serves from) v same = tt
threw_keeps m false o starts v same = same
threw_keeps m false o (handles retry) v same = handled_keeps m _ o same
threw_keeps m false o (serves from) v same = same

exceeded_keeps : (m : Contents) (purpose : Purpose) → Keeps m (on_exceeded purpose)
exceeded_keeps m starts = tt
exceeded_keeps m (handles retry) = tt
exceeded_keeps m (serves from) = tt

turn_keeps : (again : Object → OpenTask → Step) → ((n : Contents) (o : Object) (t : OpenTask) → o.alarm ≡ n.alarm → Keeps n (again o t))
    → (m : Contents) (l : Life) (o : Object) (t : OpenTask) (turn : Option Segment) → o.alarm ≡ m.alarm → Keeps m (on_turn again l o t turn)
turn_keeps again kept m l o t None same = same
turn_keeps again kept m l o t (Some (task.asked batches fs a block)) same =
    let new = wrote batches (record o { fields = fs }) in
    ask_keeps m (again new) l new (record t { block = block }) batches a (wrote_alarm m o batches same)
    (λ u. kept (written m (map batch batches)) new u (wrote_alarm m o batches same ∙ sym (batches_alarm m batches)))
turn_keeps again kept m l o t (Some (task.done batches fs v)) same =
    let new = wrote batches (record o { fields = fs }) in
    before_keeps m (map batch batches) (on_done new t.purpose v)
    (done_keeps (written m (map batch batches)) new t.purpose v (wrote_alarm m o batches same ∙ sym (batches_alarm m batches)))
turn_keeps again kept m l o t (Some (task.threw batches fs v reset)) same =
    let new = wrote batches (record o { fields = fs }) in
    before_keeps m (map batch batches) (on_threw reset new t.purpose v)
    (threw_keeps (written m (map batch batches)) reset new t.purpose v (wrote_alarm m o batches same ∙ sym (batches_alarm m batches)))
turn_keeps again kept m l o t (Some (task.exceeded batches)) same =
    before_keeps m (map batch batches) (on_exceeded t.purpose) (exceeded_keeps (written m (map batch batches)) t.purpose)

runs_keep : (n : ℕ) (m : Contents) (l : Life) (o : Object) (t : OpenTask) → o.alarm ≡ m.alarm → Keeps m (runs n l o t)
runs_keep zero m l o t same = same
runs_keep (suc n) m l o t same = turn_keeps (λ new u. runs n l new u) (λ later new u. runs_keep n later l new u) m l o t (latest_turn l t) same

handler_keeps : (m : Contents) (l : Life) (o : Object) (method retry : Option ℕ) → o.alarm ≡ m.alarm → Keeps m (begins_handler l o method retry)
handler_keeps m l o (Some method) (Some retry) same = runs_keep most_refused m l o _ same
handler_keeps m l o (Some method) None same = same
handler_keeps m l o None retry same = same

begins_keep : (m : Contents) (l : Life) (o : Object) (e : Event) → o.alarm ≡ m.alarm → Keeps m (steps.begins l o e)
begins_keep m l o (event.Call from method args depth at) same = runs_keep most_refused m l o _ same
begins_keep m l o (event.Tick at) same = handler_keeps m l o (handler_of l.script l.class) o.handler same
begins_keep m l o (event.Bind identity) same = same
begins_keep m l o (event.Answer incarnation number result at) same = same
begins_keep m l o (event.Evict at) same = same

parked_keeps : (m : Contents) (l : Life) (o : Object) (started : Bool) (parked : Option Event) → o.alarm ≡ m.alarm → Keeps m (begins_parked l o started parked)
parked_keeps m l o true (Some e) same = begins_keep m l (record o { parked = None }) e same
parked_keeps m l o true None same = same
parked_keeps m l o false parked same = same

state_keeps : (m : Contents) (l : Life) (state : State) → alarm_of state m → Keeps m (on_state l state)
state_keeps m l (idle o) same = parked_keeps m l o o.started o.parked same
state_keeps m l (waiting o t b) same = same
state_keeps m l (ended c) same = same

then_keeps : (m : Contents) (l : Life) (purpose : Purpose) (s : Step) → Keeps m s → Keeps m (then_parked l purpose s)
then_keeps m l (handles retry) s kept = kept
then_keeps m l (serves from) s kept = kept
then_keeps m l starts s kept = before_keeps m s.says (on_state l s.state) (state_keeps (written m s.says) l s.state kept)

task_keeps : (m : Contents) (l : Life) (o : Object) (t : OpenTask) → o.alarm ≡ m.alarm → Keeps m (then_parked l t.purpose (goes_on l o t))
task_keeps m l o t same = then_keeps m l t.purpose (goes_on l o t) (runs_keep most_refused m l o t same)

starts_keep : (m : Contents) (l : Life) (o : Object) (e : Event) (depth : ℕ) (constructor : Option ℕ) → o.alarm ≡ m.alarm
    → Keeps m (starts_by l o e depth constructor)
starts_keep m l o e depth None same = begins_keep m l (record o { started = true }) e same
starts_keep m l o e depth (Some constructor) same = task_keeps m l (record o { parked = Some e }) (fresh starts constructor [] depth o) same

arrives_keep : (m : Contents) (l : Life) (o : Object) (e : Event) (depth : ℕ) → o.alarm ≡ m.alarm → Keeps m (arrives l o e depth)
arrives_keep m l o e depth same = either_keeps o.started m (steps.begins l o e) (starts_by l o e depth (constructor_of l.script l.class)) (begins_keep m l o e same) (starts_keep m l o e depth (constructor_of l.script l.class) same)

due_keeps : (m : Contents) (l : Life) (o : Object) (e : Event) (alarm : Option (ℤ × ℕ)) (method : Option ℕ) → o.alarm ≡ m.alarm
    → Keeps m (handles_due l o e alarm method)
due_keeps m l o e (Some alarm) (Some method) same = arrives_keep m l (record o { handler = Some alarm.1; touched = false }) e 0 same
due_keeps m l o e (Some alarm) None same = handled_keeps m (Some op.ClearAlarm) o same
due_keeps m l o e None None same = handled_keeps m (Some op.ClearAlarm) o same
due_keeps m l o e None (Some method) same = same

answer_keeps : (m : Contents) (l : Life) (o : Object) (t : Option OpenTask) (a : Answer) → o.alarm ≡ m.alarm → Keeps m (on_answer l o t a)
answer_keeps m l o None a same = same
answer_keeps m l o (Some t) a same = task_keeps m l (record o { tasks = tasks_but t.number o.tasks }) (resumed o t a) same

event_keeps : (m : Contents) (l : Life) (o : Object) (e : Event) → o.alarm ≡ m.alarm → Keeps m (on_event l o e)
event_keeps m l o (event.Bind identity) same = same
event_keeps m l o (event.Call from method args depth at) same = arrives_keep m l o (event.Call from method args depth at) depth same
event_keeps m l o (event.Answer incarnation number result at) same = answer_keeps m l o (task_under number o.tasks) (answer_of result) same
event_keeps m l o (event.Tick at) same =
    either_keeps (is_due o.alarm (is_some o.handler) at) m (handles_due l o (event.Tick at) o.alarm (handler_of l.script l.class)) (rests o)
    (due_keeps m l o (event.Tick at) o.alarm (handler_of l.script l.class) same) same
event_keeps m l o (event.Evict at) same = same

delivers_keep : (m : Contents) (l : Life) (o : Object) (e : Event) → o.alarm ≡ m.alarm → Keeps m (delivers l o e)
delivers_keep m l o e same = event_keeps m l (record o { clock = int_max o.clock (moment_of e) }) e same

settles_keep : (n : ℕ) (m : Contents) (l : Life) (state : State) → alarm_of state m
    → alarm_of (settles by_map n l m state).state (settles by_map n l m state).storage
settles_keep zero m l state same = same
settles_keep (suc n) m l (idle o) same = same
settles_keep (suc n) m l (ended c) same = same
settles_keep (suc n) m l (waiting o t b) same =
    let step = answers l o t (stored_answer m b) in
    settles_keep n (written (written_by m b) step.says) l step.state (task_keeps (written_by m b) l o (resumed o t (hides o.handler o.touched (stored_answer m b))) same)

step_keeps : (m : Contents) (l : Life) (state : State) (e : Event) → alarm_of state m
    → alarm_of (event_step by_map l m state e).state (event_step by_map l m state e).storage
step_keeps m l (idle o) e same =
    let step = delivers l o e in settles_keep most_waits (written m step.says) l step.state (delivers_keep m l o e same)
step_keeps m l (waiting o t b) e same = same
step_keeps m l (ended c) e same = same

pub told_keeps : (l : Life) (m : Contents) (state : State) (events : List Event) → alarm_of state m
    → alarm_of (told_from by_map l m state events).state (told_from by_map l m state events).storage
told_keeps l m state [] same = same
told_keeps l m state (e ∷ events) same =
    let r = event_step by_map l m state e in told_keeps l r.storage r.state events (step_keeps m l state e same)
