-- A step of an object says nothing that is waited for but the entry that its state has, and a halt where it ends its incarnation.
use Rattle.std.proofs.Common.{◌≡◌, ◌∙◌, sym, refl, ap, subst, true≢false, ℕ, zero, suc, ◌+◌, List, [], ◌∷◌, ◌++◌, append_assoc, append-nil}
use Rattle.std.proofs.lemmas.List.Elements.{All-nil, All-cons, All-append, All-weaker}
use Rattle.std.specs.Int.{int_max}
use Rattle.std.specs.List.{All}
use Rattle.std.specs.Prelude.{ℤ, Bool, true, false, map, if◌then◌else◌, Option, Some, None, Err}
use Rattle.do_value.specs.Tree.{Tree}
use Rattle.do_tree.specs.Lookup.{constructor_of, alarm_of as handler_of}
use Rattle.storage_map.specs.declared.op.Op.{Op}
use Rattle.write_batcher.specs.declared.batcher.Made.{Made}
use Rattle.storage_map.specs.declared.op.Op.TheVariants as op
use Rattle.script_mean.specs.Task as task
use Rattle.script_mean.specs.Task.{Segment}
use Rattle.script_mean.specs.declared.answer.Answer.{Answer}
use Rattle.script_mean.specs.declared.ask.Ask.{Ask}
use Rattle.script_mean.specs.declared.ask.Ask.TheVariants as ask
use Rattle.timeline.specs.Object.{Life, Purpose, starts, handles, serves, OpenTask, Object, task_under, tasks_but, State, idle, waiting, ended, Step}
use Rattle.timeline.specs.Steps as steps
use Rattle.timeline.specs.Steps.{rests, before, batch, confirmed, wrote, fresh, resumed, latest_turn, outside, asks, asks_written, refusal, on_ask, handled, on_done, on_threw, on_exceeded, on_turn, runs, goes_on, begins_handler, begins_parked, on_state, then_parked, starts_by, arrives, handles_due, answer_of, moment_of, on_answer, on_event, delivers, hides, answers, halts, replies, most_refused}
use Rattle.timeline.specs.declared.caller.Cause.{Cause}
use Rattle.timeline.specs.declared.caller.Cause.TheVariants as cause
use Rattle.timeline.specs.declared.caller.Failure.TheVariants as failure
use Rattle.timeline.specs.declared.entry.Body.{Body}
use Rattle.timeline.specs.declared.entry.Body.TheVariants as body
use Rattle.timeline.specs.declared.event.Event.{Event}
use Rattle.timeline.specs.declared.event.Event.TheVariants as event
use Rattle.timeline.specs.declared.message.Message.{Message}
use Rattle.timeline.specs.History.{is_halting}
use Rattle.object_history.specs.Saying.{is_inner, is_plain, LeadBy, LeadTo, IsWellSaid}

abbrev IsPlain : Body → Type 0
IsPlain b = is_inner b ≡ true

abbrev ArePlain : List Body → Type 0
ArePlain bodies = All IsPlain bodies

abbrev Leads : List Body → State → Type 0
Leads said state = LeadBy is_inner said state

abbrev IsInner : Step → Type 0
IsInner step = Leads step.says step.state

-- Nothing, one entry, and batches.
none_plain : ArePlain []
none_plain = All-nil IsPlain

one_plain : (b : Body) → is_inner b ≡ true → ArePlain (b ∷ [])
one_plain b plain = All-cons IsPlain b [] plain none_plain

batches_plain : (batches : List Made) → ArePlain (map batch batches)
batches_plain [] = none_plain
batches_plain (made ∷ batches) = All-cons IsPlain (batch made) (map batch batches) refl (batches_plain batches)

-- More plain entries before what leads to a state.
lead_before : (xs says : List Body) (state : State) → ArePlain xs → Leads says state → Leads (xs ++ says) state
lead_before xs says (idle o) plain lead = All-append IsPlain xs says plain lead
lead_before xs says (waiting o t b) plain lead = (All-append IsPlain xs says plain lead.0, lead.1)
lead_before xs says (ended c) plain lead = (
  xs ++ lead.0,
  ap (λ (said : List Body). xs ++ said) lead.1 ∙ sym (append_assoc xs lead.0 (body.Halt c ∷ [])),
  All-append IsPlain xs lead.0 plain lead.2,
  lead.3,
)

before_well : (xs : List Body) (s : Step) → ArePlain xs → IsInner s → IsInner (before xs s)
before_well xs s plain well = lead_before xs s.says s.state plain well

either_well : (b : Bool) (s q : Step) → IsInner s → IsInner q → IsInner (if b then s else q)
either_well true s q one other = one
either_well false s q one other = other

-- A script ends its incarnation.
halts_well : (c : Cause) → is_halting c ≡ true → IsInner (halts c)
halts_well c of_script = ([], refl, none_plain, of_script)

-- A write's completion is waited for.
written_well : (o : Object) (t : OpenTask) (tail : ℕ) (batches : List Made) → IsInner (asks_written o t tail batches)
written_well o t tail [] = none_plain
written_well o t tail (made ∷ []) = (none_plain, refl)
written_well o t tail (made ∷ next ∷ batches) =
    before_well (batch made ∷ []) (asks_written o t tail (next ∷ batches)) (one_plain (batch made) refl) (written_well o t tail (next ∷ batches))

-- A call or a fetch leaves, or is refused.
outside_well : (again : OpenTask → Step) → ((t : OpenTask) → IsInner (again t)) → (o : Object) (t : OpenTask) (refused : Option Answer)
    (message : ℕ → Message) → IsInner (outside again o t refused message)
outside_well again well o t None message = one_plain (body.Message (message (o.made + 1))) refl
outside_well again well o t (Some a) message = well (resumed o t a)

-- An ask,
ask_well : (again : OpenTask → Step) → ((u : OpenTask) → IsInner (again u)) → (l : Life) (o : Object) (t : OpenTask) (batches : List Made) (a : Ask)
    → IsInner (on_ask again l o t batches a)
ask_well again well l o t batches (ask.Store a) = before_well (map batch batches) (asks o t (body.Ask a false)) (batches_plain batches) (none_plain, refl)
ask_well again well l o t batches (ask.Open a) = before_well (map batch batches) (asks o t (body.Ask a false)) (batches_plain batches) (none_plain, refl)
ask_well again well l o t batches (ask.Written tail) = written_well o t tail batches
ask_well again well l o t batches ask.Sync = before_well (map batch batches) (asks o t body.Sync) (batches_plain batches) (none_plain, refl)
ask_well again well l o t batches (ask.Call to method args) =
    before_well (map batch batches) _ (batches_plain batches) (outside_well again well o t (refusal (t.depth + 1) t.made) _)
ask_well again well l o t batches (ask.Fetch value) =
    before_well (map batch batches) _ (batches_plain batches) (outside_well again well o t (refusal 0 t.made) _)

-- the end of a task,
handled_well : (made : Option Op) (o : Object) → IsInner (handled made o)
handled_well None o = none_plain
handled_well (Some made) o = one_plain (batch (confirmed (made ∷ []))) refl

done_well : (o : Object) (purpose : Purpose) (v : Tree) → IsInner (on_done o purpose v)
done_well o starts v = none_plain
done_well o (handles retry) v = handled_well _ o
done_well o (serves from) v = one_plain _ refl

threw_well : (reset : Bool) (o : Object) (purpose : Purpose) (v : Tree) → IsInner (on_threw reset o purpose v)
threw_well true o starts v = halts_well cause.StartThrew refl
threw_well true o (handles retry) v = halts_well cause.BlockThrew refl
threw_well true o (serves from) v = halts_well cause.BlockThrew refl
threw_well false o starts v = none_plain
threw_well false o (handles retry) v = handled_well _ o
threw_well false o (serves from) v = one_plain _ refl

exceeded_well : (purpose : Purpose) → IsInner (on_exceeded purpose)
exceeded_well starts = halts_well cause.Exceeded refl
exceeded_well (handles retry) = halts_well cause.Exceeded refl
exceeded_well (serves from) =
    before_well (replies from (Err failure.Exceeded)) (halts cause.Exceeded) (one_plain _ refl) (halts_well cause.Exceeded refl)

-- and so what follows a turn.
turn_well : (again : Object → OpenTask → Step) → ((new : Object) (u : OpenTask) → IsInner (again new u)) → (l : Life) (o : Object) (t : OpenTask)
    (turn : Option Segment) → IsInner (on_turn again l o t turn)
turn_well again well l o t None = none_plain
turn_well again well l o t (Some (task.asked batches fs a block)) =
    let new = wrote batches (record o { fields = fs }) in ask_well (again new) (well new) l new (record t { block = block }) batches a
turn_well again well l o t (Some (task.done batches fs v)) =
    let new = wrote batches (record o { fields = fs }) in
    before_well (map batch batches) (on_done new t.purpose v) (batches_plain batches) (done_well new t.purpose v)
turn_well again well l o t (Some (task.threw batches fs v reset)) =
    let new = wrote batches (record o { fields = fs }) in
    before_well (map batch batches) (on_threw reset new t.purpose v) (batches_plain batches) (threw_well reset new t.purpose v)
turn_well again well l o t (Some (task.exceeded batches)) =
    before_well (map batch batches) (on_exceeded t.purpose) (batches_plain batches) (exceeded_well t.purpose)

-- A task runs,
runs_well : (n : ℕ) (l : Life) (o : Object) (t : OpenTask) → IsInner (runs n l o t)
runs_well zero l o t = none_plain
runs_well (suc n) l o t = turn_well (λ new u. runs n l new u) (λ new u. runs_well n l new u) l o t (latest_turn l t)

-- and an event begins one.
handler_well : (l : Life) (o : Object) (method retry : Option ℕ) → IsInner (begins_handler l o method retry)
handler_well l o (Some method) (Some retry) = runs_well most_refused l o _
handler_well l o (Some method) None = none_plain
handler_well l o None retry = none_plain

begins_well : (l : Life) (o : Object) (e : Event) → IsInner (steps.begins l o e)
begins_well l o (event.Call from method args depth at) = runs_well most_refused l o _
begins_well l o (event.Tick at) = handler_well l o (handler_of l.script l.class) o.handler
begins_well l o (event.Bind identity) = none_plain
begins_well l o (event.Answer incarnation number result at) = none_plain
begins_well l o (event.Evict at) = none_plain

-- The event that waited for the constructor.
parked_well : (l : Life) (o : Object) (started : Bool) (parked : Option Event) → IsInner (begins_parked l o started parked)
parked_well l o true (Some e) = begins_well l (record o { parked = None }) e
parked_well l o true None = none_plain
parked_well l o false parked = none_plain

-- Where what was said leads to a state, so it does with what is said from there.
state_well : (l : Life) (says : List Body) (state : State) → Leads says state → IsInner (before says (on_state l state))
state_well l says (idle o) lead = before_well says (begins_parked l o o.started o.parked) lead (parked_well l o o.started o.parked)
state_well l says (waiting o t b) lead = subst (λ (said : List Body). Leads said (waiting o t b)) (sym (append-nil says)) lead
state_well l says (ended c) lead = subst (λ (said : List Body). Leads said (ended c)) (sym (append-nil says)) lead

then_well : (l : Life) (purpose : Purpose) (s : Step) → IsInner s → IsInner (then_parked l purpose s)
then_well l starts s well = state_well l s.says s.state well
then_well l (handles retry) s well = well
then_well l (serves from) s well = well

task_well : (l : Life) (o : Object) (t : OpenTask) → IsInner (then_parked l t.purpose (goes_on l o t))
task_well l o t = then_well l t.purpose (goes_on l o t) (runs_well most_refused l o t)

starts_well : (l : Life) (o : Object) (e : Event) (depth : ℕ) (constructor : Option ℕ) → IsInner (starts_by l o e depth constructor)
starts_well l o e depth None = begins_well l (record o { started = true }) e
starts_well l o e depth (Some constructor) = task_well l (record o { parked = Some e }) (fresh starts constructor [] depth o)

arrives_well : (l : Life) (o : Object) (e : Event) (depth : ℕ) → IsInner (arrives l o e depth)
arrives_well l o e depth =
    either_well o.started (steps.begins l o e) (starts_by l o e depth (constructor_of l.script l.class)) (begins_well l o e)
    (starts_well l o e depth (constructor_of l.script l.class))

due_well : (l : Life) (o : Object) (e : Event) (alarm : Option (ℤ × ℕ)) (method : Option ℕ) → IsInner (handles_due l o e alarm method)
due_well l o e (Some alarm) (Some method) = arrives_well l (record o { handler = Some alarm.1; touched = false }) e 0
due_well l o e (Some alarm) None = handled_well (Some op.ClearAlarm) o
due_well l o e None None = handled_well (Some op.ClearAlarm) o
due_well l o e None (Some method) = none_plain

-- The answer to a call or a fetch.
answer_well : (l : Life) (o : Object) (t : Option OpenTask) (a : Answer) → IsInner (on_answer l o t a)
answer_well l o None a = none_plain
answer_well l o (Some t) a = task_well l (record o { tasks = tasks_but t.number o.tasks }) (resumed o t a)

abbrev pub is_bind : Event → Bool
is_bind (event.Bind identity) = true
is_bind e = false

event_well : (l : Life) (o : Object) (e : Event) → is_bind e ≡ false → IsInner (on_event l o e)
event_well l o (event.Bind identity) other = absurd (true≢false other)
event_well l o (event.Call from method args depth at) other = arrives_well l o (event.Call from method args depth at) depth
event_well l o (event.Answer incarnation number result at) other = answer_well l o (task_under number o.tasks) (answer_of result)
event_well l o (event.Tick at) other =
    either_well _ (handles_due l o (event.Tick at) o.alarm (handler_of l.script l.class)) (rests o)
    (due_well l o (event.Tick at) o.alarm (handler_of l.script l.class)) none_plain
event_well l o (event.Evict at) other = none_plain

-- So no step says but of itself, unless it is at a binding.
pub delivers_inner : (l : Life) (o : Object) (e : Event) → is_bind e ≡ false → LeadBy is_inner (delivers l o e).says (delivers l o e).state
delivers_inner l o e other = event_well l (record o { clock = int_max o.clock (moment_of e) }) e other

pub answers_inner : (l : Life) (o : Object) (t : OpenTask) (a : Answer) → LeadBy is_inner (answers l o t a).says (answers l o t a).state
answers_inner l o t a = task_well l o (resumed o t (hides o.handler o.touched a))

inner_plain : (b : Body) → is_inner b ≡ true → is_plain b ≡ true
inner_plain (body.Batch ops None confirmed) is = refl
inner_plain (body.Batch ops (Some tail) confirmed) is = absurd (true≢false (sym is))
inner_plain (body.Message sent) is = refl
inner_plain (body.Bind identity) is = refl
inner_plain (body.Ask ask free) is = absurd (true≢false (sym is))
inner_plain body.Sync is = absurd (true≢false (sym is))
inner_plain (body.Halt c) is = absurd (true≢false (sym is))
inner_plain body.Mend is = absurd (true≢false (sym is))

plain_all : (says : List Body) → ArePlain says → All (λ (b : Body). is_plain b ≡ true) says
plain_all says inner = All-weaker IsPlain (λ (b : Body). is_plain b ≡ true) inner_plain says inner

plain_lead : (says : List Body) (state : State) → Leads says state → LeadTo says state
plain_lead says (idle o) lead = plain_all says lead
plain_lead says (waiting o t b) lead = (plain_all says lead.0, lead.1)
plain_lead says (ended c) lead = (lead.0, lead.1, plain_all lead.0 lead.2, lead.3)

-- A step at an event, and one at an answer of the storage.
other_well : (l : Life) (o : Object) (e : Event) → is_bind e ≡ false → IsWellSaid (delivers l o e)
other_well l o e other = plain_lead (delivers l o e).says (delivers l o e).state (delivers_inner l o e other)

pub delivers_well : (l : Life) (o : Object) (e : Event) → IsWellSaid (delivers l o e)
delivers_well l o (event.Bind identity) =
    All-cons (λ (b : Body). is_plain b ≡ true) (body.Bind identity) [] refl (All-nil (λ (b : Body). is_plain b ≡ true))
delivers_well l o (event.Call from method args depth at) = other_well l o (event.Call from method args depth at) refl
delivers_well l o (event.Answer incarnation number result at) = other_well l o (event.Answer incarnation number result at) refl
delivers_well l o (event.Tick at) = other_well l o (event.Tick at) refl
delivers_well l o (event.Evict at) = other_well l o (event.Evict at) refl

pub answers_well : (l : Life) (o : Object) (t : OpenTask) (a : Answer) → IsWellSaid (answers l o t a)
answers_well l o t a = plain_lead (answers l o t a).says (answers l o t a).state (answers_inner l o t a)
