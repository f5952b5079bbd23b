-- The calls and fetches of a step have the numbers after the last one that was given, one after another.
use Rattle.std.proofs.Common.{◌≡◌, sym, refl, subst, ℕ, zero, suc, ◌+◌, List, [], ◌∷◌, ◌++◌, append-nil}
use Rattle.std.proofs.lemmas.List.Concat.{flat_map-append}
use Rattle.std.specs.Int.{int_max}
use Rattle.std.specs.List.{flat_map}
use Rattle.std.specs.Prelude.{ℤ, Bool, true, false, map, if◌then◌else◌, Option, Some, None, is_some}
use Rattle.do_value.specs.Tree.{Tree}
use Rattle.do_tree.specs.Lookup.{constructor_of, alarm_of as handler_of}
use Rattle.storage_map.specs.declared.op.Op.{Op}
use Rattle.write_batcher.specs.declared.batcher.Made.{Made}
use Rattle.storage_map.specs.declared.op.Op.TheVariants as op
use Rattle.script_mean.specs.Task as task
use Rattle.script_mean.specs.Task.{Segment}
use Rattle.script_mean.specs.declared.answer.Answer.{Answer}
use Rattle.script_mean.specs.declared.ask.Ask.{Ask}
use Rattle.script_mean.specs.declared.ask.Ask.TheVariants as ask
use Rattle.alarm_core.specs.AlarmRule.{is_due}
use Rattle.timeline.specs.Object.{Life, Purpose, starts, handles, serves, OpenTask, Object, task_under, tasks_but, State, idle, waiting, ended, Step}
use Rattle.timeline.specs.Steps as steps
use Rattle.timeline.specs.Steps.{rests, before, batch, wrote, fresh, resumed, latest_turn, outside, asks, asks_written, refusal, on_ask, handled, on_done, on_threw, on_exceeded, on_turn, runs, goes_on, begins_handler, begins_parked, on_state, then_parked, starts_by, arrives, handles_due, on_answer, answer_of, on_event, delivers, answers, hides, most_refused, moment_of}
use Rattle.timeline.specs.declared.entry.Body.{Body}
use Rattle.timeline.specs.declared.entry.Body.TheVariants as body
use Rattle.timeline.specs.declared.event.Event.{Event}
use Rattle.timeline.specs.declared.event.Event.TheVariants as event
use Rattle.timeline.specs.declared.message.Message.{Message}
use Rattle.object_messages.specs.Naming.{asked_in, message_of}

-- The calls and fetches among bodies.
abbrev pub asked_of : Body → List (ℕ × ℕ)
asked_of b = asked_in (message_of b)

abbrev pub asked : List Body → List (ℕ × ℕ)
asked bodies = flat_map asked_of bodies

-- These are an incarnation's numbers after one, up to another.
abbrev pub Follow : ℕ → ℕ → List (ℕ × ℕ) → ℕ → Type 0
Follow i made [] later = made ≡ later
Follow i made (x ∷ xs) later = (x ≡ (i, made + 1)) × Follow i (made + 1) xs later

-- Numbers behind numbers.
pub follow_both : (i made next later : ℕ) (xs ys : List (ℕ × ℕ)) → Follow i made xs next → Follow i next ys later → Follow i made (xs ++ ys) later
follow_both i made next later [] ys first second = subst (λ (n : ℕ). Follow i n ys later) (sym first) second
follow_both i made next later (x ∷ xs) ys first second = (first.0, follow_both i (made + 1) next later xs ys first.1 second)

-- What was said has the numbers up to those that a state has given; and what is waited for is no call.
abbrev pub NumbersTo : ℕ → ℕ → List (ℕ × ℕ) → State → Type 0
NumbersTo i made numbers (idle o) = Follow i made numbers o.made
NumbersTo i made numbers (waiting o t b) = Follow i made numbers o.made × (asked_of b ≡ [])
NumbersTo i made numbers (ended c) = (later : ℕ) × Follow i made numbers later

abbrev pub Numbers : ℕ → ℕ → Step → Type 0
Numbers i made s = NumbersTo i made (asked s.says) s.state

-- Numbers before those that lead to a state.
pub lead_numbers : (i made next : ℕ) (xs ys : List (ℕ × ℕ)) (state : State) → Follow i made xs next → NumbersTo i next ys state
    → NumbersTo i made (xs ++ ys) state
lead_numbers i made next xs ys (idle o) first second = follow_both i made next o.made xs ys first second
lead_numbers i made next xs ys (waiting o t b) first second = (follow_both i made next o.made xs ys first second.0, second.1)
lead_numbers i made next xs ys (ended c) first second = (second.0, follow_both i made next second.0 xs ys first second.1)

-- So what is said before a step.
before_numbers : (i made next : ℕ) (bodies : List Body) (s : Step) → Follow i made (asked bodies) next → Numbers i next s
    → Numbers i made (before bodies s)
before_numbers i made next bodies s first second =
    subst (λ (numbers : List (ℕ × ℕ)). NumbersTo i made numbers s.state) (sym (flat_map-append asked_of bodies s.says))
    (lead_numbers i made next (asked bodies) (asked s.says) s.state first second)

-- Batches are no calls.
batches_ask_none : (batches : List Made) → asked (map batch batches) ≡ []
batches_ask_none [] = refl
batches_ask_none (made ∷ batches) = batches_ask_none batches

-- So batches before a step leave its numbers.
batches_number : (i made : ℕ) (batches : List Made) (s : Step) → Numbers i made s → Numbers i made (before (map batch batches) s)
batches_number i made batches s numbers =
    before_numbers i made made (map batch batches) s
    (subst (λ (xs : List (ℕ × ℕ)). Follow i made xs made) (sym (batches_ask_none batches)) refl) numbers

-- One of two steps.
either_numbers : (i made : ℕ) (b : Bool) (s q : Step) → Numbers i made s → Numbers i made q → Numbers i made (if b then s else q)
either_numbers i made true s q one other = one
either_numbers i made false s q one other = other

-- A write's completion is waited for.
written_numbers : (i : ℕ) (o : Object) (t : OpenTask) (tail : ℕ) (batches : List Made) → Numbers i o.made (asks_written o t tail batches)
written_numbers i o t tail [] = refl
written_numbers i o t tail (made ∷ []) = (refl, refl)
written_numbers i o t tail (made ∷ next ∷ batches) =
    before_numbers i o.made o.made (batch made ∷ []) (asks_written o t tail (next ∷ batches)) refl (written_numbers i o t tail (next ∷ batches))

-- A call or a fetch leaves under the next number, or is refused.
outside_numbers : (i : ℕ) (again : OpenTask → Step) (o : Object) (t : OpenTask) (refused : Option Answer) (message : ℕ → Message)
    → ((u : OpenTask) → Numbers i o.made (again u))
    → asked (body.Message (message (o.made + 1)) ∷ []) ≡ (i, o.made + 1) ∷ []
    → Numbers i o.made (outside again o t refused message)
outside_numbers i again o t (Some a) message numbers next = numbers (resumed o t a)
outside_numbers i again o t None message numbers next =
    subst (λ (xs : List (ℕ × ℕ)). Follow i o.made xs (o.made + 1)) (sym next) (refl, refl)

-- An ask,
ask_numbers : (again : OpenTask → Step) (l : Life) (o : Object) (t : OpenTask) (batches : List Made) (a : Ask)
    → ((u : OpenTask) → Numbers l.incarnation o.made (again u)) → Numbers l.incarnation o.made (on_ask again l o t batches a)
ask_numbers again l o t batches (ask.Store a) numbers = batches_number l.incarnation o.made batches (asks o t (body.Ask a false)) (refl, refl)
ask_numbers again l o t batches (ask.Open a) numbers = batches_number l.incarnation o.made batches (asks o t (body.Ask a false)) (refl, refl)
ask_numbers again l o t batches (ask.Written tail) numbers = written_numbers l.incarnation o t tail batches
ask_numbers again l o t batches ask.Sync numbers = batches_number l.incarnation o.made batches (asks o t body.Sync) (refl, refl)
ask_numbers again l o t batches (ask.Call to method args) numbers =
    batches_number l.incarnation o.made batches _ (outside_numbers l.incarnation again o t (refusal (t.depth + 1) t.made) _ numbers refl)
ask_numbers again l o t batches (ask.Fetch value) numbers =
    batches_number l.incarnation o.made batches _ (outside_numbers l.incarnation again o t (refusal 0 t.made) _ numbers refl)

-- the end of a task,
handled_numbers : (i : ℕ) (made : Option Op) (o : Object) → Numbers i o.made (handled made o)
handled_numbers i None o = refl
handled_numbers i (Some made) o = refl

-- where it is done,
done_numbers : (i : ℕ) (o : Object) (purpose : Purpose) (v : Tree) → Numbers i o.made (on_done o purpose v)
done_numbers i o starts v = refl
done_numbers i o (handles retry) v = handled_numbers i _ o
done_numbers i o (serves caller) v = refl

-- where it threw,
threw_numbers : (i : ℕ) (reset : Bool) (o : Object) (purpose : Purpose) (v : Tree) → Numbers i o.made (on_threw reset o purpose v)
threw_numbers i true o starts v = (o.made, refl)
threw_numbers i true o (handles retry) v = (o.made, refl)
threw_numbers i true o (serves caller) v = (o.made, refl)
threw_numbers i false o starts v = refl
threw_numbers i false o (handles retry) v = handled_numbers i _ o
threw_numbers i false o (serves caller) v = refl

-- where it was stopped at a limit,
exceeded_numbers : (i made : ℕ) (purpose : Purpose) → Numbers i made (on_exceeded purpose)
exceeded_numbers i made starts = (made, refl)
exceeded_numbers i made (handles retry) = (made, refl)
exceeded_numbers i made (serves caller) = (made, refl)

-- and so what follows a turn.
turn_numbers : (again : Object → OpenTask → Step) (l : Life) → ((o : Object) (t : OpenTask) → Numbers l.incarnation o.made (again o t))
    → (o : Object) (t : OpenTask) (turn : Option Segment) → Numbers l.incarnation o.made (on_turn again l o t turn)
turn_numbers again l numbers o t None = refl
turn_numbers again l numbers o t (Some (task.asked batches fs a block)) =
    let new = wrote batches (record o { fields = fs }) in ask_numbers (again new) l new (record t { block = block }) batches a (numbers new)
turn_numbers again l numbers o t (Some (task.done batches fs v)) =
    let new = wrote batches (record o { fields = fs }) in
    batches_number l.incarnation o.made batches (on_done new t.purpose v) (done_numbers l.incarnation new t.purpose v)
turn_numbers again l numbers o t (Some (task.threw batches fs v reset)) =
    let new = wrote batches (record o { fields = fs }) in
    batches_number l.incarnation o.made batches (on_threw reset new t.purpose v) (threw_numbers l.incarnation reset new t.purpose v)
turn_numbers again l numbers o t (Some (task.exceeded batches)) =
    batches_number l.incarnation o.made batches (on_exceeded t.purpose) (exceeded_numbers l.incarnation o.made t.purpose)

-- A task runs,
runs_number : (n : ℕ) (l : Life) (o : Object) (t : OpenTask) → Numbers l.incarnation o.made (runs n l o t)
runs_number zero l o t = refl
runs_number (suc n) l o t = turn_numbers (λ new u. runs n l new u) l (λ new u. runs_number n l new u) o t (latest_turn l t)

-- and an event begins one.
handler_numbers : (l : Life) (o : Object) (method retry : Option ℕ) → Numbers l.incarnation o.made (begins_handler l o method retry)
handler_numbers l o (Some method) (Some retry) = runs_number most_refused l o _
handler_numbers l o (Some method) None = refl
handler_numbers l o None retry = refl

-- Each event.
begins_number : (l : Life) (o : Object) (e : Event) → Numbers l.incarnation o.made (steps.begins l o e)
begins_number l o (event.Call caller method args depth at) = runs_number most_refused l o _
begins_number l o (event.Tick at) = handler_numbers l o (handler_of l.script l.class) o.handler
begins_number l o (event.Bind identity) = refl
begins_number l o (event.Answer incarnation number result at) = refl
begins_number l o (event.Evict at) = refl

-- The event that waited for the constructor.
parked_number : (l : Life) (o : Object) (started : Bool) (parked : Option Event) → Numbers l.incarnation o.made (begins_parked l o started parked)
parked_number l o true (Some e) = begins_number l (record o { parked = None }) e
parked_number l o true None = refl
parked_number l o false parked = refl

-- It begins where a state is idle.
state_number : (l : Life) (made : ℕ) (says : List Body) (state : State) → NumbersTo l.incarnation made (asked says) state
    → Numbers l.incarnation made (before says (on_state l state))
state_number l made says (idle o) numbers =
    before_numbers l.incarnation made o.made says (begins_parked l o o.started o.parked) numbers (parked_number l o o.started o.parked)
state_number l made says (waiting o t b) numbers =
    subst (λ (xs : List Body). NumbersTo l.incarnation made (asked xs) (waiting o t b)) (sym (append-nil says)) numbers
state_number l made says (ended c) numbers =
    subst (λ (xs : List Body). NumbersTo l.incarnation made (asked xs) (ended c)) (sym (append-nil says)) numbers

-- So it does behind a step of a constructor.
then_numbers : (l : Life) (made : ℕ) (purpose : Purpose) (s : Step) → Numbers l.incarnation made s → Numbers l.incarnation made (then_parked l purpose s)
then_numbers l made starts s numbers = state_number l made s.says s.state numbers
then_numbers l made (handles retry) s numbers = numbers
then_numbers l made (serves caller) s numbers = numbers

-- A task with what waited for it.
task_numbers : (l : Life) (o : Object) (t : OpenTask) → Numbers l.incarnation o.made (then_parked l t.purpose (goes_on l o t))
task_numbers l o t = then_numbers l o.made t.purpose (goes_on l o t) (runs_number most_refused l o t)

-- An event that starts its object,
starts_number : (l : Life) (o : Object) (e : Event) (depth : ℕ) (constructor : Option ℕ)
    → Numbers l.incarnation o.made (starts_by l o e depth constructor)
starts_number l o e depth None = begins_number l (record o { started = true }) e
starts_number l o e depth (Some constructor) = task_numbers l (record o { parked = Some e }) (fresh starts constructor [] depth o)

-- one that arrives,
arrives_number : (l : Life) (o : Object) (e : Event) (depth : ℕ) → Numbers l.incarnation o.made (arrives l o e depth)
arrives_number l o e depth =
    either_numbers l.incarnation o.made o.started (steps.begins l o e) (starts_by l o e depth (constructor_of l.script l.class)) (begins_number l o e)
    (starts_number l o e depth (constructor_of l.script l.class))

-- and a tick that is due.
due_numbers : (l : Life) (o : Object) (e : Event) (alarm : Option (ℤ × ℕ)) (method : Option ℕ)
    → Numbers l.incarnation o.made (handles_due l o e alarm method)
due_numbers l o e (Some alarm) (Some method) = arrives_number l (record o { handler = Some alarm.1; touched = false }) e 0
due_numbers l o e (Some alarm) None = handled_numbers l.incarnation (Some op.ClearAlarm) o
due_numbers l o e None None = handled_numbers l.incarnation (Some op.ClearAlarm) o
due_numbers l o e None (Some method) = refl

-- The answer to a call or a fetch.
answer_numbers : (l : Life) (o : Object) (t : Option OpenTask) (a : Answer) → Numbers l.incarnation o.made (on_answer l o t a)
answer_numbers l o None a = refl
answer_numbers l o (Some t) a = task_numbers l (record o { tasks = tasks_but t.number o.tasks }) (resumed o t a)

-- Each event that is delivered.
event_numbers : (l : Life) (o : Object) (e : Event) → Numbers l.incarnation o.made (on_event l o e)
event_numbers l o (event.Bind identity) = refl
event_numbers l o (event.Call caller method args depth at) = arrives_number l o (event.Call caller method args depth at) depth
event_numbers l o (event.Answer incarnation number result at) = answer_numbers l o (task_under number o.tasks) (answer_of result)
event_numbers l o (event.Tick at) =
    either_numbers l.incarnation o.made (is_due o.alarm (is_some o.handler) at)
    (handles_due l o (event.Tick at) o.alarm (handler_of l.script l.class)) (rests o)
    (due_numbers l o (event.Tick at) o.alarm (handler_of l.script l.class)) refl
event_numbers l o (event.Evict at) = refl

-- So a step at an event, and one at an answer of the storage.
pub delivers_numbers : (l : Life) (o : Object) (e : Event) → Numbers l.incarnation o.made (delivers l o e)
delivers_numbers l o e = event_numbers l (record o { clock = int_max o.clock (moment_of e) }) e

-- The same at an answer of the storage.
pub answers_numbers : (l : Life) (o : Object) (t : OpenTask) (a : Answer) → Numbers l.incarnation o.made (answers l o t a)
answers_numbers l o t a = task_numbers l o (resumed o t (hides o.handler o.touched a))
