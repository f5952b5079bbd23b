-- What a step says tells of no end.
use Rattle.std.proofs.Common.{◌≡◌, sym, refl, subst, ℕ, zero, suc, ◌+◌, List, [], ◌∷◌, ◌++◌, append-nil}
use Rattle.std.specs.Int.{int_max}
use Rattle.std.specs.Prelude.{ℤ, Bool, true, false, map, if◌then◌else◌, Option, Some, None, is_some}
use Rattle.do_value.specs.Tree.{Tree}
use Rattle.do_tree.specs.Lookup.{constructor_of, alarm_of as handler_of}
use Rattle.storage_map.specs.declared.op.Op.{Op}
use Rattle.write_batcher.specs.declared.batcher.Made.{Made}
use Rattle.storage_map.specs.declared.op.Op.TheVariants as op
use Rattle.script_mean.specs.Task as task
use Rattle.script_mean.specs.Task.{Segment}
use Rattle.script_mean.specs.declared.answer.Answer.{Answer}
use Rattle.script_mean.specs.declared.ask.Ask.{Ask}
use Rattle.script_mean.specs.declared.ask.Ask.TheVariants as ask
use Rattle.alarm_core.specs.AlarmRule.{is_due}
use Rattle.timeline.specs.Object.{Life, Purpose, starts, handles, serves, OpenTask, Object, task_under, tasks_but, State, idle, waiting, ended, Step}
use Rattle.timeline.specs.Steps as steps
use Rattle.timeline.specs.Steps.{rests, before, batch, wrote, fresh, resumed, latest_turn, outside, asks, asks_written, refusal, on_ask, handled, on_done, on_threw, on_exceeded, on_turn, runs, goes_on, begins_handler, begins_parked, on_state, then_parked, starts_by, arrives, handles_due, on_answer, answer_of, on_event, delivers, answers, hides, most_refused, moment_of}
use Rattle.timeline.specs.declared.entry.Body.{Body}
use Rattle.timeline.specs.declared.entry.Body.TheVariants as body
use Rattle.timeline.specs.declared.event.Event.{Event}
use Rattle.timeline.specs.declared.event.Event.TheVariants as event
use Rattle.timeline.specs.declared.message.Message.{Message}
use Rattle.object_messages.specs.Ends.{tells_end}

-- A body that tells of no end.
abbrev pub says_end : Body → Bool
says_end (body.Message sent) = tells_end sent
says_end other = false

abbrev pub AreSound : List Body → Type 0
AreSound [] = Unit {0}
AreSound (b ∷ bodies) = (says_end b ≡ false) × AreSound bodies

-- Such bodies behind such.
pub sound_both : (xs ys : List Body) → AreSound xs → AreSound ys → AreSound (xs ++ ys)
sound_both [] ys first second = second
sound_both (x ∷ xs) ys first second = (first.0, sound_both xs ys first.1 second)

-- What a state waits for tells of none either.
abbrev pub IsSoundState : State → Type 0
IsSoundState (idle o) = Unit {0}
IsSoundState (waiting o t b) = says_end b ≡ false
IsSoundState (ended c) = Unit {0}

abbrev pub IsSound : Step → Type 0
IsSound s = AreSound s.says × IsSoundState s.state

-- So what is said before a step.
before_sound : (bodies : List Body) (s : Step) → AreSound bodies → IsSound s → IsSound (before bodies s)
before_sound bodies s first second = (sound_both bodies s.says first second.0, second.1)

-- Batches tell of none.
batches_sound : (batches : List Made) → AreSound (map batch batches)
batches_sound [] = tt
batches_sound (made ∷ batches) = (refl, batches_sound batches)

-- So batches before a step.
behind_batches : (batches : List Made) (s : Step) → IsSound s → IsSound (before (map batch batches) s)
behind_batches batches s sound = before_sound (map batch batches) s (batches_sound batches) sound

-- One of two steps.
either_sound : (b : Bool) (s q : Step) → IsSound s → IsSound q → IsSound (if b then s else q)
either_sound true s q one other = one
either_sound false s q one other = other

-- A write's completion is waited for.
written_sound : (o : Object) (t : OpenTask) (tail : ℕ) (batches : List Made) → IsSound (asks_written o t tail batches)
written_sound o t tail [] = (tt, tt)
written_sound o t tail (made ∷ []) = (tt, refl)
written_sound o t tail (made ∷ next ∷ batches) =
    before_sound (batch made ∷ []) (asks_written o t tail (next ∷ batches)) (refl, tt) (written_sound o t tail (next ∷ batches))

-- A call or a fetch leaves, or is refused.
outside_sound : (again : OpenTask → Step) (o : Object) (t : OpenTask) (refused : Option Answer) (message : ℕ → Message)
    → ((u : OpenTask) → IsSound (again u)) → ((number : ℕ) → tells_end (message number) ≡ false)
    → IsSound (outside again o t refused message)
outside_sound again o t (Some a) message sound none = sound (resumed o t a)
outside_sound again o t None message sound none = ((none (o.made + 1), tt), tt)

-- An ask,
ask_sound : (again : OpenTask → Step) (l : Life) (o : Object) (t : OpenTask) (batches : List Made) (a : Ask)
    → ((u : OpenTask) → IsSound (again u)) → IsSound (on_ask again l o t batches a)
ask_sound again l o t batches (ask.Store a) sound = behind_batches batches (asks o t (body.Ask a false)) (tt, refl)
ask_sound again l o t batches (ask.Open a) sound = behind_batches batches (asks o t (body.Ask a false)) (tt, refl)
ask_sound again l o t batches (ask.Written tail) sound = written_sound o t tail batches
ask_sound again l o t batches ask.Sync sound = behind_batches batches (asks o t body.Sync) (tt, refl)
ask_sound again l o t batches (ask.Call to method args) sound =
    behind_batches batches _ (outside_sound again o t (refusal (t.depth + 1) t.made) _ sound (λ number. refl))
ask_sound again l o t batches (ask.Fetch value) sound =
    behind_batches batches _ (outside_sound again o t (refusal 0 t.made) _ sound (λ number. refl))

-- the end of a task,
handled_sound : (made : Option Op) (o : Object) → IsSound (handled made o)
handled_sound None o = (tt, tt)
handled_sound (Some made) o = ((refl, tt), tt)

-- where it is done,
done_sound : (o : Object) (purpose : Purpose) (v : Tree) → IsSound (on_done o purpose v)
done_sound o starts v = (tt, tt)
done_sound o (handles retry) v = handled_sound _ o
done_sound o (serves caller) v = ((refl, tt), tt)

-- where it threw,
threw_sound : (reset : Bool) (o : Object) (purpose : Purpose) (v : Tree) → IsSound (on_threw reset o purpose v)
threw_sound true o starts v = ((refl, tt), tt)
threw_sound true o (handles retry) v = ((refl, tt), tt)
threw_sound true o (serves caller) v = ((refl, tt), tt)
threw_sound false o starts v = (tt, tt)
threw_sound false o (handles retry) v = handled_sound _ o
threw_sound false o (serves caller) v = ((refl, tt), tt)

-- where it was stopped at a limit,
exceeded_sound : (purpose : Purpose) → IsSound (on_exceeded purpose)
exceeded_sound starts = ((refl, tt), tt)
exceeded_sound (handles retry) = ((refl, tt), tt)
exceeded_sound (serves caller) = ((refl, (refl, tt)), tt)

-- and so what follows a turn.
turn_sound : (again : Object → OpenTask → Step) (l : Life) → ((o : Object) (t : OpenTask) → IsSound (again o t))
    → (o : Object) (t : OpenTask) (turn : Option Segment) → IsSound (on_turn again l o t turn)
turn_sound again l sound o t None = (tt, tt)
turn_sound again l sound o t (Some (task.asked batches fs a block)) =
    let new = wrote batches (record o { fields = fs }) in ask_sound (again new) l new (record t { block = block }) batches a (sound new)
turn_sound again l sound o t (Some (task.done batches fs v)) =
    let new = wrote batches (record o { fields = fs }) in behind_batches batches (on_done new t.purpose v) (done_sound new t.purpose v)
turn_sound again l sound o t (Some (task.threw batches fs v reset)) =
    let new = wrote batches (record o { fields = fs }) in behind_batches batches (on_threw reset new t.purpose v) (threw_sound reset new t.purpose v)
turn_sound again l sound o t (Some (task.exceeded batches)) = behind_batches batches (on_exceeded t.purpose) (exceeded_sound t.purpose)

-- A task runs,
runs_sound : (n : ℕ) (l : Life) (o : Object) (t : OpenTask) → IsSound (runs n l o t)
runs_sound zero l o t = (tt, tt)
runs_sound (suc n) l o t = turn_sound (λ new u. runs n l new u) l (λ new u. runs_sound n l new u) o t (latest_turn l t)

-- and an event begins one.
handler_sound : (l : Life) (o : Object) (method retry : Option ℕ) → IsSound (begins_handler l o method retry)
handler_sound l o (Some method) (Some retry) = runs_sound most_refused l o _
handler_sound l o (Some method) None = (tt, tt)
handler_sound l o None retry = (tt, tt)

-- Each event.
begins_sound : (l : Life) (o : Object) (e : Event) → IsSound (steps.begins l o e)
begins_sound l o (event.Call caller method args depth at) = runs_sound most_refused l o _
begins_sound l o (event.Tick at) = handler_sound l o (handler_of l.script l.class) o.handler
begins_sound l o (event.Bind identity) = (tt, tt)
begins_sound l o (event.Answer incarnation number result at) = (tt, tt)
begins_sound l o (event.Evict at) = (tt, tt)

-- The event that waited for the constructor.
parked_sound : (l : Life) (o : Object) (started : Bool) (parked : Option Event) → IsSound (begins_parked l o started parked)
parked_sound l o true (Some e) = begins_sound l (record o { parked = None }) e
parked_sound l o true None = (tt, tt)
parked_sound l o false parked = (tt, tt)

-- It begins where a state is idle.
state_sound : (l : Life) (says : List Body) (state : State) → AreSound says → IsSoundState state → IsSound (before says (on_state l state))
state_sound l says (idle o) first second = before_sound says (begins_parked l o o.started o.parked) first (parked_sound l o o.started o.parked)
state_sound l says (waiting o t b) first second = (sound_both says [] first tt, second)
state_sound l says (ended c) first second = (sound_both says [] first tt, tt)

-- So it does behind a step of a constructor.
then_sound : (l : Life) (purpose : Purpose) (s : Step) → IsSound s → IsSound (then_parked l purpose s)
then_sound l starts s sound = state_sound l s.says s.state sound.0 sound.1
then_sound l (handles retry) s sound = sound
then_sound l (serves caller) s sound = sound

-- A task with what waited for it.
task_sound : (l : Life) (o : Object) (t : OpenTask) → IsSound (then_parked l t.purpose (goes_on l o t))
task_sound l o t = then_sound l t.purpose (goes_on l o t) (runs_sound most_refused l o t)

-- An event that starts its object,
starts_sound : (l : Life) (o : Object) (e : Event) (depth : ℕ) (constructor : Option ℕ) → IsSound (starts_by l o e depth constructor)
starts_sound l o e depth None = begins_sound l (record o { started = true }) e
starts_sound l o e depth (Some constructor) = task_sound l (record o { parked = Some e }) (fresh starts constructor [] depth o)

-- one that arrives,
arrives_sound : (l : Life) (o : Object) (e : Event) (depth : ℕ) → IsSound (arrives l o e depth)
arrives_sound l o e depth =
    either_sound o.started (steps.begins l o e) (starts_by l o e depth (constructor_of l.script l.class)) (begins_sound l o e)
    (starts_sound l o e depth (constructor_of l.script l.class))

-- and a tick that is due.
due_sound : (l : Life) (o : Object) (e : Event) (alarm : Option (ℤ × ℕ)) (method : Option ℕ) → IsSound (handles_due l o e alarm method)
due_sound l o e (Some alarm) (Some method) = arrives_sound l (record o { handler = Some alarm.1; touched = false }) e 0
due_sound l o e (Some alarm) None = handled_sound (Some op.ClearAlarm) o
due_sound l o e None None = handled_sound (Some op.ClearAlarm) o
due_sound l o e None (Some method) = (tt, tt)

-- The answer to a call or a fetch.
answer_sound : (l : Life) (o : Object) (t : Option OpenTask) (a : Answer) → IsSound (on_answer l o t a)
answer_sound l o None a = (tt, tt)
answer_sound l o (Some t) a = task_sound l (record o { tasks = tasks_but t.number o.tasks }) (resumed o t a)

-- Each event that is delivered.
event_sound : (l : Life) (o : Object) (e : Event) → IsSound (on_event l o e)
event_sound l o (event.Bind identity) = ((refl, tt), tt)
event_sound l o (event.Call caller method args depth at) = arrives_sound l o (event.Call caller method args depth at) depth
event_sound l o (event.Answer incarnation number result at) = answer_sound l o (task_under number o.tasks) (answer_of result)
event_sound l o (event.Tick at) =
    either_sound (is_due o.alarm (is_some o.handler) at) (handles_due l o (event.Tick at) o.alarm (handler_of l.script l.class)) (rests o)
    (due_sound l o (event.Tick at) o.alarm (handler_of l.script l.class)) (tt, tt)
event_sound l o (event.Evict at) = (tt, tt)

-- So a step at an event, and one at an answer of the storage.
pub delivers_sound : (l : Life) (o : Object) (e : Event) → IsSound (delivers l o e)
delivers_sound l o e = event_sound l (record o { clock = int_max o.clock (moment_of e) }) e

-- The same at an answer of the storage.
pub answers_sound : (l : Life) (o : Object) (t : OpenTask) (a : Answer) → IsSound (answers l o t a)
answers_sound l o t a = task_sound l o (resumed o t (hides o.handler o.touched a))
