-- What an object does at an event, and at an answer of its storage. Source: the article on input and output gates; the
-- limits of calls, and what happens at the end of a task, are this project's profile.
use Rattle.std.specs.Prelude.{ℕ, suc, zero, ◌+◌, ◌==◌, nat_lt, nat_le, ℤ, pos, Bool, true, false, not, ◌||◌, if◌then◌else◌, List, [], ◌∷◌, ◌++◌, map, codes, Option, Some, None, is_some, Result, Ok, Err}
use Rattle.std.specs.Int.{int_max}
use Rattle.std.specs.List.{flat_map, list_any, last_or}
use Rattle.do_value.specs.Tree as tree
use Rattle.do_value.specs.Tree.{Tree}
use Rattle.do_value.specs.Seen.{tree_of}
use Rattle.do_value.specs.declared.value.Value.{Value}
use Rattle.do_tree.specs.Lookup.{constructor_of, alarm_of}
use Rattle.script_ops.specs.Errors.{call_too_deep, too_many_calls, fetch_failed, call_failed}
use Rattle.storage_map.specs.Stored.{alarm_after}
use Rattle.storage_map.specs.declared.answer.Reading.TheVariants as reading
use Rattle.storage_map.specs.declared.op.Op.{Op}
use Rattle.storage_map.specs.declared.op.Op.TheVariants.{ClearAlarm}
use Rattle.write_batcher.specs.declared.batcher.Made.{Made}
use Rattle.script_mean.specs.Limits.{most_outside_calls}
use Rattle.script_mean.specs.Meaning.{meaning}
use Rattle.script_mean.specs.Storing.{value_of}
use Rattle.script_mean.specs.Task as task
use Rattle.script_mean.specs.Task.{Segment}
use Rattle.script_mean.specs.declared.answer.Answer.{Answer}
use Rattle.script_mean.specs.declared.answer.Answer.TheVariants as answer
use Rattle.script_mean.specs.declared.ask.Ask.{Ask}
use Rattle.script_mean.specs.declared.ask.Ask.TheVariants as ask
use Rattle.alarm_core.specs.AlarmRule.{is_due, after_success, after_failure, touches}
use Rattle.timeline.specs.Limits.{most_depth, most_calls}
use Rattle.timeline.specs.Object.{Life, Purpose, starts, handles, serves, OpenTask, Object, task_under, tasks_but, State, idle, waiting, ended, Step}
use Rattle.timeline.specs.declared.caller.Caller.{Caller}
use Rattle.timeline.specs.declared.caller.Cause.{Cause}
use Rattle.timeline.specs.declared.caller.Cause.TheVariants as cause
use Rattle.timeline.specs.declared.caller.Failure.{Failure}
use Rattle.timeline.specs.declared.caller.Failure.TheVariants as failure
use Rattle.timeline.specs.declared.entry.Body.{Body}
use Rattle.timeline.specs.declared.entry.Body.TheVariants as body
use Rattle.timeline.specs.declared.event.Event.{Event}
use Rattle.timeline.specs.declared.event.Event.TheVariants as event
use Rattle.timeline.specs.declared.message.Message.{Message}
use Rattle.timeline.specs.declared.message.Message.TheVariants as message

-- The object says nothing, and is so; and it says this before what it says then.
abbrev pub rests : Object → Step
rests o = record { says = []; state = idle o }

abbrev pub before : List Body → Step → Step
before bodies s = record { says = bodies ++ s.says; state = s.state }

-- A batch is told with its mark.
abbrev pub batch : Made → Body
batch made = body.Batch made.batch None made.confirmed

abbrev pub confirmed : List Op → Made
confirmed ops = record { batch = ops; confirmed = true }

-- What batches make of the alarm.
abbrev pub wrote : List Made → Object → Object
wrote batches o = let ops = flat_map (λ made. made.batch) batches in
    record o { alarm = alarm_after o.alarm ops; touched = o.touched || list_any touches ops }

-- A task of this purpose that begins now, and one that goes on with an answer.
abbrev pub fresh : Purpose → ℕ → List Tree → ℕ → Object → OpenTask
fresh purpose method args depth o = record {
  purpose = purpose;
  method = method;
  args = args;
  depth = depth;
  first = record { fields = o.fields; now = o.clock };
  resumes = [];
  made = 0;
  number = 0;
  block = false;
}

abbrev pub resumed : Object → OpenTask → Answer → OpenTask
resumed o t a = record t { resumes = t.resumes ++ record { answer = a; fields = o.fields; now = o.clock } ∷ [] }

-- The turn of a task that its last answer gives.
abbrev pub latest_turn : Life → OpenTask → Option Segment
latest_turn l t = last_or None (meaning l.script l.class t.method t.args t.first t.resumes)

-- A call that is too deep, or a task's call or fetch past the most that are let through, throws at once.
abbrev pub throws : Tree → Answer
throws error = answer.Thrown (value_of error)

abbrev pub refusal : ℕ → ℕ → Option Answer
refusal depth made =
    if nat_lt most_depth depth then Some (throws call_too_deep)
    else (if nat_le most_calls made then Some (throws too_many_calls) else None)

-- A task calls or fetches: it is refused and goes on, or the message leaves under the next number and the task waits.
abbrev pub outside : (OpenTask → Step) → Object → OpenTask → Option Answer → (ℕ → Message) → Step
outside again o t (Some a) message = again (resumed o t a)
outside again o t None message = let number = o.made + 1 in record {
  says = body.Message (message number) ∷ [];
  state = idle (record o { made = number; tasks = o.tasks ++ record t { number = number; made = t.made + 1 } ∷ [] });
}

-- A task waits for the storage's answer to an entry.
abbrev pub asks : Object → OpenTask → Body → Step
asks o t b = record { says = []; state = waiting o t b }

-- The last batch is the one whose completion is awaited.
abbrev pub asks_written : Object → OpenTask → ℕ → List Made → Step
asks_written o t tail [] = rests o
asks_written o t tail (made ∷ []) = asks o t (body.Batch made.batch (Some tail) made.confirmed)
asks_written o t tail (made ∷ next ∷ batches) = before (batch made ∷ []) (asks_written o t tail (next ∷ batches))

-- A turn ended with an ask, after these batches. An open ask is asked as another read.
abbrev pub on_ask : (OpenTask → Step) → Life → Object → OpenTask → List Made → Ask → Step
on_ask again l o t batches (ask.Store a) = before (map batch batches) (asks o t (body.Ask a false))
on_ask again l o t batches (ask.Open a) = before (map batch batches) (asks o t (body.Ask a false))
on_ask again l o t batches (ask.Written tail) = asks_written o t tail batches
on_ask again l o t batches ask.Sync = before (map batch batches) (asks o t body.Sync)
on_ask again l o t batches (ask.Call to method args) = before (map batch batches) (outside again o t (refusal (t.depth + 1) t.made)
    (λ number. message.Call l.incarnation number to method args (t.depth + 1)))
on_ask again l o t batches (ask.Fetch value) = before (map batch batches) (outside again o t (refusal 0 t.made)
    (λ number. message.Fetch l.incarnation number value))

abbrev pub replies : Caller → Result Value Failure → List Body
replies to result = body.Message (message.Reply to result) ∷ []

-- A handler has ended: what is written of the alarm is a confirmed batch of its own.
abbrev pub handled : Option Op → Object → Step
handled None o = rests (record o { handler = None })
handled (Some op) o = record { says = batch (confirmed (op ∷ [])) ∷ []; state = idle (wrote (confirmed (op ∷ []) ∷ []) (record o { handler = None })) }

-- The task is done; it threw; it was stopped at a limit. The last, and a throw of a constructor or out of a block, end the
-- incarnation.
abbrev pub on_done : Object → Purpose → Tree → Step
on_done o starts v = rests (record o { started = true })
on_done o (handles retry) v = handled (after_success o.touched) o
on_done o (serves from) v = before (replies from (Ok (value_of v))) (rests o)

abbrev pub on_thrown : Object → Purpose → Tree → Step
on_thrown o starts v = rests o
on_thrown o (handles retry) v = handled (after_failure retry o.touched o.clock) o
on_thrown o (serves from) v = before (replies from (Err (failure.Thrown (value_of v)))) (rests o)

abbrev pub halts : Cause → Step
halts c = record { says = body.Halt c ∷ []; state = ended c }

abbrev pub on_reset : Purpose → Step
on_reset starts = halts cause.StartThrew
on_reset _ = halts cause.BlockThrew

abbrev pub on_exceeded : Purpose → Step
on_exceeded (serves from) = before (replies from (Err failure.Exceeded)) (halts cause.Exceeded)
on_exceeded _ = halts cause.Exceeded

abbrev pub on_threw : Bool → Object → Purpose → Tree → Step
on_threw true o purpose v = on_reset purpose
on_threw false o purpose v = on_thrown o purpose v

-- What follows a turn of a task. An ask that is refused is answered at once.
abbrev pub on_turn : (Object → OpenTask → Step) → Life → Object → OpenTask → Option Segment → Step
on_turn again l o t None = rests o
on_turn again l o t (Some (task.asked batches fs a block)) =
    let new = wrote batches (record o { fields = fs }) in on_ask (again new) l new (record t { block = block }) batches a
on_turn again l o t (Some (task.done batches fs v)) =
    before (map batch batches) (on_done (wrote batches (record o { fields = fs })) t.purpose v)
on_turn again l o t (Some (task.threw batches fs v reset)) =
    before (map batch batches) (on_threw reset (wrote batches (record o { fields = fs })) t.purpose v)
on_turn again l o t (Some (task.exceeded batches)) = before (map batch batches) (on_exceeded t.purpose)

-- A task runs from turn to turn until it waits or has ended, where fewer than so many of its calls are refused.
abbrev pub runs : ℕ → Life → Object → OpenTask → Step
runs zero l o t = rests o
runs (suc n) l o t = on_turn (λ new u. runs n l new u) l o t (latest_turn l t)

-- A task makes no more calls and fetches than these.
unfoldable pub most_refused : ℕ
most_refused = suc most_outside_calls

abbrev pub goes_on : Life → Object → OpenTask → Step
goes_on l o t = runs most_refused l o t

-- What the handler of an alarm is called with.
abbrev pub alarm_info : ℕ → Tree
alarm_info retry = tree.fields ((codes "isRetry", tree.boolean (not (retry == 0))) ∷ (codes "retryCount", tree.number (pos retry)) ∷ [])

-- An event begins its task, where the constructor has run.
abbrev pub begins_handler : Life → Object → Option ℕ → Option ℕ → Step
begins_handler l o (Some method) (Some retry) = goes_on l o (fresh (handles retry) method (alarm_info retry ∷ []) 0 o)
begins_handler l o _ _ = rests o

abbrev pub begins : Life → Object → Event → Step
begins l o (event.Call from method args depth at) = goes_on l o (fresh (serves from) method (map tree_of args) depth o)
begins l o (event.Tick at) = begins_handler l o (alarm_of l.script l.class) o.handler
begins l o _ = rests o

-- Where the constructor has ended, the event that waited for it begins its task.
abbrev pub begins_parked : Life → Object → Bool → Option Event → Step
begins_parked l o true (Some e) = begins l (record o { parked = None }) e
begins_parked l o _ _ = rests o

abbrev pub on_state : Life → State → Step
on_state l (idle o) = begins_parked l o o.started o.parked
on_state l s = record { says = []; state = s }

abbrev pub then_parked : Life → Purpose → Step → Step
then_parked l starts s = before s.says (on_state l s.state)
then_parked l _ s = s

-- An event that starts its object: it runs the constructor first, where the class has one.
abbrev pub starts_by : Life → Object → Event → ℕ → Option ℕ → Step
starts_by l o e depth None = begins l (record o { started = true }) e
starts_by l o e depth (Some constructor) = then_parked l starts (goes_on l (record o { parked = Some e }) (fresh starts constructor [] depth o))

abbrev pub arrives : Life → Object → Event → ℕ → Step
arrives l o e depth = if o.started then begins l o e else starts_by l o e depth (constructor_of l.script l.class)

-- A tick that is due runs the handler, or clears the alarm of a class that has none. Another does nothing.
abbrev pub handles_due : Life → Object → Event → Option (ℤ × ℕ) → Option ℕ → Step
handles_due l o e (Some alarm) (Some method) = arrives l (record o { handler = Some alarm.1; touched = false }) e 0
handles_due l o e _ None = handled (Some ClearAlarm) o
handles_due l o e None _ = rests o

abbrev pub on_tick : Life → Object → Event → ℤ → Step
on_tick l o e at = if is_due o.alarm (is_some o.handler) at then handles_due l o e o.alarm (alarm_of l.script l.class) else rests o

-- What the answer to a call or a fetch gives to its task: the value, or an error that names the failure.
abbrev pub call_error : List ℕ → Answer
call_error word = throws (call_failed word)

abbrev pub failed : Failure → Answer
failed failure.NoClass = call_error (codes "NoClass")
failed failure.NoMethod = call_error (codes "NoMethod")
failed (failure.NoSlot slots) = call_error (codes "NoSlot")
failed failure.NoFetch = throws fetch_failed
failed (failure.Thrown value) = call_error (codes "Thrown")
failed failure.Exceeded = call_error (codes "Exceeded")
failed (failure.Reset c) = call_error (codes "Reset")
failed (failure.Down before after) = call_error (codes "Down")

abbrev pub answer_of : Result Value Failure → Answer
answer_of (Ok value) = answer.Value value
answer_of (Err f) = failed f

abbrev pub on_answer : Life → Object → Option OpenTask → Answer → Step
on_answer l o None a = rests o
on_answer l o (Some t) a = then_parked l t.purpose (goes_on l (record o { tasks = tasks_but t.number o.tasks }) (resumed o t a))

-- The clock is the greatest moment of the incarnation's events.
abbrev pub moment_of : Event → ℤ
moment_of (event.Bind identity) = pos 0
moment_of (event.Call from method args depth at) = at
moment_of (event.Answer incarnation number result at) = at
moment_of (event.Tick at) = at
moment_of (event.Evict at) = at

abbrev pub on_event : Life → Object → Event → Step
on_event l o (event.Bind identity) = record { says = body.Bind identity ∷ []; state = idle o }
on_event l o (event.Call from method args depth at) = arrives l o (event.Call from method args depth at) depth
on_event l o (event.Answer incarnation number result at) = on_answer l o (task_under number o.tasks) (answer_of result)
on_event l o (event.Tick at) = on_tick l o (event.Tick at) at
on_event l o (event.Evict at) = rests (record o { fields = []; started = false })

-- The first part of an event: up to its end, or to the first storage wait.
abbrev pub delivers : Life → Object → Event → Step
delivers l o e = on_event l (record o { clock = int_max o.clock (moment_of e) }) e

-- A handler that runs sees no alarm until one is set or cleared.
abbrev pub hides : Option ℕ → Bool → Answer → Answer
hides (Some retry) false (answer.Read (reading.Alarm alarm)) = answer.Read (reading.Alarm None)
hides _ _ a = a

-- The next part: from an answer of the storage on.
abbrev pub answers : Life → Object → OpenTask → Answer → Step
answers l o t a = then_parked l t.purpose (goes_on l o (resumed o t (hides o.handler o.touched a)))
