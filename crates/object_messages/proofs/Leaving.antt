-- An idle object leaves each call that it hasn't answered, once.
use Rattle.std.proofs.Common.{◌≡◌, ◌∙◌, sym, refl, ap, subst, ℕ, List, [], ◌∷◌, ◌++◌}
use Rattle.std.proofs.lemmas.List.{map-append}
use Rattle.std.specs.List.{flat_map, list_any}
use Rattle.std.specs.Prelude.{Bool, true, false, map, if◌then◌else◌, Option, Some, None}
use Rattle.do_value.specs.declared.value.Value.TheVariants as value
use Rattle.storage_map.specs.declared.answer.Reading.TheVariants as reading
use Rattle.script_mean.specs.Task as task
use Rattle.script_mean.specs.Task.{Segment}
use Rattle.script_mean.specs.declared.answer.Answer.TheVariants as answer
use Rattle.script_mean.specs.declared.ask.Ask.TheVariants as ask
use Rattle.timeline.specs.Intake.{Front, Kind, Mode, Taken, delivered, noticed, wanted, down, front_after, life, opened, serves, takes}
use Rattle.timeline.specs.Left.{call_waits, is_answer_to, is_for, left, left_call, left_event, task_of, wait_of}
use Rattle.timeline.specs.Object.{Life, Object, OpenTask, idle, waiting}
use Rattle.timeline.specs.Replies.{unanswered}
use Rattle.timeline.specs.Steps.{latest_turn}
use Rattle.timeline.specs.declared.caller.Caller.{Caller}
use Rattle.timeline.specs.declared.entry.Body.{Body}
use Rattle.timeline.specs.declared.event.Event.{Event}
use Rattle.timeline.specs.declared.event.Event.TheVariants as event
use Rattle.timeline.specs.declared.notice.Notice.TheVariants as notice
use Rattle.timeline.specs.declared.notice.Waits.{Waits}
use Rattle.timeline.specs.declared.notice.Waits.TheVariants as waits
use Rattle.object_messages.proofs.Waiting.{AsksOutside, StateWaits, TasksWait, WaitsOutside, answers_wait, delivers_waits}
use Rattle.object_messages.specs.Exact.{LeftIsEach, callers}
use Rattle.object_messages.specs.Naming.{called_in}

-- The tasks of a front's object wait for calls and fetches.
abbrev ModeWaits : Kind → ℕ → Mode → Type 0
ModeWaits k i (serves state) = StateWaits (life k i) state
ModeWaits k i (down call) = Unit {0}

-- An item leaves it so.
takes_wait : (k : Kind) (i : ℕ) (events : List Event) (said : List Body) (mode : Mode) (t : Taken) → ModeWaits k i mode
    → let next = takes k (record { incarnation = i; events = events; said = said; mode = mode }) t in ModeWaits k next.incarnation next.mode
takes_wait k i listed said (serves (idle o)) (delivered e) all = delivers_waits (life k i) o e all
takes_wait k i listed said (serves (waiting o t b)) (noticed (notice.Read number r)) all = answers_wait (life k i) o t (answer.Read r) all
takes_wait k i listed said (serves (waiting o t b)) (noticed (notice.Taken number count)) all =
    answers_wait (life k i) o t (answer.Read (reading.Count count)) all
takes_wait k i listed said (serves (waiting o t b)) (noticed (notice.Synced number)) all =
    answers_wait (life k i) o t (answer.Value value.Undefined) all
takes_wait k i listed said (serves state) (noticed (notice.Fresh incarnation alarm cause)) all = tt
takes_wait k i listed said (down call) (noticed (notice.Fresh incarnation alarm cause)) all = tt
takes_wait k i listed said (serves state) (noticed (notice.Down cause before after)) all = tt
takes_wait k i listed said (down call) (noticed (notice.Down cause before after)) all = tt
takes_wait k i listed said (serves state) (wanted e) all = tt
takes_wait k i listed said (down call) (wanted e) all = tt
takes_wait k i listed said mode t all = all

-- So all items do.
front_waits : (k : Kind) (taken : List Taken) (f : Front) → ModeWaits k f.incarnation f.mode
    → ModeWaits k (front_after k f taken).incarnation (front_after k f taken).mode
front_waits k [] f all = all
front_waits k (t ∷ taken) f all = front_waits k taken (takes k f t) (takes_wait k f.incarnation f.events f.said f.mode t all)

-- The task that is found waits.
found_waits : (l : Life) (from : Caller) (tasks : List OpenTask) (t : OpenTask) → TasksWait l tasks → task_of from tasks ≡ Some t → WaitsOutside l t
found_waits l from [] t all found = cc
found_waits l from (u ∷ tasks) t all found = by_first (is_for from u.purpose) refl (found_waits l from tasks t all.1)
  where
    by_first : (b : Bool) → is_for from u.purpose ≡ b → (task_of from tasks ≡ Some t → WaitsOutside l t) → WaitsOutside l t
    by_first true here rest =
        let is : Some u ≡ Some t = sym (ap (λ (c : Bool). if c then Some u else task_of from tasks) here) ∙ found in
        let same : u ≡ t = cc in subst (WaitsOutside l) same all.0
    by_first false other rest = rest (sym (ap (λ (c : Bool). if c then Some u else task_of from tasks) other) ∙ found)

-- A caller with one wait is one caller.
abbrev caller_with : Caller → List Waits → List Caller
caller_with from found = callers (map (λ wait. (from, wait)) found)

-- A task that waits has one wait,
turn_once : (l : Life) (from : Caller) (t : OpenTask) (turn : Option Segment) → AsksOutside turn → caller_with from (wait_of l t turn) ≡ from ∷ []
turn_once l from t (Some (task.asked batches fs (ask.Call to method args) block)) asks = refl
turn_once l from t (Some (task.asked batches fs (ask.Fetch value) block)) asks = refl
turn_once l from t turn asks = absurd asks

-- also where its answer is deferred,
task_once : (l : Life) (from : Caller) (t : OpenTask) (deferred : Bool) → WaitsOutside l t
    → caller_with from (if deferred then waits.Block ∷ [] else wait_of l t (latest_turn l t)) ≡ from ∷ []
task_once l from t true own = refl
task_once l from t false own = turn_once l from t (latest_turn l t) own

-- and so has a call without a task.
call_once : (l : Life) (from : Caller) (tasks : List OpenTask) (deferred : List Event) (found : Option OpenTask) → task_of from tasks ≡ found
    → TasksWait l tasks → caller_with from (call_waits l deferred found) ≡ from ∷ []
call_once l from tasks deferred None is all = refl
call_once l from tasks deferred (Some t) is all =
    task_once l from t (list_any (is_answer_to l.incarnation t.number) deferred) (found_waits l from tasks t all is)

-- So the calls that are left.
calls_once : (l : Life) (o : Object) (deferred : List Event) (asking : List Caller) → TasksWait l o.tasks
    → callers (flat_map (left_call l o deferred) asking) ≡ asking
calls_once l o deferred [] all = refl
calls_once l o deferred (from ∷ asking) all =
    map-append (λ (item : Caller × Waits). item.0) (left_call l o deferred from) (flat_map (left_call l o deferred) asking)
    ∙ ap (λ (own : List Caller). own ++ callers (flat_map (left_call l o deferred) asking))
    (call_once l from o.tasks deferred (task_of from o.tasks) refl all)
    ∙ ap (λ (rest : List Caller). from ∷ rest) (calls_once l o deferred asking all)

-- The deferred calls.
deferred_once : (deferred : List Event) → callers (flat_map left_event deferred) ≡ called_in deferred
deferred_once [] = refl
deferred_once (event.Call from method args depth at ∷ deferred) = ap (λ (rest : List Caller). from ∷ rest) (deferred_once deferred)
deferred_once (event.Bind identity ∷ deferred) = deferred_once deferred
deferred_once (event.Answer incarnation number result at ∷ deferred) = deferred_once deferred
deferred_once (event.Tick at ∷ deferred) = deferred_once deferred
deferred_once (event.Evict at ∷ deferred) = deferred_once deferred

-- So of an object whose tasks wait,
pub object_leaves : (l : Life) (o : Object) (events : List Event) (said : List Body) (deferred : List Event) → TasksWait l o.tasks
    → callers (left l o events said deferred) ≡ unanswered events said ++ called_in deferred
object_leaves l o listed said deferred all =
    map-append (λ (item : Caller × Waits). item.0) (flat_map (left_call l o deferred) (unanswered listed said)) (flat_map left_event deferred)
    ∙ ap (λ (own : List Caller). own ++ callers (flat_map left_event deferred)) (calls_once l o deferred (unanswered listed said) all)
    ∙ ap (λ (rest : List Caller). unanswered listed said ++ rest) (deferred_once deferred)

-- and of each that serves.
pub left_each : LeftIsEach
left_each k alarm taken o deferred intake is =
    let f = front_after k (opened alarm) taken in
    object_leaves (life k f.incarnation) o f.events f.said deferred
    (subst (ModeWaits k f.incarnation) is (front_waits k taken (opened alarm) tt))
