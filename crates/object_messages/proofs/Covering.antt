-- Each number that an object has given is one under which a task of it waits, or was answered.
use Rattle.std.proofs.Common.{◌≡◌, ◌≢◌, ◌∙◌, ap, sym, refl, subst, ◌⊎◌, inl, inr, ⊎_elim, true≢false, cond, ℕ, zero, suc, ◌+◌, ◌≤◌, List, [], ◌∷◌, ◌++◌, arith}
use Rattle.std.proofs.lemmas.Bool.{cases_eq}
use Rattle.std.proofs.lemmas.Bool.Decides.{nat_tests}
use Rattle.std.specs.Int.{int_max}
use Rattle.std.specs.List.{Contains}
use Rattle.std.specs.Prelude.{ℤ, Bool, true, false, ◌==◌, if◌then◌else◌, Option, Some, None, IfSome, is_some}
use Rattle.do_value.specs.Tree.{Tree}
use Rattle.do_tree.specs.Lookup.{constructor_of, alarm_of as handler_of}
use Rattle.storage_map.specs.declared.op.Op.{Op}
use Rattle.write_batcher.specs.declared.batcher.Made.{Made}
use Rattle.storage_map.specs.declared.op.Op.TheVariants as op
use Rattle.script_mean.specs.Task as task
use Rattle.script_mean.specs.Task.{Segment}
use Rattle.script_mean.specs.declared.answer.Answer.{Answer}
use Rattle.script_mean.specs.declared.ask.Ask.TheVariants as ask
use Rattle.alarm_core.specs.AlarmRule.{is_due}
use Rattle.timeline.specs.Object.{Life, Purpose, starts, handles, serves, OpenTask, Object, task_under, tasks_but, is_open, State, idle, waiting, ended, Step}
use Rattle.timeline.specs.Steps as steps
use Rattle.timeline.specs.Steps.{rests, before, wrote, fresh, resumed, latest_turn, outside, asks_written, refusal, handled, on_done, on_threw, on_exceeded, on_turn, runs, goes_on, begins_handler, begins_parked, on_state, then_parked, starts_by, arrives, handles_due, on_answer, answer_of, on_event, delivers, answers, hides, most_refused, moment_of}
use Rattle.timeline.specs.declared.event.Event.{Event}
use Rattle.timeline.specs.declared.event.Event.TheVariants as event
use Rattle.timeline.specs.declared.message.Message.{Message}

-- Of the numbers that an incarnation has given each is open, or among those that were answered.
abbrev pub Covers : ℕ → List (ℕ × ℕ) → Object → Type 0
Covers i answered o = (number : ℕ) → 1 ≤ number → number ≤ o.made → (is_open (task_under number o.tasks) ≡ true) ⊎ Contains answered (i, number)

abbrev pub StateCovers : ℕ → List (ℕ × ℕ) → State → Type 0
StateCovers i answered (idle o) = Covers i answered o
StateCovers i answered (waiting o t b) = Covers i answered o
StateCovers i answered (ended c) = Unit {0}

abbrev pub StepCovers : ℕ → List (ℕ × ℕ) → Step → Type 0
StepCovers i answered s = StateCovers i answered s.state

-- A task that is open is so with one more behind it, and that one is.
open_more : (number : ℕ) (tasks : List OpenTask) (t : OpenTask) → is_open (task_under number tasks) ≡ true → is_open (task_under number (tasks ++ t ∷ [])) ≡ true
open_more number [] t is = absurd (true≢false (sym is))
open_more number (u ∷ tasks) t is = by_first (u.number == number) is (open_more number tasks t)
  where
    by_first : (b : Bool) → is_open (cond b (Some u) (task_under number tasks)) ≡ true
        → (is_open (task_under number tasks) ≡ true → is_open (task_under number (tasks ++ t ∷ [])) ≡ true)
        → is_open (cond b (Some u) (task_under number (tasks ++ t ∷ []))) ≡ true
    by_first true still more = refl
    by_first false still more = more still

open_last : (number : ℕ) (tasks : List OpenTask) (t : OpenTask) → (t.number == number) ≡ true → is_open (task_under number (tasks ++ t ∷ [])) ≡ true
open_last number [] t is = ap (λ (b : Bool). is_open (cond b (Some t) None)) is
open_last number (u ∷ tasks) t is = by_first (u.number == number) (open_last number tasks t is)
  where
    by_first : (b : Bool) → is_open (task_under number (tasks ++ t ∷ [])) ≡ true → is_open (cond b (Some u) (task_under number (tasks ++ t ∷ []))) ≡ true
    by_first true more = refl
    by_first false more = more

-- A task under another number is open where one is gone.
open_but : (gone number : ℕ) (tasks : List OpenTask) → gone ≢ number → is_open (task_under number tasks) ≡ true
    → is_open (task_under number (tasks_but gone tasks)) ≡ true
open_but gone number [] other is = is
open_but gone number (u ∷ tasks) other is = by_first (u.number == gone) (u.number == number) refl refl is (open_but gone number tasks other)
  where
    by_first : (here there : Bool) → (u.number == gone) ≡ here → (u.number == number) ≡ there → is_open (cond there (Some u) (task_under number tasks)) ≡ true
        → (is_open (task_under number tasks) ≡ true → is_open (task_under number (tasks_but gone tasks)) ≡ true) → is_open (task_under number (if here then tasks else u ∷ tasks_but gone tasks)) ≡ true
    by_first true true at_gone at_number still more = absurd (other (grind (arith, nat_tests)))
    by_first true false at_gone at_number still more = still
    by_first false true at_gone at_number still more = ap (λ (b : Bool). is_open (cond b (Some u) (task_under number (tasks_but gone tasks)))) at_number
    by_first false false at_gone at_number still more =
        ap (λ (b : Bool). is_open (cond b (Some u) (task_under number (tasks_but gone tasks)))) at_number ∙ more still

-- A number is itself, and one up to the next is that or one up to this.
same_number : (n : ℕ) → (n == n) ≡ true
same_number n = grind (arith, nat_tests)

or_last : (number made : ℕ) → number ≤ made + 1 → (number ≤ made) ⊎ (number ≡ made + 1)
or_last number made most = grind (arith, nat_tests)

-- The task that an event resumes.
abbrev pub resumed_by : Event → List OpenTask → Option OpenTask
resumed_by (event.Answer incarnation number result at) tasks = task_under number tasks
resumed_by e tasks = None

if_some : {X : Type 0} (x : Option X) (P : X → Type 0) → ((y : X) → x ≡ Some y → P y) → IfSome x P
if_some None P is = tt
if_some (Some y) P is = is y refl

module _ (i : ℕ) (answered : List (ℕ × ℕ)) where
  -- One of two steps.
  either_covers : (b : Bool) (s q : Step) → StepCovers i answered s → StepCovers i answered q → StepCovers i answered (if b then s else q)
  either_covers true s q one other = one
  either_covers false s q one other = other

  -- A write's completion is waited for.
  written_covers : (o : Object) (t : OpenTask) (tail : ℕ) (batches : List Made) → Covers i answered o
      → StepCovers i answered (asks_written o t tail batches)
  written_covers o t tail [] all = all
  written_covers o t tail (made ∷ []) all = all
  written_covers o t tail (made ∷ next ∷ batches) all = written_covers o t tail (next ∷ batches) all

  -- A call or a fetch leaves and its task waits, or it is refused.
  outside_covers : (again : OpenTask → Step) (o : Object) (t : OpenTask) (refused : Option Answer) (message : ℕ → Message)
      → ((u : OpenTask) → StepCovers i answered (again u)) → Covers i answered o → StepCovers i answered (outside again o t refused message)
  outside_covers again o t (Some a) message covers all = covers (resumed o t a)
  outside_covers again o t None message covers all =
      let next : OpenTask = record t { number = o.made + 1; made = t.made + 1 } in
      λ number least most. ⊎_elim
      (λ (before : number ≤ o.made). ⊎_elim (λ still. inl (open_more number o.tasks next still)) (λ was. inr was) (all number least before))
      (λ (last : number ≡ o.made + 1). inl (open_last number o.tasks next (subst (λ (n : ℕ). (o.made + 1 == n) ≡ true) (sym last) (same_number (o.made + 1)))))
      (or_last number o.made most)

  -- The end of a task,
  handled_covers : (made : Option Op) (o : Object) → Covers i answered o → StepCovers i answered (handled made o)
  handled_covers None o all = all
  handled_covers (Some made) o all = all

  -- where it is done,
  done_covers : (o : Object) (purpose : Purpose) (v : Tree) → Covers i answered o → StepCovers i answered (on_done o purpose v)
  done_covers o starts v all = all
  done_covers o (handles retry) v all = handled_covers _ o all
  done_covers o (serves caller) v all = all

  -- where it threw,
  threw_covers : (reset : Bool) (o : Object) (purpose : Purpose) (v : Tree) → Covers i answered o → StepCovers i answered (on_threw reset o purpose v)
  threw_covers true o starts v all = tt
  threw_covers true o (handles retry) v all = tt
  threw_covers true o (serves caller) v all = tt
  threw_covers false o starts v all = all
  threw_covers false o (handles retry) v all = handled_covers _ o all
  threw_covers false o (serves caller) v all = all

  -- where it was stopped at a limit,
  exceeded_covers : (purpose : Purpose) → StepCovers i answered (on_exceeded purpose)
  exceeded_covers starts = tt
  exceeded_covers (handles retry) = tt
  exceeded_covers (serves caller) = tt

  -- and so what follows a turn.
  turn_covers : (l : Life) (again : Object → OpenTask → Step) → ((o : Object) (t : OpenTask) → Covers i answered o → StepCovers i answered (again o t))
      → (o : Object) (t : OpenTask) (turn : Option Segment) → Covers i answered o → StepCovers i answered (on_turn again l o t turn)
  turn_covers l again covers o t None all = all
  turn_covers l again covers o t (Some (task.asked batches fs (ask.Store a) block)) all = all
  turn_covers l again covers o t (Some (task.asked batches fs (ask.Open a) block)) all = all
  turn_covers l again covers o t (Some (task.asked batches fs (ask.Written tail) block)) all =
      written_covers (wrote batches (record o { fields = fs })) (record t { block = block }) tail batches all
  turn_covers l again covers o t (Some (task.asked batches fs ask.Sync block)) all = all
  turn_covers l again covers o t (Some (task.asked batches fs (ask.Call to method args) block)) all =
      let new = wrote batches (record o { fields = fs }) in
      outside_covers (again new) new (record t { block = block }) (refusal (t.depth + 1) t.made) _ (λ u. covers new u all) all
  turn_covers l again covers o t (Some (task.asked batches fs (ask.Fetch value) block)) all =
      let new = wrote batches (record o { fields = fs }) in
      outside_covers (again new) new (record t { block = block }) (refusal 0 t.made) _ (λ u. covers new u all) all
  turn_covers l again covers o t (Some (task.done batches fs v)) all = done_covers (wrote batches (record o { fields = fs })) t.purpose v all
  turn_covers l again covers o t (Some (task.threw batches fs v reset)) all =
      threw_covers reset (wrote batches (record o { fields = fs })) t.purpose v all
  turn_covers l again covers o t (Some (task.exceeded batches)) all = exceeded_covers t.purpose

  -- A task runs,
  runs_cover : (n : ℕ) (l : Life) (o : Object) (t : OpenTask) → Covers i answered o → StepCovers i answered (runs n l o t)
  runs_cover zero l o t all = all
  runs_cover (suc n) l o t all = turn_covers l (λ new u. runs n l new u) (λ new u. runs_cover n l new u) o t (latest_turn l t) all

  -- and an event begins one.
  handler_covers : (l : Life) (o : Object) (method retry : Option ℕ) → Covers i answered o → StepCovers i answered (begins_handler l o method retry)
  handler_covers l o (Some method) (Some retry) all = runs_cover most_refused l o (fresh (handles retry) method (steps.alarm_info retry ∷ []) 0 o) all
  handler_covers l o (Some method) None all = all
  handler_covers l o None retry all = all

  -- Each event.
  begins_cover : (l : Life) (o : Object) (e : Event) → Covers i answered o → StepCovers i answered (steps.begins l o e)
  begins_cover l o (event.Call caller method args depth at) all = runs_cover most_refused l o _ all
  begins_cover l o (event.Tick at) all = handler_covers l o (handler_of l.script l.class) o.handler all
  begins_cover l o (event.Bind identity) all = all
  begins_cover l o (event.Answer incarnation number result at) all = all
  begins_cover l o (event.Evict at) all = all

  -- The event that waited for the constructor begins its task.
  parked_covers : (l : Life) (o : Object) (started : Bool) (parked : Option Event) → Covers i answered o → StepCovers i answered (begins_parked l o started parked)
  parked_covers l o true (Some e) all = begins_cover l (record o { parked = None }) e all
  parked_covers l o true None all = all
  parked_covers l o false parked all = all

  -- It begins where a state is idle.
  state_covers : (l : Life) (state : State) → StateCovers i answered state → StepCovers i answered (on_state l state)
  state_covers l (idle o) all = parked_covers l o o.started o.parked all
  state_covers l (waiting o t b) all = all
  state_covers l (ended c) all = all

  -- So it does behind a step of a constructor.
  then_covers : (l : Life) (purpose : Purpose) (s : Step) → StepCovers i answered s → StepCovers i answered (then_parked l purpose s)
  then_covers l starts s waits = state_covers l s.state waits
  then_covers l (handles retry) s waits = waits
  then_covers l (serves caller) s waits = waits

  -- A task with what waited for it.
  task_goes_on : (l : Life) (o : Object) (t : OpenTask) → Covers i answered o → StepCovers i answered (then_parked l t.purpose (goes_on l o t))
  task_goes_on l o t all = then_covers l t.purpose (goes_on l o t) (runs_cover most_refused l o t all)

  -- An event that starts its object,
  starts_cover : (l : Life) (o : Object) (e : Event) (depth : ℕ) (constructor : Option ℕ) → Covers i answered o
      → StepCovers i answered (starts_by l o e depth constructor)
  starts_cover l o e depth None all = begins_cover l (record o { started = true }) e all
  starts_cover l o e depth (Some constructor) all = task_goes_on l (record o { parked = Some e }) (fresh starts constructor [] depth o) all

  -- one that arrives,
  arrives_cover : (l : Life) (o : Object) (e : Event) (depth : ℕ) → Covers i answered o → StepCovers i answered (arrives l o e depth)
  arrives_cover l o e depth all =
      either_covers o.started (steps.begins l o e) (starts_by l o e depth (constructor_of l.script l.class)) (begins_cover l o e all)
      (starts_cover l o e depth (constructor_of l.script l.class) all)

  -- and a tick that is due.
  due_covers : (l : Life) (o : Object) (e : Event) (alarm : Option (ℤ × ℕ)) (method : Option ℕ) → Covers i answered o
      → StepCovers i answered (handles_due l o e alarm method)
  due_covers l o e (Some alarm) (Some method) all = arrives_cover l (record o { handler = Some alarm.1; touched = false }) e 0 all
  due_covers l o e (Some alarm) None all = handled_covers (Some op.ClearAlarm) o all
  due_covers l o e None None all = handled_covers (Some op.ClearAlarm) o all
  due_covers l o e None (Some method) all = all

  -- The answer to a call or a fetch, of which it is known that the one that it resumes is answered.
  answer_covers : (l : Life) (o : Object) (t : Option OpenTask) (a : Answer) → Covers i answered o → IfSome t (λ u. Contains answered (i, u.number))
      → StepCovers i answered (on_answer l o t a)
  answer_covers l o None a all is = all
  answer_covers l o (Some t) a all is =
      task_goes_on l (record o { tasks = tasks_but t.number o.tasks }) (resumed o t a)
      (λ number least most. ⊎_elim
      (λ (same : t.number ≡ number). inr (subst (λ (n : ℕ). Contains answered (i, n)) same is))
      (λ (other : t.number ≢ number). ⊎_elim (λ still. inl (open_but t.number number o.tasks other still)) (λ was. inr was) (all number least most))
      (cases_eq t.number number))

  -- Each event that is delivered, of which it is known that what it answers is answered.
  event_covers : (l : Life) (o : Object) (e : Event) → Covers i answered o → ((u : OpenTask) → resumed_by e o.tasks ≡ Some u → Contains answered (i, u.number))
      → StepCovers i answered (on_event l o e)
  event_covers l o (event.Bind identity) all is = all
  event_covers l o (event.Call caller method args depth at) all is = arrives_cover l o (event.Call caller method args depth at) depth all
  event_covers l o (event.Answer incarnation number result at) all is =
      answer_covers l o (task_under number o.tasks) (answer_of result) all (if_some (task_under number o.tasks) _ is)
  event_covers l o (event.Tick at) all is =
      either_covers (is_due o.alarm (is_some o.handler) at) (handles_due l o (event.Tick at) o.alarm (handler_of l.script l.class)) (rests o)
      (due_covers l o (event.Tick at) o.alarm (handler_of l.script l.class) all) all
  event_covers l o (event.Evict at) all is = all

  -- So a step at an event,
  pub delivers_covers : (l : Life) (o : Object) (e : Event) → Covers i answered o → ((u : OpenTask) → resumed_by e o.tasks ≡ Some u → Contains answered (i, u.number))
      → StepCovers i answered (delivers l o e)
  delivers_covers l o e all is = event_covers l (record o { clock = int_max o.clock (moment_of e) }) e all is

  -- and one at an answer of the storage.
  pub answers_cover : (l : Life) (o : Object) (t : OpenTask) (a : Answer) → Covers i answered o → StepCovers i answered (answers l o t a)
  answers_cover l o t a all = task_goes_on l o (resumed o t (hides o.handler o.touched a)) all
