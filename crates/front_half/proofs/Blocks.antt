-- Each step of an object keeps its blocks in order: only the newest of its tasks has its block open, and none while the storage is
-- waited for.
use Rattle.std.proofs.Common.{◌≡◌, ◌∙◌, sym, refl, ℕ, suc, zero, List, [], ◌∷◌, Bool, true, false, true≢false, Option, Some, None, ◌⊎◌, inl, inr, arith}
use Rattle.std.specs.Prelude.{ℤ, if◌then◌else◌, is_some}
use Rattle.std.specs.Int.{int_max}
use Rattle.std.proofs.lemmas.Option.{none-some}
use Rattle.do_value.specs.Tree.{Tree}
use Rattle.do_tree.specs.Lookup.{constructor_of, alarm_of}
use Rattle.storage_map.specs.declared.op.Op.{Op}
use Rattle.write_batcher.specs.declared.batcher.Made.{Made}
use Rattle.storage_map.specs.declared.op.Op.TheVariants.{ClearAlarm}
use Rattle.alarm_core.specs.AlarmRule.{is_due, after_success, after_failure}
use Rattle.script_mean.specs.Task as task
use Rattle.script_mean.specs.Task.{Segment}
use Rattle.script_mean.specs.declared.answer.Answer.{Answer}
use Rattle.script_mean.specs.declared.ask.Ask.{Ask}
use Rattle.script_mean.specs.declared.ask.Ask.TheVariants as ask
use Rattle.timeline.specs.Eligible.{has_block, has_no_task, is_eligible, is_eligible_while}
use Rattle.timeline.specs.Object.{Life, Purpose, starts, handles, serves, OpenTask, Object, State, idle, waiting, ended, Step, begun, is_blocked, task_under, tasks_but}
use Rattle.timeline.specs.Steps.{latest_turn, on_turn, on_ask, outside, asks_written, wrote, handled, on_done, on_thrown, on_threw, on_reset, on_exceeded, runs, goes_on, most_refused, begins, begins_handler, begins_parked, on_state, then_parked, starts_by, arrives, handles_due, on_tick, on_answer, on_event, delivers, answers, answer_of, moment_of, rests, fresh, resumed, hides}
use Rattle.timeline.specs.declared.event.Event.{Event}
use Rattle.timeline.specs.declared.event.Event.TheVariants as event
use Rattle.timeline.specs.declared.message.Message.{Message}
use Rattle.front_half.specs.Gated.{AreGated, IsGated, IsGatedState}
use Rattle.front_half.proofs.Gates.{gated_but, gated_too, others_closed}

abbrev IsStart : Purpose → Type 0
IsStart starts = Unit {0}
IsStart (handles retry) = ⊥
IsStart (serves from) = ⊥

-- An incarnation begins without tasks.
pub begun_gated : (constructor : Option ℕ) (alarm : Option (ℤ × ℕ)) → IsGated constructor (begun alarm)
begun_gated constructor alarm = record { tasks = tt; parked = λ when. refl }

-- Where a run of a task leaves its object, which had this event parked and was started or not, and no block open.
record Went (p : Purpose) (event_before : Option Event) (started_before : Bool) (o : Object) : Type 0 where
  tasks : AreGated 0 o.made o.tasks
  parked : o.parked ≡ event_before
  started : (o.started ≡ started_before) ⊎ (IsStart p × (is_blocked o ≡ false))

record Waits (event_before : Option Event) (started_before : Bool) (o : Object) : Type 0 where
  tasks : AreGated 0 o.made o.tasks
  parked : o.parked ≡ event_before
  started : o.started ≡ started_before
  closed : is_blocked o ≡ false

abbrev Goes : Purpose → Option Event → Bool → State → Type 0
Goes p parked started (idle o) = Went p parked started o
Goes p parked started (waiting o t b) = Waits parked started o
Goes p parked started (ended cause) = Unit {0}

module _ (o : Object) (gated : AreGated 0 o.made o.tasks) (closed : is_blocked o ≡ false) where
  went : (p : Purpose) → Went p o.parked o.started o
  went p = record { tasks = gated; parked = refl; started = inl refl }

  waits : Waits o.parked o.started o
  waits = record { tasks = gated; parked = refl; started = refl; closed = closed }

  -- A call or a fetch that is let through leaves its task under the next number; one that is refused goes on.
  outside_goes : (again : OpenTask → Step) → ((u : OpenTask) → Goes u.purpose o.parked o.started (again u).state)
      → (t : OpenTask) (refused : Option Answer) (message : ℕ → Message) → Goes t.purpose o.parked o.started (outside again o t refused message).state
  outside_goes again goes t (Some a) message = goes (resumed o t a)
  outside_goes again goes t None message = record {
    tasks = gated_too 0 o.made o.tasks _ (omega arith) gated closed refl;
    parked = refl;
    started = inl refl;
  }

  written_goes : (p : Purpose) (t : OpenTask) (tail : ℕ) (batches : List Made) → Goes p o.parked o.started (asks_written o t tail batches).state
  written_goes p t tail [] = went p
  written_goes p t tail (made ∷ []) = waits
  written_goes p t tail (made ∷ next ∷ batches) = written_goes p t tail (next ∷ batches)

  ask_goes : (again : OpenTask → Step) → ((u : OpenTask) → Goes u.purpose o.parked o.started (again u).state)
      → (l : Life) (t : OpenTask) (batches : List Made) (a : Ask) → Goes t.purpose o.parked o.started (on_ask again l o t batches a).state
  ask_goes again goes l t batches (ask.Store a) = waits
  ask_goes again goes l t batches (ask.Open a) = waits
  ask_goes again goes l t batches (ask.Written tail) = written_goes t.purpose t tail batches
  ask_goes again goes l t batches ask.Sync = waits
  ask_goes again goes l t batches (ask.Call to method args) = outside_goes again goes t _ _
  ask_goes again goes l t batches (ask.Fetch value) = outside_goes again goes t _ _

  handled_goes : (retry : ℕ) (op : Option Op) → Goes (handles retry) o.parked o.started (handled op o).state
  handled_goes retry None = record { tasks = gated; parked = refl; started = inl refl }
  handled_goes retry (Some op) = record { tasks = gated; parked = refl; started = inl refl }

  done_goes : (p : Purpose) (v : Tree) → Goes p o.parked o.started (on_done o p v).state
  done_goes starts v = record { tasks = gated; parked = refl; started = inr (tt, closed) }
  done_goes (handles retry) v = handled_goes retry (after_success o.touched)
  done_goes (serves from) v = went (serves from)

  thrown_goes : (p : Purpose) (v : Tree) → Goes p o.parked o.started (on_thrown o p v).state
  thrown_goes starts v = went starts
  thrown_goes (handles retry) v = handled_goes retry (after_failure retry o.touched o.clock)
  thrown_goes (serves from) v = went (serves from)

  reset_goes : (p : Purpose) → Goes p o.parked o.started (on_reset p).state
  reset_goes starts = tt
  reset_goes (handles retry) = tt
  reset_goes (serves from) = tt

  exceeded_goes : (p : Purpose) → Goes p o.parked o.started (on_exceeded p).state
  exceeded_goes starts = tt
  exceeded_goes (handles retry) = tt
  exceeded_goes (serves from) = tt

  threw_goes : (reset : Bool) (p : Purpose) (v : Tree) → Goes p o.parked o.started (on_threw reset o p v).state
  threw_goes true p v = reset_goes p
  threw_goes false p v = thrown_goes p v

-- One turn of a task, where each that follows it goes so.
turn_goes : (again : Object → OpenTask → Step)
    → ((o : Object) (u : OpenTask) → AreGated 0 o.made o.tasks → is_blocked o ≡ false → Goes u.purpose o.parked o.started (again o u).state)
    → (l : Life) (o : Object) (t : OpenTask) (s : Option Segment) → AreGated 0 o.made o.tasks → is_blocked o ≡ false
    → Goes t.purpose o.parked o.started (on_turn again l o t s).state
turn_goes again goes l o t None gated closed = went o gated closed t.purpose
turn_goes again goes l o t (Some (task.asked batches fs a block)) gated closed =
    let new : Object = wrote batches (record o { fields = fs }) in
    ask_goes new gated closed (again new) (λ u. goes new u gated closed) l (record t { block = block }) batches a
turn_goes again goes l o t (Some (task.done batches fs v)) gated closed = done_goes (wrote batches (record o { fields = fs })) gated closed t.purpose v
turn_goes again goes l o t (Some (task.threw batches fs v reset)) gated closed =
    threw_goes (wrote batches (record o { fields = fs })) gated closed reset t.purpose v
turn_goes again goes l o t (Some (task.exceeded batches)) gated closed = exceeded_goes o gated closed t.purpose

runs_goes : (n : ℕ) (l : Life) (o : Object) (t : OpenTask) → AreGated 0 o.made o.tasks → is_blocked o ≡ false → Goes t.purpose o.parked o.started (runs n l o t).state
runs_goes zero l o t gated closed = went o gated closed t.purpose
runs_goes (suc n) l o t gated closed = turn_goes (λ new u. runs n l new u) (λ new u. runs_goes n l new u) l o t (latest_turn l t) gated closed

module _ (l : Life) where
  -- whether the class has a constructor
  abbrev constructor : Option ℕ
  constructor = constructor_of l.script l.class

  abbrev IsParked : Option Event → Bool → Type 0
  IsParked parked started = (started ≡ true) ⊎ (constructor ≡ None) → parked ≡ None

  -- The run of a task that isn't the constructor.
  settles : (p : Purpose) (parked : Option Event) (started : Bool) (s : State) → (IsStart p → ⊥) → IsParked parked started → Goes p parked started s
      → IsGatedState constructor s
  settles p parked started (idle o) other before w = record { tasks = w.tasks; parked = λ when. w.parked ∙ before (by_started when w.started) }
    where
      by_started : (o.started ≡ true) ⊎ (constructor ≡ None) → (o.started ≡ started) ⊎ (IsStart p × (is_blocked o ≡ false)) → (started ≡ true) ⊎ (constructor ≡ None)
      by_started (inl has) (inl same) = inl (sym same ∙ has)
      by_started (inr none) same = inr none
      by_started (inl has) (inr start) = absurd (other start.0)
  settles p parked started (waiting o t b) other before w = (record { tasks = w.tasks; parked = λ when. w.parked ∙ before (by_started when) }, w.closed)
    where
      by_started : (o.started ≡ true) ⊎ (constructor ≡ None) → (started ≡ true) ⊎ (constructor ≡ None)
      by_started (inl has) = inl (sym w.started ∙ has)
      by_started (inr none) = inr none
  settles p parked started (ended cause) other before w = tt

  -- An event begins its task where no block is open.
  module _ (o : Object) (gated : IsGated constructor o) (closed : is_blocked o ≡ false) where
    handler_begins : (method retry : Option ℕ) → IsGatedState constructor (begins_handler l o method retry).state
    handler_begins (Some method) (Some retry) = settles (handles retry) o.parked o.started _ (λ start. start) gated.parked
        (runs_goes most_refused l o (fresh (handles retry) method _ 0 o) gated.tasks closed)
    handler_begins None retry = gated
    handler_begins (Some method) None = gated

    event_begins : (e : Event) → IsGatedState constructor (begins l o e).state
    event_begins (event.Call from method args depth at) = settles (serves from) o.parked o.started _ (λ start. start) gated.parked
        (runs_goes most_refused l o (fresh (serves from) method _ depth o) gated.tasks closed)
    event_begins (event.Tick at) = handler_begins (alarm_of l.script l.class) o.handler
    event_begins (event.Bind identity) = gated
    event_begins (event.Answer incarnation number result at) = gated
    event_begins (event.Evict at) = gated

  -- Where the constructor has ended, the event that waited for it begins its task.
  parked_begins : (parked : Option Event) (started : Bool) (o : Object) → IsParked parked started → Went starts parked started o
      → IsGatedState constructor (begins_parked l o o.started o.parked).state
  parked_begins parked started o before w = by_parked o.started o.parked refl refl
    where
      none_parked : (e : Event) → o.parked ≡ Some e → parked ≡ None → ⊥
      none_parked e is none = none-some e (sym none ∙ sym w.parked ∙ is)

      begins_so : (e : Event) → o.started ≡ true → o.parked ≡ Some e → (o.started ≡ started) ⊎ (IsStart starts × (is_blocked o ≡ false))
          → IsGatedState constructor (begins l (record o { parked = None }) e).state
      begins_so e has is (inl same) = absurd (none_parked e is (before (inl (sym same ∙ has))))
      begins_so e has is (inr ends) = event_begins (record o { parked = None }) (record { tasks = w.tasks; parked = λ when. refl }) ends.1 e

      not_yet : o.started ≡ false → (o.started ≡ true) ⊎ (constructor ≡ None) → o.parked ≡ None
      not_yet is (inl has) = absurd (true≢false (sym has ∙ is))
      not_yet is (inr none) = w.parked ∙ before (inr none)

      by_parked : (b : Bool) (e : Option Event) → o.started ≡ b → o.parked ≡ e → IsGatedState constructor (begins_parked l o b e).state
      by_parked true (Some e) has is = begins_so e has is w.started
      by_parked true None has is = record { tasks = w.tasks; parked = λ when. is }
      by_parked false None has is = record { tasks = w.tasks; parked = not_yet has }
      by_parked false (Some e) has is = record { tasks = w.tasks; parked = not_yet has }

  state_settles : (parked : Option Event) (started : Bool) (s : State) → IsParked parked started → Goes starts parked started s
      → IsGatedState constructor (on_state l s).state
  state_settles parked started (idle o) before w = parked_begins parked started o before w
  state_settles parked started (waiting o t b) before w = settled_wait w.started
    where
      settled_wait : o.started ≡ started → IsGatedState constructor (waiting o t b)
      settled_wait same = (record { tasks = w.tasks; parked = λ when. w.parked ∙ before (by_started when) }, w.closed)
        where
          by_started : (o.started ≡ true) ⊎ (constructor ≡ None) → (started ≡ true) ⊎ (constructor ≡ None)
          by_started (inl has) = inl (sym same ∙ has)
          by_started (inr none) = inr none
  state_settles parked started (ended cause) before w = tt

  run_settles : (p : Purpose) (parked : Option Event) (started : Bool) (s : Step) → IsParked parked started → Goes p parked started s.state
      → IsGatedState constructor (then_parked l p s).state
  run_settles starts parked started s before goes = state_settles parked started s.state before goes
  run_settles (handles retry) parked started s before goes = settles (handles retry) parked started s.state (λ start. start) before goes
  run_settles (serves from) parked started s before goes = settles (serves from) parked started s.state (λ start. start) before goes

  -- A task goes on with an answer, where no other one has its block open.
  pub answers_gated : (o : Object) (t : OpenTask) (a : Answer) → IsGated constructor o → is_blocked o ≡ false → IsGatedState constructor (answers l o t a).state
  answers_gated o t a gated closed = run_settles t.purpose o.parked o.started (goes_on l o (resumed o t (hides o.handler o.touched a))) gated.parked
      (runs_goes most_refused l o (resumed o t (hides o.handler o.touched a)) gated.tasks closed)

  -- An event arrives where no block is open.
  module _ (o : Object) (gated : IsGated constructor o) (closed : is_blocked o ≡ false) where
    starts_gated : (e : Event) (depth : ℕ) (c : Option ℕ) → constructor ≡ c → o.started ≡ false → IsGatedState constructor (starts_by l o e depth c).state
    starts_gated e depth None is none = event_begins (record o { started = true }) (record { tasks = gated.tasks; parked = λ when. gated.parked (inr is) }) closed e
    starts_gated e depth (Some c) is none =
        run_settles starts (Some e) o.started (goes_on l (record o { parked = Some e }) (fresh starts c [] depth o)) not_so
        (runs_goes most_refused l (record o { parked = Some e }) (fresh starts c [] depth o) gated.tasks closed)
      where
        not_so : IsParked (Some e) o.started
        not_so (inl has) = absurd (true≢false (sym has ∙ none))
        not_so (inr there) = absurd (none-some c (sym there ∙ is))

    arrives_gated : (e : Event) (depth : ℕ) → IsGatedState constructor (arrives l o e depth).state
    arrives_gated e depth = by_started o.started refl
      where
        by_started : (b : Bool) → o.started ≡ b → IsGatedState constructor (if b then begins l o e else starts_by l o e depth constructor).state
        by_started true is = event_begins o gated closed e
        by_started false is = starts_gated e depth constructor refl is

    handled_gated : (op : Option Op) → IsGatedState constructor (handled op o).state
    handled_gated None = record { tasks = gated.tasks; parked = gated.parked }
    handled_gated (Some op) = record { tasks = gated.tasks; parked = gated.parked }

  due_gated : (o : Object) → IsGated constructor o → is_blocked o ≡ false → (e : Event) (alarm : Option (ℤ × ℕ)) (method : Option ℕ)
      → IsGatedState constructor (handles_due l o e alarm method).state
  due_gated o gated closed e (Some alarm) (Some method) =
      arrives_gated (record o { handler = Some alarm.1; touched = false }) (record { tasks = gated.tasks; parked = gated.parked }) closed e 0
  due_gated o gated closed e (Some alarm) None = handled_gated o gated closed (Some ClearAlarm)
  due_gated o gated closed e None None = handled_gated o gated closed (Some ClearAlarm)
  due_gated o gated closed e None (Some method) = gated

  tick_gated : (o : Object) → IsGated constructor o → is_blocked o ≡ false → (e : Event) (at : ℤ) → IsGatedState constructor (on_tick l o e at).state
  tick_gated o gated closed e at = by_due (is_due o.alarm (is_some o.handler) at)
    where
      by_due : (b : Bool) → IsGatedState constructor (if b then handles_due l o e o.alarm (alarm_of l.script l.class) else rests o).state
      by_due true = due_gated o gated closed e o.alarm (alarm_of l.script l.class)
      by_due false = gated

  -- An answer may enter where it resumes the task whose block is open, or none is open.
  answer_gated : (o : Object) → IsGated constructor o → (number : ℕ) → (is_blocked o ≡ false) ⊎ (has_block (task_under number o.tasks) ≡ true)
      → (t : Option OpenTask) → task_under number o.tasks ≡ t → (a : Answer) → IsGatedState constructor (on_answer l o t a).state
  answer_gated o gated number may None there a = gated
  answer_gated o gated number may (Some t) there a =
      let left : Object = record o { tasks = tasks_but t.number o.tasks } in
      run_settles t.purpose o.parked o.started (goes_on l left (resumed o t a)) gated.parked
      (runs_goes most_refused l left (resumed o t a) (gated_but t.number 0 o.made o.tasks gated.tasks)
      (others_closed number o.made o.tasks t gated.tasks there may))

  event_gated : (o : Object) → IsGated constructor o → (e : Event) → is_eligible o e ≡ true → IsGatedState constructor (on_event l o e).state
  event_gated o gated (event.Bind identity) may = gated
  event_gated o gated (event.Call from method args depth at) may =
      arrives_gated o gated (by_block (is_blocked o) may) (event.Call from method args depth at) depth
    where
      by_block : (b : Bool) → is_eligible_while b false (has_no_task o.tasks) (event.Call from method args depth at) ≡ true → b ≡ false
      by_block false h = refl
      by_block true h = absurd (true≢false (sym h))
  event_gated o gated (event.Answer incarnation number result at) may =
      answer_gated o gated number (by_block (is_blocked o) refl may) (task_under number o.tasks) refl (answer_of result)
    where
      by_block : (b : Bool) → is_blocked o ≡ b
          → is_eligible_while b (has_block (task_under number o.tasks)) (has_no_task o.tasks) (event.Answer incarnation number result at) ≡ true
          → (is_blocked o ≡ false) ⊎ (has_block (task_under number o.tasks) ≡ true)
      by_block false is h = inl is
      by_block true is h = inr h
  event_gated o gated (event.Tick at) may = tick_gated o gated (by_block (is_blocked o) may) (event.Tick at) at
    where
      by_block : (b : Bool) → is_eligible_while b false (has_no_task o.tasks) (event.Tick at) ≡ true → b ≡ false
      by_block false h = refl
      by_block true h = absurd (true≢false (sym h))
  event_gated o gated (event.Evict at) may = record { tasks = gated.tasks; parked = evicted }
    where
      evicted : (false ≡ true) ⊎ (constructor ≡ None) → o.parked ≡ None
      evicted (inl has) = absurd (true≢false (sym has))
      evicted (inr none) = gated.parked (inr none)

  -- An event that may enter is delivered.
  pub delivers_gated : (o : Object) (e : Event) → IsGated constructor o → is_eligible o e ≡ true → IsGatedState constructor (delivers l o e).state
  delivers_gated o e gated may = event_gated (record o { clock = int_max o.clock (moment_of e) }) (record { tasks = gated.tasks; parked = gated.parked }) e (by_kind e may)
    where
      by_kind : (d : Event) → is_eligible o d ≡ true → is_eligible (record o { clock = int_max o.clock (moment_of e) }) d ≡ true
      by_kind (event.Bind identity) h = h
      by_kind (event.Call from method args depth at) h = h
      by_kind (event.Answer incarnation number result at) h = h
      by_kind (event.Tick at) h = h
      by_kind (event.Evict at) h = h
