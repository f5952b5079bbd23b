-- What a front holds, against the definitions' tests on events.
use Rattle.std.proofs.Common.{◌≡◌, ◌∙◌, sym, refl, ap, ℕ, suc, ◌+◌, List, [], ◌∷◌, length, map, Bool, true, false, not, ◌&&◌, ◌||◌, true≢false, Option, Some, None, is_some, option_map, slice_get, arith}
use Rattle.std.specs.Prelude.{ℤ, nat_lt, ◌==◌, if◌then◌else◌, Result}
use Rattle.std.specs.List.{list_any}
use Rattle.std.proofs.lemmas.Bool.Decides.{nat_tests}
use Rattle.std.proofs.lemmas.Option.{slice_get-map, same_Some, none-some}
use Rattle.do_value.specs.declared.value.Value.{Value}
use Rattle.do_tree.specs.Checked.{methods_of}
use Rattle.do_tree.specs.Lookup as lookup
use Rattle.do_tree.specs.Lookup.{methods_of_class}
use Rattle.do_tree.specs.Seen.{class_of, method_of, script_of}
use Rattle.do_tree.specs.Tree as tree
use Rattle.do_tree.specs.declared.script.Class.{Class}
use Rattle.do_tree.specs.declared.script.Method.{Method}
use Rattle.do_tree.specs.declared.script.Script.{Script}
use Rattle.object_calls.specs.Numbered.{under}
use Rattle.timeline.specs.Eligible.{has_block, has_no_task, is_eligible, is_eligible_while, resumes_block, is_stale, is_early, is_fit, is_moment, has_method}
use Rattle.timeline.specs.Intake.{Mode, serves, down}
use Rattle.timeline.specs.Object as seen
use Rattle.timeline.specs.Object.{Life, OpenTask, idle, waiting, ended, task_under, is_open}
use Rattle.timeline.specs.Steps.{moment_of}
use Rattle.timeline.specs.declared.caller.Cause.{Cause}
use Rattle.timeline.specs.declared.caller.Failure.{Failure}
use Rattle.timeline.specs.declared.event.Event.{Event}
use Rattle.timeline.specs.declared.event.Event.TheVariants as event
use Rattle.front_turns.specs.Paused.{Paused}
use Rattle.front_turns.specs.Held.{AreHeld, Holds, IsState, blocks_in, object_of}
use Rattle.front_turns.specs.declared.object.Asked.{Asked}
use Rattle.front_turns.specs.declared.object.Held.{Held}
use Rattle.front_turns.specs.declared.object.Object.{Object}
use Rattle.front_turns.specs.declared.object.Running.{Running}
use Rattle.front_turns.specs.declared.object.State.{State}
use Rattle.front_turns.specs.declared.object.State.TheVariants as state
use Rattle.front_turns.proofs.Holding.{found_under, none_under_too}
use Rattle.front_half.specs.Kinds.{is_bind, is_call, named_by}
use Rattle.front_half.specs.Standing.{Stood, IsMode}
use Rattle.front_half.specs.Taking.{at_down, at_mode, doing, may_enter, stale}
use Rattle.front_half.specs.declared.half.Mode.TheVariants as held
use Rattle.front_half.specs.declared.testing.Doing.TheVariants.{Delivers, Wants, Defers, Drops}

-- A task waits under a number where one is held under it.
pub open_held : {T : Type 0} (see : T → Paused) (l : Life) (number : ℕ) (hs : List (ℕ × Held T)) (ts : List OpenTask)
    → AreHeld see l hs ts → is_some (under number hs) ≡ is_open (task_under number ts)
open_held {T} see l number hs ts held = by_found (under number hs) refl
  where
    by_found : (o : Option (Held T)) → under number hs ≡ o → is_some (under number hs) ≡ is_open (task_under number ts)
    by_found None none = ap (λ (x : Option (Held T)). is_some x) none ∙ sym (ap is_open (none_under_too see l number hs ts held none))
    by_found (Some h) there = ap (λ (x : Option (Held T)). is_some x) there ∙ sym (ap is_open (found_under see l number h hs ts held there).there)

-- Its block is open where that of the evaluator's task is.
pub block_held : {T : Type 0} (see : T → Paused) (l : Life) (number : ℕ) (h : Held T) (hs : List (ℕ × Held T)) (ts : List OpenTask)
    → AreHeld see l hs ts → under number hs ≡ Some h → has_block (task_under number ts) ≡ (see h.task).block
block_held see l number h hs ts held there = let f = found_under see l number h hs ts held there in ap has_block f.there ∙ f.paused.block

more_than_none : (n : ℕ) → nat_lt 0 (1 + n) ≡ true
more_than_none n = grind (arith, nat_tests)

none_more : (n : ℕ) → 0 + n ≡ n
none_more n = omega arith

-- A block is open where some are counted.
any_block : (ts : List OpenTask) → nat_lt 0 (blocks_in ts) ≡ list_any (λ task. task.block) ts
any_block [] = refl
any_block (t ∷ ts) = by_block t.block (any_block ts)
  where
    by_block : (b : Bool) → nat_lt 0 (blocks_in ts) ≡ list_any (λ task. task.block) ts
        → nat_lt 0 ((if b then 1 else 0) + blocks_in ts) ≡ (b || list_any (λ task. task.block) ts)
    by_block true rest = more_than_none (blocks_in ts)
    by_block false rest = ap (λ (n : ℕ). nat_lt 0 n) (none_more (blocks_in ts)) ∙ rest

pub blocks_held : (count : ℕ) (ts : List OpenTask) → count ≡ blocks_in ts → nat_lt 0 count ≡ list_any (λ task. task.block) ts
blocks_held count ts counts = ap (λ (n : ℕ). nat_lt 0 n) counts ∙ any_block ts

some_items : (n : ℕ) → (suc n == 0) ≡ false
some_items n = grind (arith, nat_tests)

-- No task is open where none is held.
pub rest_held : {T : Type 0} (see : T → Paused) (l : Life) (hs : List (ℕ × Held T)) (ts : List OpenTask) → AreHeld see l hs ts → (length hs == 0) ≡ has_no_task ts
rest_held see l [] [] held = refl
rest_held see l [] (t ∷ ts) held = elim held [ ]
rest_held see l (h ∷ hs) [] held = elim held [ ]
rest_held see l (h ∷ hs) (t ∷ ts) held = some_items (length hs)

-- An answer to another incarnation finds no task; one to this one finds its task.
pub of_another : (incarnation now : ℕ) (open_there : Bool) → (incarnation ≡ now → ⊥) → false ≡ (incarnation == now && open_there)
of_another incarnation now open_there other = ap (λ (b : Bool). b && open_there) (sym (is_other incarnation now other))
  where
    is_other : (a b : ℕ) → (a ≡ b → ⊥) → (a == b) ≡ false
    is_other a b h = grind (arith, nat_tests, h)

pub of_this : (incarnation now : ℕ) (open_there : Bool) → incarnation ≡ now → open_there ≡ (incarnation == now && open_there)
of_this incarnation now open_there same = ap (λ (b : Bool). b && open_there) (sym (is_same incarnation now same))
  where
    is_same : (a b : ℕ) → a ≡ b → (a == b) ≡ true
    is_same a b h = grind (arith, nat_tests, h)

-- Which events may be delivered, by their kinds.
bind_passes : (blocked resumes rests : Bool) (identity : List ℕ × List ℕ) → is_eligible_while blocked resumes rests (event.Bind identity) ≡ true
bind_passes true resumes rests identity = refl
bind_passes false resumes rests identity = refl

pub bind_eligible : (o : seen.Object) (e : Event) (identity : List ℕ × List ℕ) → e ≡ event.Bind identity → is_eligible o e ≡ true
bind_eligible o e identity is = ap (λ (x : Event). is_eligible o x) is ∙ bind_passes (seen.is_blocked o) false (has_no_task o.tasks) identity

pub answer_eligible : (o : seen.Object) (e : Event) (incarnation number : ℕ) (result : Result Value Failure) (at : ℤ) → e ≡ event.Answer incarnation number result at
    → is_eligible o e ≡ (not (seen.is_blocked o) || has_block (task_under number o.tasks))
answer_eligible o e incarnation number result at is = ap (λ (x : Event). is_eligible o x) is ∙ passes (seen.is_blocked o) (has_block (task_under number o.tasks)) (has_no_task o.tasks)
  where
    passes : (blocked resumes rests : Bool) → is_eligible_while blocked resumes rests (event.Answer incarnation number result at) ≡ (not blocked || resumes)
    passes true resumes rests = refl
    passes false resumes rests = refl

pub evict_eligible : (o : seen.Object) (e : Event) (at : ℤ) → e ≡ event.Evict at → is_eligible o e ≡ (not (seen.is_blocked o) && has_no_task o.tasks)
evict_eligible o e at is = ap (λ (x : Event). is_eligible o x) is ∙ passes (seen.is_blocked o) false (has_no_task o.tasks)
  where
    passes : (blocked resumes rests : Bool) → is_eligible_while blocked resumes rests (event.Evict at) ≡ (not blocked && rests)
    passes true resumes rests = refl
    passes false resumes rests = refl

pub tick_eligible : (o : seen.Object) (e : Event) (at : ℤ) → e ≡ event.Tick at → is_eligible o e ≡ not (seen.is_blocked o)
tick_eligible o e at is = ap (λ (x : Event). is_eligible o x) is ∙ passes (seen.is_blocked o) false (has_no_task o.tasks)
  where
    passes : (blocked resumes rests : Bool) → is_eligible_while blocked resumes rests (event.Tick at) ≡ not blocked
    passes true resumes rests = refl
    passes false resumes rests = refl

call_passes : (blocked resumes rests : Bool) (e : Event) → is_call e ≡ true → is_eligible_while blocked resumes rests e ≡ not blocked
call_passes true resumes rests (event.Call from method args depth at) is = refl
call_passes false resumes rests (event.Call from method args depth at) is = refl
call_passes blocked resumes rests (event.Bind identity) is = absurd (true≢false (sym is))
call_passes blocked resumes rests (event.Answer incarnation number result at) is = absurd (true≢false (sym is))
call_passes blocked resumes rests (event.Tick at) is = absurd (true≢false (sym is))
call_passes blocked resumes rests (event.Evict at) is = absurd (true≢false (sym is))

pub call_eligible : (o : seen.Object) (e : Event) → is_call e ≡ true → is_eligible o e ≡ not (seen.is_blocked o)
call_eligible o e is = call_passes (seen.is_blocked o) (resumes_block o e) (has_no_task o.tasks) e is

-- What becomes of an event at an idle object.
pub idle_stale : (now : ℕ) (o : seen.Object) (e : Event) → is_stale now o e ≡ true → at_mode now (serves (idle o)) e ≡ stale (is_early now o.made e)
idle_stale now o e h = ap (λ (b : Bool). if b then stale (is_early now o.made e) else (if is_eligible o e then Delivers else Defers)) h

pub idle_delivers : (now : ℕ) (o : seen.Object) (e : Event) → is_stale now o e ≡ false → is_eligible o e ≡ true → at_mode now (serves (idle o)) e ≡ Delivers
idle_delivers now o e h k =
    ap (λ (b : Bool). if b then stale (is_early now o.made e) else (if is_eligible o e then Delivers else Defers)) h
    ∙ ap (λ (b : Bool). if b then Delivers else Defers) k

pub idle_defers : (now : ℕ) (o : seen.Object) (e : Event) → is_stale now o e ≡ false → is_eligible o e ≡ false → at_mode now (serves (idle o)) e ≡ Defers
idle_defers now o e h k =
    ap (λ (b : Bool). if b then stale (is_early now o.made e) else (if is_eligible o e then Delivers else Defers)) h
    ∙ ap (λ (b : Bool). if b then Delivers else Defers) k

-- And while the object is down.
pub down_wants : (now : ℕ) (e : Event) → is_call e ≡ true → at_down now e ≡ Wants
down_wants now (event.Call from method args depth at) is = refl
down_wants now (event.Bind identity) is = absurd (true≢false (sym is))
down_wants now (event.Answer incarnation number result at) is = absurd (true≢false (sym is))
down_wants now (event.Tick at) is = absurd (true≢false (sym is))
down_wants now (event.Evict at) is = absurd (true≢false (sym is))

pub down_stale : (now : ℕ) (e : Event) → is_call e ≡ false → at_down now e ≡ stale (is_early now 0 e)
down_stale now (event.Call from method args depth at) is = absurd (true≢false is)
down_stale now (event.Bind identity) is = refl
down_stale now (event.Answer incarnation number result at) is = refl
down_stale now (event.Tick at) is = refl
down_stale now (event.Evict at) is = refl

-- What a state that is held says of the one of the definitions.
pub record Idles {T : Type 0} (see : T → Paused) (l : Life) (o : Object T) (s : seen.State) : Type 0 where
  pub tasks : List OpenTask
  pub is : s ≡ idle (object_of o tasks)
  pub held : Holds see l o tasks

pub idle_seen : {T : Type 0} (see : T → Paused) (l : Life) (o : Object T) (s : seen.State) → IsState see l (state.Idle o) s → Idles see l o s
idle_seen see l o (idle ob) is = record { tasks = is.0; is = ap idle is.1; held = is.2 }
idle_seen see l o (waiting ob t b) is = elim is [ ]
idle_seen see l o (ended cause) is = elim is [ ]

pub record Busies (s : seen.State) : Type 0 where
  pub defers : (now : ℕ) (e : Event) → at_mode now (serves s) e ≡ Defers
  pub enters : (e : Event) → may_enter (serves s) e ≡ false

pub waiting_seen : {T : Type 0} (see : T → Paused) (l : Life) (o : Object T) (r : Running) (t : T) (a : Asked) (s : seen.State)
    → IsState see l (state.Waiting o r t a) s → Busies s
waiting_seen see l o r t a (idle ob) is = elim is [ ]
waiting_seen see l o r t a (waiting ob u b) is = record { defers = λ now e. refl; enters = λ e. refl }
waiting_seen see l o r t a (ended cause) is = elim is [ ]

pub ended_seen : {T : Type 0} (see : T → Paused) (l : Life) (c : Cause) (s : seen.State) → IsState {T = T} see l (state.Ended c) s → Busies s
ended_seen see l c (idle ob) is = elim is [ ]
ended_seen see l c (waiting ob u b) is = elim is [ ]
ended_seen see l c (ended cause) is = record { defers = λ now e. refl; enters = λ e. refl }

pub serves_seen : {T : Type 0} (see : T → Paused) (l : Life) (st : State T) (m : Mode) → IsMode see l (held.Serves st) m
    → (s : seen.State) × (m ≡ serves s) × IsState see l st s
serves_seen see l st (serves s) is = (s, refl, is)
serves_seen see l st (down waits) is = elim is [ ]

pub down_seen : {T : Type 0} (see : T → Paused) (l : Life) (call : Option Event) (m : Mode) → IsMode {T = T} see l (held.Down call) m → m ≡ down call
down_seen see l call (serves s) is = elim is [ ]
down_seen see l call (down waits) is = ap down (sym is)

pub stopped_seen : {T : Type 0} (see : T → Paused) (l : Life) (m : Mode) → IsMode {T = T} see l held.Stopped m → ⊥
stopped_seen see l (serves s) is = is
stopped_seen see l (down waits) is = is

pub fit_doing : (script : tree.Script) (st : Stood) (e : Event) → is_fit script st.class e ≡ true → doing script st e ≡ at_mode st.front.incarnation st.front.mode e
fit_doing script st e h = ap (λ (b : Bool). if b then at_mode st.front.incarnation st.front.mode e else Drops) h

pub unfit_doing : (script : tree.Script) (st : Stood) (e : Event) → is_fit script st.class e ≡ false → doing script st e ≡ Drops
unfit_doing script st e h = ap (λ (b : Bool). if b then at_mode st.front.incarnation st.front.mode e else Drops) h

-- The methods that are held are those of the tree.
class_methods : (o : Option Class) → methods_of_class (option_map class_of o) ≡ map method_of (methods_of o)
class_methods None = refl
class_methods (Some class) = refl

pub method_held : (s : Script) (class number : ℕ)
    → slice_get (lookup.methods_of (script_of s) class) number ≡ option_map method_of (slice_get (methods_of (slice_get s.classes.items class)) number)
method_held s class number =
    ap (λ (ms : List tree.Method). slice_get ms number) (ap methods_of_class (slice_get-map class_of s.classes.items class) ∙ class_methods (slice_get s.classes.items class))
    ∙ slice_get-map method_of (methods_of (slice_get s.classes.items class)) number

-- Whether a front of a class takes an event: it is no `Bind`, its moment and its method fit.
pub bind_unfit : (script : tree.Script) (class : ℕ) (e : Event) → is_bind e ≡ true → is_fit script (Some class) e ≡ false
bind_unfit script class (event.Bind identity) is = refl
bind_unfit script class (event.Call from method args depth at) is = absurd (true≢false (sym is))
bind_unfit script class (event.Answer incarnation number result at) is = absurd (true≢false (sym is))
bind_unfit script class (event.Tick at) is = absurd (true≢false (sym is))
bind_unfit script class (event.Evict at) is = absurd (true≢false (sym is))

pub other_fit : (script : tree.Script) (class : ℕ) (e : Event) → is_bind e ≡ false → is_fit script (Some class) e ≡ (is_moment (moment_of e) && has_method script class e)
other_fit script class (event.Bind identity) is = absurd (true≢false is)
other_fit script class (event.Call from method args depth at) is = refl
other_fit script class (event.Answer incarnation number result at) is = refl
other_fit script class (event.Tick at) is = refl
other_fit script class (event.Evict at) is = refl

pub method_seen : (t : tree.Script) (s : Script) (class number : ℕ) (ms : List Method) (o : Option Method) → script_of s ≡ t → ms ≡ methods_of (slice_get s.classes.items class)
    → o ≡ slice_get ms number → slice_get (lookup.methods_of t class) number ≡ option_map method_of o
method_seen t s class number ms o same held found =
    ap (λ (x : tree.Script). slice_get (lookup.methods_of x class) number) (sym same) ∙ method_held s class number
    ∙ ap (option_map method_of) (ap (λ (xs : List Method). slice_get xs number) (sym held) ∙ sym found)

-- An answer, by what it names.
pub stale_named : (now : ℕ) (o : seen.Object) (e : Event) (p : ℕ × ℕ) → named_by e ≡ Some p → is_stale now o e ≡ not (p.0 == now && is_open (task_under p.1 o.tasks))
stale_named now o (event.Answer incarnation number result at) p is = ap (λ (q : ℕ × ℕ). not (q.0 == now && is_open (task_under q.1 o.tasks))) (same_Some _ _ is)
stale_named now o (event.Bind identity) p is = absurd (none-some _ is)
stale_named now o (event.Call from method args depth at) p is = absurd (none-some _ is)
stale_named now o (event.Tick at) p is = absurd (none-some _ is)
stale_named now o (event.Evict at) p is = absurd (none-some _ is)

pub never_stale : (now : ℕ) (o : seen.Object) (e : Event) → named_by e ≡ None → is_stale now o e ≡ false
never_stale now o (event.Answer incarnation number result at) is = absurd (none-some _ (sym is))
never_stale now o (event.Bind identity) is = refl
never_stale now o (event.Call from method args depth at) is = refl
never_stale now o (event.Tick at) is = refl
never_stale now o (event.Evict at) is = refl

pub early_named : (now made : ℕ) (e : Event) (p : ℕ × ℕ) → named_by e ≡ Some p
    → is_early now made e ≡ (nat_lt now p.0 || (p.0 == now && (p.1 == 0 || nat_lt made p.1)))
early_named now made (event.Answer incarnation number result at) p is =
    ap (λ (q : ℕ × ℕ). nat_lt now q.0 || (q.0 == now && (q.1 == 0 || nat_lt made q.1))) (same_Some _ _ is)
early_named now made (event.Bind identity) p is = absurd (none-some _ is)
early_named now made (event.Call from method args depth at) p is = absurd (none-some _ is)
early_named now made (event.Tick at) p is = absurd (none-some _ is)
early_named now made (event.Evict at) p is = absurd (none-some _ is)

pub never_early : (now made : ℕ) (e : Event) → named_by e ≡ None → is_early now made e ≡ false
never_early now made (event.Answer incarnation number result at) is = absurd (none-some _ (sym is))
never_early now made (event.Bind identity) is = refl
never_early now made (event.Call from method args depth at) is = refl
never_early now made (event.Tick at) is = refl
never_early now made (event.Evict at) is = refl
