-- From one turn of a task to the next.
use Rattle.std.proofs.Common.{◌≡◌, ◌∙◌, sym, refl, ap, subst, ℕ, suc, List, [], ◌∷◌, ◌++◌, map}
use Rattle.std.specs.Prelude.{ℤ, Bool, false, Option, Some}
use Rattle.do_value.specs.Seen.{tree_of, trees_in}
use Rattle.do_value.specs.Tree.{Tree}
use Rattle.do_value.specs.declared.value.Value.{Value}
use Rattle.script_mean.specs.declared.answer.Answer.TheVariants.{Thrown}
use Rattle.write_batcher.specs.declared.batcher.Made.{Made}
use Rattle.script_mean.specs.Task as task
use Rattle.script_mean.specs.declared.ask.Ask.{Ask}
use Rattle.do_tree.specs.Tree.{Script}
use Rattle.script_mean.specs.Meaning.{First, meaning}
use Rattle.script_mean.specs.Task.{Fields, Resume, Segment}
use Rattle.script_mean.specs.declared.answer.Answer.{Answer}
use Rattle.timeline.specs.Laws.{answer_as}
use Rattle.timeline.specs.Object as seen
use Rattle.timeline.specs.Object.{Life, OpenTask, Step}
use Rattle.timeline.specs.Steps.{batch, on_ask, on_done, on_thrown, on_turn, fresh, goes_on, latest_turn, most_refused, resumed, runs, wrote}
use Rattle.timeline.specs.declared.entry.Body.{Body}
use Rattle.timeline.proofs.Links.{link_goes_on, link_begins}
use Rattle.front_turns.specs.Paused.{Paused}
use Rattle.front_turns.specs.Outcomes.{segment_of, later, IsOfClass}
use Rattle.front_turns.specs.Held.{IsPaused, IsRunning, Runs, Says, object_of, purpose_of}
use Rattle.front_turns.specs.Goes.{Goes, IsRefused}
use Rattle.front_turns.specs.declared.asks.Went.{Went}
use Rattle.front_turns.specs.declared.asks.Went.TheVariants as went
use Rattle.front_turns.specs.declared.object.Object.{Object}
use Rattle.front_turns.specs.declared.object.Running.{Running}
use Rattle.front_turns.specs.declared.object.State.{State}
use Rattle.front_turns.specs.declared.outcome.Outcome.{Outcome}
use Rattle.front_turns.specs.declared.outcome.Outcome.TheVariants as outcome
use Rattle.front_turns.proofs.Saying.{says_more}

-- What follows the latest turn is what follows the turn that it is.
pub by_turn : {T : Type 0} (see : T → Paused) (l : Life) (old new : List Body) (w : Went T) (again : seen.Object → OpenTask → Step) (o : seen.Object) (t : OpenTask)
    (x y : Option Segment) → x ≡ y → Goes see l old new w again (on_turn again l o t y) → Goes see l old new w again (on_turn again l o t x)
by_turn see l old new w again o t x y e goes = subst (λ (s : Option Segment). Goes see l old new w again (on_turn again l o t s)) (sym e) goes

pub rests_by_turn : {T : Type 0} (see : T → Paused) (l : Life) (old new : List Body) (s : State T) (again : seen.Object → OpenTask → Step) (o : seen.Object) (t : OpenTask)
    (x y : Option Segment) → x ≡ y → Says see l old new s (on_turn again l o t y) → Says see l old new s (on_turn again l o t x)
rests_by_turn see l old new s again o t x y e says = subst (λ (u : Option Segment). Says see l old new s (on_turn again l o t u)) (sym e) says

-- A task that waits gives no turn without an answer, and another task none at all.
later_none : {T : Type 0} (see : T → Paused) (script : Script) → ((t : T) (s : Script) → (see t).rest s [] ≡ []) → (o : Outcome T) → later see script o [] ≡ []
later_none see script stays (outcome.Paused t bs a fs) = stays t script
later_none see script stays (outcome.Done bs v fs) = refl
later_none see script stays (outcome.Threw bs v fs reset) = refl
later_none see script stays (outcome.Exceeded bs) = refl

-- A task goes on with an answer.
pub runs_on : {T : Type 0} (see : T → Paused) (l : Life) (ob : seen.Object) (t : OpenTask) (a : Answer) (task : T) (o : Outcome T) (r : Running)
    → ((u : T) (s : Script) → (see u).rest s [] ≡ []) → IsPaused l (see task) r t
    → ((rs : List Resume) → (see task).rest l.script (answer_as ob a ∷ rs) ≡ segment_of see o ∷ later see l.script o rs)
    → IsOfClass see (see task).class o
    → Runs see l o r (resumed ob t a)
runs_on see l ob t a task o r stays paused gives of_class =
    let next = link_goes_on l ob t a ((see task).rest l.script) (later see l.script o) (segment_of see o) paused.linked gives (later_none see l.script stays o) in record {
      turn = next.0;
      linked = next.1;
      class = subst (λ (n : ℕ). IsOfClass see n o) paused.class of_class;
      running = record { purpose = paused.running.purpose; depth = paused.running.depth; made = paused.running.made };
    }

-- A task begins.
pub runs_first : {T : Type 0} (see : T → Paused) (l : Life) (t : OpenTask) (o : Outcome T) (r : Running)
    → ((u : T) (s : Script) → (see u).rest s [] ≡ []) → t.resumes ≡ [] → IsRunning r t
    → ((rs : List Resume) → meaning l.script l.class t.method t.args t.first rs ≡ segment_of see o ∷ later see l.script o rs)
    → IsOfClass see l.class o
    → Runs see l o r t
runs_first see l t o r stays fresh running gives of_class =
    let first = link_begins l t (later see l.script o) (segment_of see o) fresh gives (later_none see l.script stays o) in
    record { turn = first.0; linked = first.1; class = of_class; running = running }

-- What follows a turn, with the object that it leaves: it asked, it is done, it threw.
pub asked_goes : {T : Type 0} (see : T → Paused) (l : Life) (old new : List Body) (w : Went T) (again : seen.Object → OpenTask → Step) (o p : seen.Object) (t : OpenTask)
    (batches : List Made) (fs : Fields) (a : Ask) (block : Bool) → p ≡ wrote batches (record o { fields = fs })
    → Goes see l old new w again (on_ask (again p) l p (record t { block = block }) batches a)
    → Goes see l old new w again (on_turn again l o t (Some (task.asked batches fs a block)))
asked_goes see l old new w again o p t batches fs a block is goes =
    subst (λ (q : seen.Object). Goes see l old new w again (on_ask (again q) l q (record t { block = block }) batches a)) is goes

pub done_says : {T : Type 0} (see : T → Paused) (l : Life) (old mid new : List Body) (s : State T) (again : seen.Object → OpenTask → Step) (o p : seen.Object) (t : OpenTask)
    (purpose : seen.Purpose) (batches : List Made) (fs : Fields) (v : Tree) → p ≡ wrote batches (record o { fields = fs }) → t.purpose ≡ purpose
    → mid ≡ old ++ map batch batches → Says see l mid new s (on_done p purpose v) → Says see l old new s (on_turn again l o t (Some (task.done batches fs v)))
done_says see l old mid new s again o p t purpose batches fs v is why e says =
    says_more (map batch batches) e (subst (λ (q : seen.Object). Says see l mid new s (on_done q t.purpose v)) is
    (subst (λ (u : seen.Purpose). Says see l mid new s (on_done p u v)) (sym why) says))

pub threw_says : {T : Type 0} (see : T → Paused) (l : Life) (old mid new : List Body) (s : State T) (again : seen.Object → OpenTask → Step) (o p : seen.Object) (t : OpenTask)
    (purpose : seen.Purpose) (batches : List Made) (fs : Fields) (v : Tree) → p ≡ wrote batches (record o { fields = fs }) → t.purpose ≡ purpose
    → mid ≡ old ++ map batch batches → Says see l mid new s (on_thrown p purpose v) → Says see l old new s (on_turn again l o t (Some (task.threw batches fs v false)))
threw_says see l old mid new s again o p t purpose batches fs v is why e says =
    says_more (map batch batches) e (subst (λ (q : seen.Object). Says see l mid new s (on_thrown q t.purpose v)) is
    (subst (λ (u : seen.Purpose). Says see l mid new s (on_thrown p u v)) (sym why) says))

-- The same with the fields and the moment as the object has them.
pub runs_on_as : {T : Type 0} (see : T → Paused) (l : Life) (ob : seen.Object) (t : OpenTask) (a : Answer) (task : T) (o : Outcome T) (r : Running) (fs : Fields) (now : ℤ)
    → ((u : T) (s : Script) → (see u).rest s [] ≡ []) → IsPaused l (see task) r t → fs ≡ ob.fields → now ≡ ob.clock
    → ((rs : List Resume) → (see task).rest l.script (record { answer = a; fields = fs; now = now } ∷ rs) ≡ segment_of see o ∷ later see l.script o rs)
    → IsOfClass see (see task).class o
    → Runs see l o r (resumed ob t a)
runs_on_as see l ob t a task o r fs now stays paused kept moment gives of_class =
    let e : record { answer = a; fields = fs; now = now } ≡ answer_as ob a =
    ap (λ (x : Fields). record { answer = a; fields = x; now = now }) kept ∙ ap (λ (x : ℤ). record { answer = a; fields = ob.fields; now = x }) moment in
    runs_on see l ob t a task o r stays paused
    (λ rs. subst (λ (x : Resume). (see task).rest l.script (x ∷ rs) ≡ segment_of see o ∷ later see l.script o rs) e (gives rs)) of_class

-- Where the turn of a task led to a refused call.
pub was_refused : {T : Type 0} (see : T → Paused) (l : Life) (old mid : List Body) (w : Went T) (o : Object T) (r : Running) (task : T) (v : Value)
    (again : seen.Object → OpenTask → Step) (step : Step) → w ≡ went.Refused o r task v → Goes see l old mid w again step → IsRefused see l old mid o r task v again step
was_refused {T} see l old mid w o r task v again step is goes = subst (λ (x : Went T). Goes see l old mid x again step) is goes

pub refused_says : {T : Type 0} (see : T → Paused) (l : Life) (old mid new : List Body) (s : State T) (o : Object T) (r : Running) (task : T) (v : Value)
    (again : seen.Object → OpenTask → Step) (step : Step) → (rf : IsRefused see l old mid o r task v again step)
    → Says see l mid new s (again (object_of o rf.tasks) (resumed (object_of o rf.tasks) rf.goes (Thrown v))) → Says see l old new s step
refused_says see l old mid new s o r task v again step rf says = subst (λ (x : Step). Says see l old new s x) (sym rf.gives) (says_more rf.says rf.said says)

pub did_rest : {T : Type 0} (see : T → Paused) (l : Life) (old mid : List Body) (w : Went T) (s : State T)
    (again : seen.Object → OpenTask → Step) (step : Step) → w ≡ went.Rests s → Goes see l old mid w again step → Says see l old mid s step
did_rest {T} see l old mid w s again step is goes = subst (λ (x : Went T). Goes see l old mid x again step) is goes

-- So many turns are one, and then one fewer.
pub one_fewer : {T : Type 0} (see : T → Paused) (l : Life) (old new : List Body) (s : State T) (left n : ℕ) (o : seen.Object) (t : OpenTask) → left ≡ suc n
    → Says see l old new s (on_turn (λ later u. runs n l later u) l o t (latest_turn l t)) → Says see l old new s (runs left l o t)
one_fewer see l old new s left n o t e says = subst (λ (m : ℕ). Says see l old new s (runs m l o t)) (sym e) says

-- As many turns as a task may need.
pub all_turns : {T : Type 0} (see : T → Paused) (l : Life) (old new : List Body) (s : State T) (o : seen.Object) (t : OpenTask)
    → Says see l old new s (runs 2001 l o t) → Says see l old new s (goes_on l o t)
unfolding most_refused
all_turns see l old new s o t says = says

-- A task begins, with the values, the fields and the moment as the event and the object have them.
pub runs_first_as : {T : Type 0} (see : T → Paused) (l : Life) (ob : seen.Object) (r : Running) (method : ℕ) (o : Outcome T)
    (args values : List Value) (fs : Fields) (now : ℤ)
    → ((u : T) (s : Script) → (see u).rest s [] ≡ []) → r.made ≡ 0 → values ≡ args → fs ≡ ob.fields → now ≡ ob.clock
    → ((rs : List Resume) → meaning l.script l.class method (trees_in values) (record { fields = fs; now = now }) rs ≡ segment_of see o ∷ later see l.script o rs)
    → IsOfClass see l.class o
    → Runs see l o r (fresh (purpose_of r.purpose) method (map tree_of args) r.depth ob)
runs_first_as see l ob r method o args values fs now stays made same kept moment gives of_class =
    let e : record { fields = fs; now = now } ≡ record { fields = ob.fields; now = ob.clock } =
    ap (λ (x : Fields). record { fields = x; now = now }) kept ∙ ap (λ (x : ℤ). record { fields = ob.fields; now = x }) moment in
    runs_first see l (fresh (purpose_of r.purpose) method (map tree_of args) r.depth ob) o r stays refl
    (record { purpose = refl; depth = refl; made = sym made })
    (λ rs. subst (λ (x : First). meaning l.script l.class method (trees_in args) x rs ≡ segment_of see o ∷ later see l.script o rs) e
    (subst (λ (vs : List Value). meaning l.script l.class method (trees_in vs) (record { fields = fs; now = now }) rs ≡ segment_of see o ∷ later see l.script o rs) same (gives rs)))
    of_class
