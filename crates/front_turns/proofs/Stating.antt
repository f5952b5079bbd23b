-- What follows the turns of a constructor.
use Rattle.std.proofs.Common.{◌≡◌, ◌∙◌, sym, refl, ap, subst, List, [], ◌++◌, append-nil, true≢false}
use Rattle.std.specs.Prelude.{ℕ, ℤ, true, Option, Some, None, is_some, unwrap_or, IfNone, IfSome}
use Rattle.timeline.specs.Object as seen
use Rattle.timeline.specs.Object.{Life, OpenTask, Step, idle, waiting, ended, task_under, tasks_but}
use Rattle.script_mean.specs.declared.answer.Answer.{Answer}
use Rattle.timeline.specs.Steps.{before, begins_parked, arrives, goes_on, handled, handles_due, moment_of, on_answer, on_event, on_state, on_tick, resumed, then_parked}
use Rattle.timeline.specs.Told.{asking}
use Rattle.timeline.specs.declared.caller.Cause.{Cause}
use Rattle.timeline.specs.declared.entry.Body.{Body}
use Rattle.timeline.specs.declared.event.Event.{Event}
use Rattle.timeline.specs.declared.event.Event.TheVariants as event
use Rattle.storage_map.specs.declared.op.Op.TheVariants.{ClearAlarm}
use Rattle.front_turns.specs.Kinds.{call_depth, is_tick}
use Rattle.front_turns.proofs.Methods.{nothing}
use Rattle.front_turns.specs.Paused.{Paused}
use Rattle.front_turns.specs.Held.{Holds, IsOfMethod, IsState, IsTakenOut, Says, object_of, retry_of}
use Rattle.front_turns.specs.declared.object.Held.{Held}
use Rattle.front_turns.specs.declared.object.Object.{Object}
use Rattle.front_turns.specs.declared.object.Running.{Running}
use Rattle.front_turns.specs.declared.object.Asked.{Asked}
use Rattle.front_turns.specs.declared.object.State.{State}
use Rattle.front_turns.specs.declared.object.State.TheVariants as state
use Rattle.front_turns.proofs.Saying.{says_more}

-- Behind what was said, an idle object goes on with what was parked.
pub idle_on : {T : Type 0} (see : T → Paused) (l : Life) (old mid new : List Body) (o : Object T) (s : State T) (step : Step)
    → ((ts : List OpenTask) → Holds see l o ts → Says see l mid new s (begins_parked l (object_of o ts) o.started o.parked))
    → Says see l old mid (state.Idle o) step → Says see l old new s (before step.says (on_state l step.state))
idle_on see l old mid new o s step goes says = at_state step.state refl says.state
  where
    at_state : (st : seen.State) → step.state ≡ st → IsState see l (state.Idle o) st → Says see l old new s (before step.says (on_state l step.state))
    at_state (idle ob) is here =
        let all : step.state ≡ idle (object_of o here.0) = is ∙ ap idle here.1 in
        let said : mid ≡ old ++ step.says = says.said ∙ ap (λ (st : seen.State). (old ++ step.says) ++ asking st) all ∙ append-nil (old ++ step.says) in
        says_more step.says said (subst (λ (st : seen.State). Says see l mid new s (on_state l st)) (sym all) (goes here.0 here.2))
    at_state (waiting ob t b) is here = elim here [ ]
    at_state (ended cause) is here = elim here [ ]

-- One that waits or has ended stays so.
pub stays_on : {T : Type 0} (see : T → Paused) (l : Life) (old mid : List Body) (s : State T) (step : Step)
    → (on_state l step.state ≡ record { says = []; state = step.state })
    → Says see l old mid s step → Says see l old mid s (before step.says (on_state l step.state))
stays_on see l old mid s step same says =
    subst (λ (x : Step). Says see l old mid s (before step.says x)) (sym same)
    (record { said = says.said ∙ ap (λ (x : List Body). (old ++ x) ++ asking step.state) (sym (append-nil step.says)); state = says.state })

waits_same : {T : Type 0} (see : T → Paused) (l : Life) (o : Object T) (r : Running) (task : T) (a : Asked) (st : seen.State)
    → IsState see l (state.Waiting o r task a) st → on_state l st ≡ record { says = []; state = st }
waits_same see l o r task a (idle ob) here = elim here [ ]
waits_same see l o r task a (waiting ob t b) here = refl
waits_same see l o r task a (ended cause) here = elim here [ ]

has_ended : {T : Type 0} (see : T → Paused) (l : Life) (c : Cause) (st : seen.State)
    → IsState see l (state.Ended c) st → on_state l st ≡ record { says = []; state = st }
has_ended see l c (idle ob) here = elim here [ ]
has_ended see l c (waiting ob t b) here = elim here [ ]
has_ended see l c (ended cause) here = refl

pub waits_on : {T : Type 0} (see : T → Paused) (l : Life) (old mid : List Body) (o : Object T) (r : Running) (task : T) (a : Asked) (step : Step)
    → Says see l old mid (state.Waiting o r task a) step → Says see l old mid (state.Waiting o r task a) (before step.says (on_state l step.state))
waits_on see l old mid o r task a step says = stays_on see l old mid _ step (waits_same see l o r task a step.state says.state) says

pub ended_on : {T : Type 0} (see : T → Paused) (l : Life) (old mid : List Body) (c : Cause) (step : Step)
    → Says see l old mid (state.Ended c) step → Says see l old mid (state.Ended c) (before step.says (on_state l step.state))
ended_on see l old mid c step says = stays_on see l old mid _ step (has_ended see l c step.state says.state) says

-- A state that fits holds an object of the definitions.
pub held_of : {T : Type 0} (see : T → Paused) (l : Life) (o : Object T) (st : seen.State) → IsState see l (state.Idle o) st → (ts : List OpenTask) × Holds see l o ts
held_of see l o (idle ob) here = (here.0, here.2)
held_of see l o (waiting ob t b) here = elim here [ ]
held_of see l o (ended cause) here = elim here [ ]

-- An event that is parked is of a method.
pub parked_of : (l : Life) (parked : Option Event) (e : Event) → parked ≡ Some e → IfSome parked (IsOfMethod l) → IsOfMethod l e
parked_of l parked e is has = subst (λ (p : Option Event). IfSome p (IsOfMethod l)) is has

-- Where none was parked, none being parked is as before.
pub nothing_parked : (o p : seen.Object) → o ≡ record p { parked = None } → None ≡ p.parked → o ≡ p
nothing_parked o p is none = is ∙ ap (λ (x : Option Event). record p { parked = x }) none

-- Whether a task was taken out.
pub was_taken : {T : Type 0} (see : T → Paused) (l : Life) (number : ℕ) (r : Option (Held T)) (h : Held T) (o left : Object T) (ts : List OpenTask) → r ≡ Some h
    → IfSome r (λ g. (m : Life) (us : List OpenTask) → Holds see m o us → IsTakenOut see m number g left us) → Holds see l o ts → IsTakenOut see l number h left ts
was_taken {T} see l number r h o left ts is found held =
    subst (λ (x : Option (Held T)). IfSome x (λ g. (m : Life) (us : List OpenTask) → Holds see m o us → IsTakenOut see m number g left us)) is found l ts held

pub none_taken : {T : Type 0} (see : T → Paused) (l : Life) (number : ℕ) (r : Option (Held T)) (o left : Object T) (ts : List OpenTask) → r ≡ None
    → IfNone r ((m : Life) (us : List OpenTask) → Holds see m o us → (task_under number us ≡ None) × Holds see m left us) → Holds see l o ts → (task_under number ts ≡ None) × Holds see l left ts
none_taken {T} see l number r o left ts is none held =
    subst (λ (x : Option (Held T)). IfNone x ((m : Life) (us : List OpenTask) → Holds see m o us → (task_under number us ≡ None) × Holds see m left us)) is none l ts held

-- The task that was taken out goes on with the answer.
pub answered_says : {T : Type 0} (see : T → Paused) (l : Life) (old new : List Body) (s : State T) (number : ℕ) (ts : List OpenTask) (t : OpenTask) (o left : seen.Object)
    (got meant : Answer) → task_under number ts ≡ Some t → t.number ≡ number → left ≡ record o { tasks = tasks_but number ts } → got ≡ meant
    → Says see l old new s (then_parked l t.purpose (goes_on l left (resumed left t got)))
    → o.tasks ≡ ts → Says see l old new s (on_answer l o (task_under number ts) meant)
answered_says see l old new s number ts t o left got meant there under is same says tasks =
    let at : ℕ → seen.Object = λ n. record o { tasks = tasks_but n o.tasks } in
    let left_is : left ≡ at t.number =
    is ∙ ap (λ (us : List OpenTask). record o { tasks = tasks_but number us }) (sym tasks) ∙ ap at (sym under) in
    subst (λ (x : Option OpenTask). Says see l old new s (on_answer l o x meant)) (sym there)
    (subst (λ (a : Answer). Says see l old new s (then_parked l t.purpose (goes_on l (at t.number) (resumed o t a)))) same
    (subst (λ (x : seen.Object). Says see l old new s (then_parked l t.purpose (goes_on l x (resumed x t got)))) left_is says))

pub handler_there : (h : Option (ℤ × ℕ)) → is_some h ≡ is_some (retry_of h)
handler_there None = refl
handler_there (Some alarm) = refl

-- What an event of its kind does.
pub on_call : (l : Life) (o : seen.Object) (e : Event) (depth : ℕ) → call_depth e ≡ Some depth → arrives l o e depth ≡ on_event l o e
on_call l o (event.Bind identity) depth is = absurd (nothing depth is)
on_call l o (event.Call from method args d at) depth is = ap (λ (x : Option ℕ). arrives l o (event.Call from method args d at) (unwrap_or x d)) (sym is)
on_call l o (event.Answer incarnation number result at) depth is = absurd (nothing depth is)
on_call l o (event.Tick at) depth is = absurd (nothing depth is)
on_call l o (event.Evict at) depth is = absurd (nothing depth is)

pub on_ticking : (l : Life) (o : seen.Object) (e : Event) → is_tick e ≡ true → on_tick l o e (moment_of e) ≡ on_event l o e
on_ticking l o (event.Bind identity) is = absurd (true≢false (sym is))
on_ticking l o (event.Call from method args d at) is = absurd (true≢false (sym is))
on_ticking l o (event.Answer incarnation number result at) is = absurd (true≢false (sym is))
on_ticking l o (event.Tick at) is = refl
on_ticking l o (event.Evict at) is = absurd (true≢false (sym is))

-- A due tick clears the alarm of a class without a handler.
pub clears : (l : Life) (o : seen.Object) (e : Event) (alarm : Option (ℤ × ℕ)) → handles_due l o e alarm None ≡ handled (Some ClearAlarm) o
clears l o e None = refl
clears l o e (Some alarm) = refl
