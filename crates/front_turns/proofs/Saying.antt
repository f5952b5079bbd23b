-- What is said in a turn, part by part.
use Rattle.std.proofs.Common.{◌≡◌, ◌∙◌, sym, refl, ap, List, [], ◌∷◌, ◌++◌, append-nil, append_assoc}
use Rattle.std.specs.Prelude.{Result, Ok, Err, IfOk}
use Rattle.timeline.specs.Object as seen
use Rattle.timeline.specs.Object.{Life, OpenTask, Step}
use Rattle.timeline.specs.Steps.{before, rests}
use Rattle.timeline.specs.Told.{asking}
use Rattle.timeline.specs.declared.entry.Body.{Body}
use Rattle.front_turns.specs.Paused.{Paused}
use Rattle.front_turns.specs.Held.{Holds, Says, object_of}
use Rattle.front_turns.specs.declared.object.Object.{Object}
use Rattle.front_turns.specs.declared.object.State.{State}
use Rattle.front_turns.specs.declared.object.State.TheVariants as state

-- This was said, and then what a step says.
pub says_more : {T : Type 0} {see : T → Paused} {l : Life} {old mid new : List Body} {s : State T} {step : Step} (bodies : List Body)
    → mid ≡ old ++ bodies → Says see l mid new s step → Says see l old new s (before bodies step)
says_more {old = old} {step = step} bodies e rest = record {
  said = rest.said ∙ ap (λ (x : List Body). (x ++ step.says) ++ asking step.state) e ∙ ap (λ (x : List Body). x ++ asking step.state) (append_assoc old bodies step.says);
  state = rest.state;
}

-- Nothing more is said, and the object is idle.
pub idle_says : {T : Type 0} {see : T → Paused} {l : Life} {old : List Body} {o : Object T} (ts : List OpenTask)
    → Holds see l o ts → Says see l old old (state.Idle o) (rests (object_of o ts))
idle_says {old = old} ts held = record { said = sym (append-nil (old ++ []) ∙ append-nil old); state = (ts, refl, held) }

-- The same where what follows may end for want of memory.
pub then_says : {T E : Type 0} (see : T → Paused) (old mid new : List Body) (r : Result (State T) E) (bodies : List Body)
    → mid ≡ old ++ bodies → (step : Step) → IfOk r (λ s. (l : Life) → Says see l mid new s step) → IfOk r (λ s. (l : Life) → Says see l old new s (before bodies step))
then_says see old mid new (Ok s) bodies e step rest = λ l. says_more bodies e (rest l)
then_says see old mid new (Err f) bodies e step rest = tt

-- The object is idle, and so it is what a step leaves.
pub rests_says : {T : Type 0} {see : T → Paused} {l : Life} {old new : List Body} {o : Object T} (ts : List OpenTask) (ob : seen.Object)
    → Holds see l o ts → object_of o ts ≡ ob → new ≡ old → Says see l old new (state.Idle o) (rests ob)
rests_says {old = old} {new = new} ts ob holds is same = record { said = same ∙ sym (append-nil (old ++ []) ∙ append-nil old); state = (ts, sym is, holds) }

-- One thing is said, and the object is idle.
pub one_said : {T : Type 0} {see : T → Paused} {l : Life} {old new : List Body} {o : Object T} (b : Body) (ts : List OpenTask) (ob : seen.Object)
    → Holds see l o ts → object_of o ts ≡ ob → new ≡ old ++ b ∷ [] → Says see l old new (state.Idle o) (record { says = b ∷ []; state = seen.idle ob })
one_said {old = old} b ts ob holds is said = record { said = said ∙ sym (append-nil (old ++ b ∷ [])); state = (ts, sym is, holds) }
