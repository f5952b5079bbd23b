-- What may enter is what is eligible.
use Rattle.std.proofs.Common.{◌≡◌, ℕ, true, false, refl}
use Rattle.std.specs.Prelude.{Bool, ◌==◌}
use Rattle.timeline.specs.Eligible.{has_block, is_eligible_while, resumes_block}
use Rattle.timeline.specs.Object.{Object, task_under}
use Rattle.timeline.specs.declared.event.Event.{Event}
use Rattle.timeline.specs.declared.event.Event.TheVariants.{Bind, Call, Answer, Tick, Evict}
use Rattle.input_gate.specs.Deferring.{may_enter}
use Rattle.input_gate.specs.declared.deferred.Entering.TheVariants.{Any, AnswerUnder, BindAlone, NoEviction}

pub rests_is : (resumes : Bool) (event : Event) → is_eligible_while false resumes true event ≡ may_enter Any event
rests_is resumes (Bind identity) = refl
rests_is resumes (Call from method args depth at) = refl
rests_is resumes (Answer incarnation under result at) = refl
rests_is resumes (Tick at) = refl
rests_is resumes (Evict at) = refl

pub runs_is : (resumes : Bool) (event : Event) → is_eligible_while false resumes false event ≡ may_enter NoEviction event
runs_is resumes (Bind identity) = refl
runs_is resumes (Call from method args depth at) = refl
runs_is resumes (Answer incarnation under result at) = refl
runs_is resumes (Tick at) = refl
runs_is resumes (Evict at) = refl

pub blocked_is : (o : Object) (number : ℕ) → ((k : ℕ) → has_block (task_under k o.tasks) ≡ (k == number))
    → (rests : Bool) (event : Event) → is_eligible_while true (resumes_block o event) rests event ≡ may_enter (AnswerUnder number) event
blocked_is o number block rests (Bind identity) = refl
blocked_is o number block rests (Call from method args depth at) = refl
blocked_is o number block rests (Answer incarnation under result at) = block under
blocked_is o number block rests (Tick at) = refl
blocked_is o number block rests (Evict at) = refl

pub for_none_is : (o : Object) → ((k : ℕ) → has_block (task_under k o.tasks) ≡ false)
    → (rests : Bool) (event : Event) → is_eligible_while true (resumes_block o event) rests event ≡ may_enter BindAlone event
for_none_is o block rests (Bind identity) = refl
for_none_is o block rests (Call from method args depth at) = refl
for_none_is o block rests (Answer incarnation under result at) = block under
for_none_is o block rests (Tick at) = refl
for_none_is o block rests (Evict at) = refl
