-- What parts do, by how they end.
use Rattle.std.proofs.Common.{◌≡◌, List, Result, Err, IfOk, refl, sym, ap, ◌∙◌}
use Rattle.do_value.specs.Tree.{Tree}
use Rattle.do_value.specs.declared.value.Value.{Value}
use Rattle.do_value.specs.Seen.{tree_of}
use Rattle.script_asks.specs.Requests.{Asks}
use Rattle.script_calls.specs.Faults.{IsThrown}
use Rattle.script_mean.specs.Storing.{Request}
use Rattle.script_ops.specs.Answers.{Answers}
use Rattle.script_ops.specs.declared.fault.OpFault.{OpFault}
use Rattle.script_ops.specs.declared.fault.OpFault.TheVariants.{Throw, NoMemory}
use Rattle.script_mean.specs.Task.{Env, Resume}
use Rattle.script_mean.specs.Turn as turn
use Rattle.script_mean.specs.Turn.{Next, Run, ends, on_value, throws, ◌>>◌}
use Rattle.script_state.specs.Ends.{Does, Goes}
use Rattle.script_state.specs.Seen.{state_of}
use Rattle.script_state.specs.declared.state.State.{State}
use Rattle.script_state.specs.declared.done.Done.{Done}
use Rattle.script_state.specs.declared.done.Done.TheVariants as done
use Rattle.script_steps.proofs.Begun.{if_ok}
use Rattle.script_steps.specs.Seen.{outcome_of}
use Rattle.script_steps.specs.declared.focus.Outcome.{Outcome as Ending}
use Rattle.script_steps.specs.declared.focus.Outcome.TheVariants as ending
use Rattle.script_vars.specs.Seen.{env_of}

-- A part that is over at once.
pub over_at_once : (part : Run) (s : State) (o : Ending) → part ≡ ends (outcome_of o) → Does part s s (done.Ended o)
over_at_once part s o e = λ next rs. ap (λ (p : Run). p (env_of s.vars) next (state_of s rs)) e

-- A part that is another one.
pub does_as : {E : Type 0} (p q : Run) (old new : State) (r : Result Done E) → p ≡ q → IfOk r (Does q old new) → IfOk r (Does p old new)
does_as p q old new r e h = if_ok r (λ d x next rs. ap (λ (part : Run). part (env_of old.vars) next (state_of old rs)) e ∙ x next rs) h

-- What stands behind a part waits for its value, and hears of it; an end of another kind passes by.
pub passes : (f : Tree → Run) (next : Next) (o : Ending) → ((v : Value) → o ≡ ending.Gave v → ⊥) → (env : Env) (st : turn.State) → on_value f next (outcome_of o) env st ≡ next (outcome_of o) env st
passes f next (ending.Gave v) other env st = absurd (other v refl)
passes f next (ending.Threw v) other env st = refl
passes f next (ending.Returned v) other env st = refl
passes f next ending.Broke other env st = refl
passes f next ending.Continued other env st = refl

-- A part that gave a value, and then another.
pub and_then : {E : Type 0} (first second : Run) (old mid new : State) (o : Ending) (v : Value) (r : Result Done E) → Goes first old mid o → o ≡ ending.Gave v
    → IfOk r (Does second mid new) → IfOk r (Does (first >> second) old new)
and_then first second old mid new o v r goes given h =
    if_ok r (λ d x next rs.
    goes (on_value (λ _. second) next) rs
    ∙ ap (λ (z : Ending). on_value (λ _. second) next (outcome_of z) (env_of mid.vars) (state_of mid rs)) given
    ∙ x next rs) h

-- A part that didn't, and nothing then.
pub and_not : (first second : Run) (old mid : State) (o : Ending) → Goes first old mid o → ((v : Value) → o ≡ ending.Gave v → ⊥) → Goes (first >> second) old mid o
and_not first second old mid o goes other = λ next rs.
    goes (on_value (λ _. second) next) rs ∙ passes (λ _. second) next o other (env_of mid.vars) (state_of mid rs)

-- Two parts that do the same from here.
abbrev pub Alike : Run → Run → State → Type 0
Alike p q s = (next : Next) (rs : List Resume) → p (env_of s.vars) next (state_of s rs) ≡ q (env_of s.vars) next (state_of s rs)

-- What one of them does the other does.
pub does_alike : {E : Type 0} (p q : Run) (old new : State) (r : Result Done E) → Alike p q old → IfOk r (Does q old new) → IfOk r (Does p old new)
does_alike p q old new r e h = if_ok r (λ d x next rs. e next rs ∙ x next rs) h

-- An error that is thrown.
pub throws_so : (e : Tree) (fault : OpFault) (o : Ending) → Answers (Err e) (Err fault) → IsThrown fault o → throws e ≡ ends (outcome_of o)
throws_so e (Throw v) o is end = let same : e ≡ tree_of v = cc in ap throws same ∙ ap ends (sym end)
throws_so e NoMemory o is end = absurd end

-- A refusal of the storage's or of a handle's call.
pub refused : (part : Result Request Tree → Run) → ((e : Tree) → part (Err e) ≡ throws e) → (meant : Result Request Tree) (fault : OpFault) (o : Ending) → Asks meant (Err fault) → IsThrown fault o
    → part meant ≡ ends (outcome_of o)
refused part throwing meant (Throw v) o is end = ap part is ∙ throwing (tree_of v) ∙ ap ends (sym end)
refused part throwing meant NoMemory o is end = absurd end

-- A part that is another one, where it is over.
pub goes_as : (p q : Run) (old new : State) (o : Ending) → p ≡ q → Goes q old new o → Goes p old new o
goes_as p q old new o e h = λ next rs. ap (λ (r : Run). r (env_of old.vars) next (state_of old rs)) e ∙ h next rs
