-- Steps that are left.
use Rattle.std.proofs.Common.{◌≡◌, suc, ◌≤◌, nat_le, Bool, true, false, List, [], ◌∷◌, refl, sym, ap, ◌∙◌, arith}
use Rattle.std.proofs.lemmas.Bool.{leb-true, le-leb}
use Rattle.std.proofs.lemmas.List.{append-nil}
use Rattle.script_mean.proofs.Keeps.{NextKeeps, PartKeeps, grow}
use Rattle.script_mean.proofs.Loops.{same_turns}
use Rattle.script_mean.specs.Task as task
use Rattle.script_mean.specs.Task.{Env, Segment}
use Rattle.script_mean.specs.Turn as turn
use Rattle.script_mean.specs.Turn.{Next, Run, budget, either, exceed, on_value, pass}
use Rattle.script_state.specs.Ends.{Goes}
use Rattle.script_state.specs.Seen.{state_of}
use Rattle.script_state.specs.declared.state.State.{State}
use Rattle.script_steps.specs.declared.focus.Outcome.{Outcome as Ending}
use Rattle.script_vars.specs.Seen.{env_of}

-- One turn or none.
shut : Bool → List Segment
shut true = []
shut false = task.exceeded [] ∷ []

-- There is none where the test is true.
is_shut : (t : Bool) → shut t ≡ [] → t ≡ true
unfolding shut
is_shut true e = refl
is_shut false e = absurd (cc)

-- No more answers leave the state as it is.
grown : (st : turn.State) → grow [] st ≡ st
grown st = ap (λ rs. record st { resumes = rs }) (append-nil st.resumes)

-- A part that was done at once takes back no step.
pub left_kept : (part : Run) (old new : State) (o : Ending) → PartKeeps same_turns part → Goes part old new o → new.left ≤ old.left
unfolding shut
left_kept part old new o keeps goes =
    let most = budget (state_of old []) in
    let ends : Next = λ o env st. [] in
    let tells : Next = λ o env st. shut (nat_le (budget st) most) in
    let kept : NextKeeps same_turns (suc most) ends tells = record {
      by = λ o env st less.
          ap (λ s. shut (nat_le (budget s) most)) (grown st) ∙ ap shut (le-leb (budget st) most (omega (arith, less)));
    } in
    let same = keeps.by (suc most) (env_of old.vars) ends tells (state_of old []) (omega arith) kept in
    let told : shut (nat_le (budget (state_of new [])) most) ≡ [] = sym (goes tells []) ∙ same ∙ goes ends [] in
    let fewer : nat_le (budget (state_of new [])) most ≡ true = is_shut _ told in
    let result : budget (state_of new []) ≤ most = leb-true _ _ fewer in
    omega (arith, result)
