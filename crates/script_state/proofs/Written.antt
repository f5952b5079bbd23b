-- Writes to places, from what is taken and what is set.
use Rattle.std.proofs.Common.{◌≡◌, ℕ, ◌<◌, List, [], ◌∷◌, length, slice_index_or, Option, Some, None, Result, Ok, Err, refl, sym, ap, ◌∙◌, arith}
use Rattle.do_value.specs.Tree.{Tree, undefined}
use Rattle.do_value.specs.Seen.{tree_of, trees_in}
use Rattle.do_value.specs.declared.value.Value.{Value}
use Rattle.script_ops.specs.declared.fault.OpFault.{OpFault}
use Rattle.script_ops.specs.declared.fault.OpFault.TheVariants.{Throw, NoMemory}
use Rattle.script_ops.specs.Calls.{argument}
use Rattle.script_mean.specs.Answers.{threw}
use Rattle.script_mean.specs.Places.{Change, Step, own, set_fields, set_variable, value_bound, variable, write}
use Rattle.script_mean.specs.Task as task
use Rattle.script_mean.specs.Task.{Env, Fields}
use Rattle.script_mean.specs.Turn.{Run, bound, nowhere, on_value, rebound}
use Rattle.script_places.specs.Writes.{own_written, written}
use Rattle.script_steps.specs.Seen.{outcome_of}
use Rattle.script_steps.specs.declared.focus.Outcome.{Outcome}
use Rattle.script_vars.proofs.Again.{set_back, set_taken}
use Rattle.script_vars.specs.Seen.{emptied_in, emptied_where, value_of}
use Rattle.script_state.specs.Places.{GoesOn, GoesWith, IsEnd, Wrote}

-- What has a value is a variable.
is_value : (b : Option task.Bound) (t : Tree) → value_of b ≡ Some t → b ≡ Some (task.value t)
is_value None t e = absurd (cc)
is_value (Some (task.value v)) t e = cc
is_value (Some task.handle) t e = absurd (cc)
is_value (Some task.context) t e = absurd (cc)
is_value (Some task.environment) t e = absurd (cc)

-- What has none is nowhere.
is_nowhere : (b : Option task.Bound) → value_of b ≡ None → value_bound b ≡ nowhere
is_nowhere None e = refl
is_nowhere (Some (task.value v)) e = absurd (cc)
is_nowhere (Some task.handle) e = refl
is_nowhere (Some task.context) e = refl
is_nowhere (Some task.environment) e = refl

-- A variable whose value was taken, changed and set, or set back where the change throws.
pub variable_wrote : (name : List ℕ) (ss : List Step) (change : Change) (env emptied new_env : Env) (old new : Value) (answer : Result Value OpFault) (o : Outcome)
    → Some (tree_of old) ≡ value_of (bound name env) → emptied ≡ emptied_in name env → Wrote tree_of (written ss change (tree_of old)) old new answer
    → new_env ≡ rebound name (tree_of new) emptied → IsEnd answer o → GoesWith (write (variable name) ss change) env new_env o
variable_wrote name ss change env emptied new_env old new (Ok v) o has taken wrote set end =
    let is : bound name env ≡ Some (task.value (tree_of old)) = is_value (bound name env) (tree_of old) (sym has) in
    let after : new_env ≡ rebound name (tree_of new) env = set ∙ ap (rebound name (tree_of new)) taken ∙ set_taken name (tree_of new) env in
    λ next st.
    ap (λ b. value_bound b env (on_value (λ t. set_variable name (written ss change t)) next) st) is
    ∙ ap (λ r. set_variable name r env next st) wrote
    ∙ ap (λ x. next x (rebound name (tree_of new) env) st) (sym end)
    ∙ ap (λ e. next (outcome_of o) e st) (sym after)
variable_wrote name ss change env emptied new_env old new (Err (Throw v)) o has taken wrote set end =
    let is : bound name env ≡ Some (task.value (tree_of old)) = is_value (bound name env) (tree_of old) (sym has) in
    let after : new_env ≡ env = set ∙ ap (rebound name (tree_of new)) taken ∙ ap (λ v. rebound name (tree_of v) (emptied_in name env)) wrote.1 ∙ set_back name (tree_of old) env is in
    λ next st.
    ap (λ b. value_bound b env (on_value (λ t. set_variable name (written ss change t)) next) st) is
    ∙ ap (λ r. set_variable name r env next st) wrote.0
    ∙ ap (λ x. next x env st) (sym end)
    ∙ ap (λ e. next (outcome_of o) e st) (sym after)
variable_wrote name ss change env emptied new_env old new (Err NoMemory) o has taken wrote set end = absurd end

-- The same where the name is told thrice.
pub variable_set : (name k j : List ℕ) (ss : List Step) (change : Change) (env emptied new_env : Env) (old new : Value) (answer : Result Value OpFault) (o : Outcome)
    → k ≡ name → j ≡ name → Some (tree_of old) ≡ value_of (bound k env) → emptied ≡ emptied_in k env
    → Wrote tree_of (written ss change (tree_of old)) old new answer → new_env ≡ rebound j (tree_of new) emptied
    → IsEnd answer o → GoesWith (write (variable name) ss change) env new_env o
variable_set name k j ss change env emptied new_env old new answer o at_k at_j has taken wrote set end =
    variable_wrote name ss change env emptied new_env old new answer o
    (has ∙ ap (λ n. value_of (bound n env)) at_k) (taken ∙ ap (λ n. emptied_in n env) at_k) wrote
    (set ∙ ap (λ n. rebound n (tree_of new) emptied) at_j) end

-- A name that stands for no value is written nowhere.
pub variable_nowhere : (name : List ℕ) (ss : List Step) (change : Change) (env new_env : Env) (o : Outcome)
    → None ≡ value_of (bound name env) → new_env ≡ emptied_in name env → outcome_of o ≡ threw undefined → GoesWith (write (variable name) ss change) env new_env o
variable_nowhere name ss change env new_env o none same end =
    let after : new_env ≡ env = same ∙ ap (λ t. emptied_where t name env) (sym none) in
    λ next st.
    ap (λ (r : Run). r env (on_value (λ t. set_variable name (written ss change t)) next) st) (is_nowhere (bound name env) (sym none))
    ∙ ap (λ x. next x env st) (sym end)
    ∙ ap (λ e. next (outcome_of o) e st) (sym after)

-- A field of the object itself.
pub own_wrote : (name : List ℕ) (ss : List Step) (change : Change) (old new : Fields) (answer : Result Value OpFault) (o : Outcome)
    → Wrote (λ ps. ps) (own_written name ss change old) old new answer → IsEnd answer o → GoesOn (write (own name) ss change) old new o
own_wrote name ss change old new (Ok v) o wrote end = λ env next st e.
    ap (λ ps. set_fields (own_written name ss change ps) env next st) e
    ∙ ap (λ r. set_fields r env next st) wrote
    ∙ ap (λ x. next x env (record st { fields = new })) (sym end)
own_wrote name ss change old new (Err (Throw v)) o wrote end = λ env next st e.
    ap (λ ps. set_fields (own_written name ss change ps) env next st) e
    ∙ ap (λ r. set_fields r env next st) wrote.0
    ∙ ap (λ x. next x env st) (sym end)
    ∙ ap (λ ps. next (outcome_of o) env (record st { fields = ps })) (e ∙ sym wrote.1)
own_wrote name ss change old new (Err NoMemory) o wrote end = absurd end

-- The first of the values.
pub first_is : (xs : List Value) (v : Value) → 0 < length xs → v ≡ slice_index_or xs 0 v → tree_of v ≡ argument 0 (trees_in xs)
first_is [] v some is = absurd (omega (arith, some))
first_is (x ∷ xs) v some is = ap tree_of is

pub first_none : (xs : List Value) → length xs ≡ 0 → undefined ≡ argument 0 (trees_in xs)
first_none [] none = refl
first_none (x ∷ xs) none = absurd (omega (arith, none))
