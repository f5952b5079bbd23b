-- Writes to a variable whose value was taken.
use Rattle.std.proofs.Common.{◌≡◌, ℕ, List, [], ◌∷◌, Option, Some, None, refl, sym, ap, ◌∙◌}
use Rattle.std.specs.Prelude.{Bool, true, false, if◌then◌else◌}
use Rattle.std.specs.Str.{bytes_eq}
use Rattle.std.proofs.lemmas.Slice.Eq.{bytes_eq-Decides}
use Rattle.do_value.specs.Tree.{Tree, undefined}
use Rattle.script_mean.specs.Task as task
use Rattle.script_mean.specs.Task.{Scope, Env}
use Rattle.script_mean.specs.Turn.{bound_in, bound_or, bound, rebound_in, is_bound, rebound}
use Rattle.script_vars.specs.Seen.{value_of, emptied_where, emptied_in}

-- a name is spelled like itself
spelled : (name : List ℕ) → bytes_eq name name ≡ true
spelled name = (bytes_eq-Decides name name).1 refl

-- the later of two writes to a name of a block is the one that stands
twice_at : (name : List ℕ) (u v : Tree) (b : List ℕ × task.Bound) (s : Scope) (c : Bool) → bytes_eq b.0 name ≡ c → rebound_in name v (rebound_in name u s) ≡ rebound_in name v s
    → rebound_in name v (if c then (name, task.value u) ∷ s else b ∷ rebound_in name u s) ≡ (if c then (name, task.value v) ∷ s else b ∷ rebound_in name v s)
twice_at name u v b s true e others = ap (λ (c : Bool). if c then (name, task.value v) ∷ s else (name, task.value u) ∷ rebound_in name v s) (spelled name)
twice_at name u v b s false e others =
    ap (λ (c : Bool). if c then (name, task.value v) ∷ rebound_in name u s else b ∷ rebound_in name v (rebound_in name u s)) e
    ∙ ap (λ (r : Scope). b ∷ r) others

twice_in : (name : List ℕ) (u v : Tree) (s : Scope) → rebound_in name v (rebound_in name u s) ≡ rebound_in name v s
twice_in name u v [] = refl
twice_in name u v (b ∷ s) = twice_at name u v b s (bytes_eq b.0 name) refl (twice_in name u v s)

-- a name that is written is bound as before
still_at : (name : List ℕ) (u : Tree) (b : List ℕ × task.Bound) (s : Scope) (c : Bool) → bytes_eq b.0 name ≡ c → is_bound (bound_in name (rebound_in name u s)) ≡ is_bound (bound_in name s)
    → is_bound (bound_in name (if c then (name, task.value u) ∷ s else b ∷ rebound_in name u s)) ≡ is_bound (if c then Some b.1 else bound_in name s)
still_at name u b s true e others = ap (λ (c : Bool). is_bound (if c then Some (task.value u) else bound_in name s)) (spelled name)
still_at name u b s false e others = ap (λ (c : Bool). is_bound (if c then Some b.1 else bound_in name (rebound_in name u s))) e ∙ others

still_in : (name : List ℕ) (u : Tree) (s : Scope) → is_bound (bound_in name (rebound_in name u s)) ≡ is_bound (bound_in name s)
still_in name u [] = refl
still_in name u (b ∷ s) = still_at name u b s (bytes_eq b.0 name) refl (still_in name u s)

-- the later of two writes to a variable is the one that stands
twice_where : (name : List ℕ) (u v : Tree) (s : Scope) (env : Env) (c : Bool) → is_bound (bound_in name s) ≡ c → rebound name v (rebound name u env) ≡ rebound name v env
    → rebound name v (if c then rebound_in name u s ∷ env else s ∷ rebound name u env) ≡ (if c then rebound_in name v s ∷ env else s ∷ rebound name v env)
twice_where name u v s env true e others =
    ap (λ (c : Bool). if c then rebound_in name v (rebound_in name u s) ∷ env else rebound_in name u s ∷ rebound name v env) (still_in name u s ∙ e)
    ∙ ap (λ (r : Scope). r ∷ env) (twice_in name u v s)
twice_where name u v s env false e others =
    ap (λ (c : Bool). if c then rebound_in name v s ∷ rebound name u env else s ∷ rebound name v (rebound name u env)) e
    ∙ ap (λ (r : Env). s ∷ r) others

pub twice : (name : List ℕ) (u v : Tree) (env : Env) → rebound name v (rebound name u env) ≡ rebound name v env
twice name u v [] = refl
twice name u v (s ∷ env) = twice_where name u v s env (is_bound (bound_in name s)) refl (twice name u v env)

-- what a name stands for is written again
same_at : (name : List ℕ) (v : Tree) (b : List ℕ × task.Bound) (s : Scope) (c : Bool) → bytes_eq b.0 name ≡ c → (bound_in name s ≡ Some (task.value v) → rebound_in name v s ≡ s)
    → (if c then Some b.1 else bound_in name s) ≡ Some (task.value v) → (if c then (name, task.value v) ∷ s else b ∷ rebound_in name v s) ≡ b ∷ s
same_at name v b s true e others is =
    let named : b.0 ≡ name = (bytes_eq-Decides b.0 name).0 e in
    let meant : b.1 ≡ task.value v = cc in
    ap (λ (n : List ℕ). (n, task.value v) ∷ s) (sym named) ∙ ap (λ (x : task.Bound). (b.0, x) ∷ s) (sym meant)
same_at name v b s false e others is = ap (λ (r : Scope). b ∷ r) (others is)

same_in : (name : List ℕ) (v : Tree) (s : Scope) → bound_in name s ≡ Some (task.value v) → rebound_in name v s ≡ s
same_in name v [] is = refl
same_in name v (b ∷ s) is = same_at name v b s (bytes_eq b.0 name) refl (same_in name v s) is

same_where : (name : List ℕ) (v : Tree) (s : Scope) (env : Env) (o : Option task.Bound) → bound_in name s ≡ o → (bound name env ≡ Some (task.value v) → rebound name v env ≡ env)
    → bound_or o (bound name env) ≡ Some (task.value v) → (if is_bound o then rebound_in name v s ∷ env else s ∷ rebound name v env) ≡ s ∷ env
same_where name v s env None e others is = ap (λ (r : Env). s ∷ r) (others is)
same_where name v s env (Some b) e others is = ap (λ (r : Scope). r ∷ env) (same_in name v s (e ∙ is))

pub same : (name : List ℕ) (v : Tree) (env : Env) → bound name env ≡ Some (task.value v) → rebound name v env ≡ env
same name v [] is = refl
same name v (s ∷ env) is = same_where name v s env (bound_in name s) refl (same name v env) is

-- a variable is set after its value was taken as one whose value wasn't
set_where : (name : List ℕ) (v : Tree) (env : Env) (o : Option Tree) → rebound name v (emptied_where o name env) ≡ rebound name v env
set_where name v env None = refl
set_where name v env (Some u) = twice name undefined v env

pub set_taken : (name : List ℕ) (v : Tree) (env : Env) → rebound name v (emptied_in name env) ≡ rebound name v env
set_taken name v env = set_where name v env (value_of (bound name env))

-- a variable whose value is taken and set again is as it was
pub set_back : (name : List ℕ) (v : Tree) (env : Env) → bound name env ≡ Some (task.value v) → rebound name v (emptied_in name env) ≡ env
set_back name v env is = set_taken name v env ∙ same name v env is
