-- What look-ups and writes give, told from where the binding stands.
use Rattle.std.proofs.Common.{◌≡◌, ℕ, ◌+◌, ◌-◌, ◌<◌, ◌≤◌, List, [], ◌∷◌, ◌++◌, length, map, reverse, take, drop, set, get_or, Option, Some, None, refl, sym, ap, ◌∙◌, arith}
use Rattle.std.specs.Prelude.{Bool, true, false, if◌then◌else◌}
use Rattle.std.specs.Str.{bytes_eq}
use Rattle.do_value.specs.Tree.{Tree}
use Rattle.do_value.specs.Seen.{tree_of}
use Rattle.do_value.specs.declared.value.Value.{Value as OneValue}
use Rattle.do_value.specs.declared.value.Value.TheVariants.{Undefined}
use Rattle.script_mean.specs.Task as task
use Rattle.script_mean.specs.Task.{Scope, Env}
use Rattle.script_mean.specs.Turn.{bound_in, bound_or, bound, rebound_in, is_bound, rebound, with_name}
use Rattle.script_vars.specs.Seen.{bound_of, named, scope_of, env_of, value_in, value_of, emptied, emptied_where, emptied_in}
use Rattle.script_vars.specs.Places.{no_name, IsLatest, IsInnermost}
use Rattle.script_vars.specs.declared.bound.Bound.{Bound}
use Rattle.script_vars.specs.declared.bound.Bound.TheVariants.{Value, Handle, Context, Environment}
use Rattle.script_vars.proofs.Kept.{pushed, headed, written, read}
use Rattle.std.proofs.lemmas.List.{drop_more, drop_all, append-nil, set-get_or, get_or_read}
use Rattle.std.proofs.lemmas.Slice.Eq.{bytes_eq-Decides}

-- a name that isn't found is neither the first nor among the others
not_first : (t : Bool) (x : task.Bound) (o : Option task.Bound) → (if t then Some x else o) ≡ None → (t ≡ false) × (o ≡ None)
not_first true x o e = absurd (cc)
not_first false x o e = (refl, e)

-- names before those that aren't this one
past_in : (name : List ℕ) (s t : Scope) → bound_in name s ≡ None → bound_in name (s ++ t) ≡ bound_in name t
past_in name [] t e = refl
past_in name (b ∷ s) t e =
    let none = not_first _ _ _ e in
    ap (λ (c : Bool). if c then Some b.1 else bound_in name (s ++ t)) none.0 ∙ past_in name s t none.1

kept_in : (name : List ℕ) (v : Tree) (s t : Scope) → bound_in name s ≡ None → rebound_in name v (s ++ t) ≡ s ++ rebound_in name v t
kept_in name v [] t e = refl
kept_in name v (b ∷ s) t e =
    let none = not_first _ _ _ e in
    ap (λ (c : Bool). if c then (name, task.value v) ∷ (s ++ t) else b ∷ rebound_in name v (s ++ t)) none.0 ∙ ap (λ (r : Scope). b ∷ r) (kept_in name v s t none.1)

-- a name that isn't found is neither in the innermost block nor in the others
not_inner : (o p : Option task.Bound) → bound_or o p ≡ None → (o ≡ None) × (p ≡ None)
not_inner None p e = (refl, e)
not_inner (Some b) p e = absurd (cc)

-- blocks before those that don't have the name
past : (name : List ℕ) (s t : Env) → bound name s ≡ None → bound name (s ++ t) ≡ bound name t
past name [] t e = refl
past name (b ∷ s) t e =
    let none = not_inner _ _ e in
    ap (λ (o : Option task.Bound). bound_or o (bound name (s ++ t))) none.0 ∙ past name s t none.1

kept : (name : List ℕ) (v : Tree) (s t : Env) → bound name s ≡ None → rebound name v (s ++ t) ≡ s ++ rebound name v t
kept name v [] t e = refl
kept name v (b ∷ s) t e =
    let none = not_inner _ _ e in
    ap (λ (o : Option task.Bound). if is_bound o then rebound_in name v b ∷ (s ++ t) else b ∷ rebound name v (s ++ t)) none.0 ∙ ap (λ (r : Env). b ∷ r) (kept name v s t none.1)

-- a name is spelled like itself
same_spelling : (name : List ℕ) → bytes_eq name name ≡ true
same_spelling name = (bytes_eq-Decides name name).1 refl

-- the binding found where it stands, in its block
found_in : (name : List ℕ) (s t : Scope) (k : List ℕ) (b : task.Bound) → bound_in name s ≡ None → k ≡ name → bound_in name (s ++ (k, b) ∷ t) ≡ Some b
found_in name s t k b none spelled =
    past_in name s ((k, b) ∷ t) none ∙ ap (λ (n : List ℕ). bound_in name ((n, b) ∷ t)) spelled ∙ ap (λ (c : Bool). if c then Some b else bound_in name t) (same_spelling name)

pub latest_bound : (name : List ℕ) (names : List (List ℕ × Bound)) (place : ℕ) → IsLatest name names place → bound_in name (scope_of names) ≡ Some (bound_of (get_or names place no_name).1)
latest_bound name names place at =
    ap (bound_in name) (read named names place no_name at.inside) ∙ found_in name _ _ _ _ at.later at.spelled

-- and written there
rewritten_in : (name : List ℕ) (v : Tree) (s t : Scope) (k : List ℕ) (b : task.Bound) → bound_in name s ≡ None → k ≡ name → rebound_in name v (s ++ (k, b) ∷ t) ≡ s ++ (k, task.value v) ∷ t
rewritten_in name v s t k b none spelled =
    kept_in name v s ((k, b) ∷ t) none
    ∙ ap (λ (n : List ℕ). s ++ rebound_in name v ((n, b) ∷ t)) spelled
    ∙ ap (λ (c : Bool). s ++ (if c then (name, task.value v) ∷ t else (name, b) ∷ rebound_in name v t)) (same_spelling name)
    ∙ ap (λ (n : List ℕ). s ++ (n, task.value v) ∷ t) (sym spelled)

-- a block's names once a value is written at a place
abbrev pub put : List (List ℕ × Bound) → ℕ → Bound → List (List ℕ × Bound)
put names place b = set names place ((get_or names place no_name).0, b)

latest_rebound : (name : List ℕ) (names : List (List ℕ × Bound)) (place : ℕ) (v : OneValue) → IsLatest name names place → rebound_in name (tree_of v) (scope_of names) ≡ scope_of (put names place (Value v))
latest_rebound name names place v at =
    ap (rebound_in name (tree_of v)) (read named names place no_name at.inside)
    ∙ rewritten_in name (tree_of v) _ _ _ _ at.later at.spelled
    ∙ sym (written named names place ((get_or names place no_name).0, Value v) at.inside)

-- the binding found in its block, among the blocks
found : (name : List ℕ) (s t : Env) (scope : Scope) (b : task.Bound) → bound name s ≡ None → bound_in name scope ≡ Some b → bound name (s ++ scope ∷ t) ≡ Some b
found name s t scope b none here = past name s (scope ∷ t) none ∙ ap (λ (o : Option task.Bound). bound_or o (bound name t)) here

rewritten : (name : List ℕ) (v : Tree) (s t : Env) (scope : Scope) (b : task.Bound) → bound name s ≡ None → bound_in name scope ≡ Some b → rebound name v (s ++ scope ∷ t) ≡ s ++ rebound_in name v scope ∷ t
rewritten name v s t scope b none here =
    kept name v s (scope ∷ t) none ∙ ap (λ (o : Option task.Bound). s ++ (if is_bound o then rebound_in name v scope ∷ t else scope ∷ rebound name v t)) here

-- what stands at a place of a block
abbrev pub at_place : List (List (List ℕ × Bound)) → ℕ → ℕ → Bound
at_place blocks block place = (get_or (get_or blocks block []) place no_name).1

pub innermost_bound : (name : List ℕ) (blocks : List (List (List ℕ × Bound))) (block place : ℕ) → IsInnermost name blocks block place → bound name (env_of blocks) ≡ Some (bound_of (at_place blocks block place))
innermost_bound name blocks block place at =
    ap (bound name) (read scope_of blocks block [] at.inside)
    ∙ found name (map scope_of (reverse (drop (block + 1) blocks))) (map scope_of (reverse (take block blocks))) (scope_of (get_or blocks block [])) _ at.inner (latest_bound name (get_or blocks block []) place at.latest)

pub innermost_rebound : (name : List ℕ) (blocks : List (List (List ℕ × Bound))) (block place : ℕ) (v : OneValue) → IsInnermost name blocks block place
    → rebound name (tree_of v) (env_of blocks) ≡ env_of (set blocks block (put (get_or blocks block []) place (Value v)))
innermost_rebound name blocks block place v at =
    let names = get_or blocks block [] in
    ap (rebound name (tree_of v)) (read scope_of blocks block [] at.inside)
    ∙ rewritten name (tree_of v) (map scope_of (reverse (drop (block + 1) blocks))) (map scope_of (reverse (take block blocks))) (scope_of names) _ at.inner (latest_bound name names place at.latest)
    ∙ ap (λ (scope : Scope). map scope_of (reverse (drop (block + 1) blocks)) ++ scope ∷ map scope_of (reverse (take block blocks))) (latest_rebound name names place v at.latest)
    ∙ sym (written scope_of blocks block (put names place (Value v)) at.inside)

-- a name that isn't found from a place on, nor just before it, isn't found from there on
pub none_from_name : (name : List ℕ) (names : List (List ℕ × Bound)) (place : ℕ) → 0 < place → place ≤ length names
    → bound_in name (scope_of (drop place names)) ≡ None → bytes_eq (get_or names (place - 1) no_name).0 name ≡ false → bound_in name (scope_of (drop (place - 1) names)) ≡ None
none_from_name name names place above within later other =
    let back : place - 1 + 1 ≡ place = omega (arith, above) in
    let x = get_or names (place - 1) no_name in
    let first : drop (place - 1) names ≡ x ∷ drop place names = drop_more names (place - 1) no_name (omega (arith, above, within)) ∙ ap (λ k. x ∷ drop k names) back in
    ap (λ (l : List (List ℕ × Bound)). bound_in name (scope_of l)) first
    ∙ ap (bound_in name) (headed named x (drop place names))
    ∙ past_in name (scope_of (drop place names)) (named x ∷ []) later
    ∙ ap (λ (c : Bool). if c then Some (bound_of x.1) else None) other

-- and the same of the blocks
pub none_from_block : (name : List ℕ) (blocks : List (List (List ℕ × Bound))) (block : ℕ) → 0 < block → block ≤ length blocks
    → bound name (env_of (drop block blocks)) ≡ None → bound_in name (scope_of (get_or blocks (block - 1) [])) ≡ None → bound name (env_of (drop (block - 1) blocks)) ≡ None
none_from_block name blocks block above within later other =
    let back : block - 1 + 1 ≡ block = omega (arith, above) in
    let x = get_or blocks (block - 1) [] in
    let first : drop (block - 1) blocks ≡ x ∷ drop block blocks = drop_more blocks (block - 1) [] (omega (arith, above, within)) ∙ ap (λ k. x ∷ drop k blocks) back in
    ap (λ (l : List (List (List ℕ × Bound))). bound name (env_of l)) first
    ∙ ap (bound name) (headed scope_of x (drop block blocks))
    ∙ past name (env_of (drop block blocks)) (scope_of x ∷ []) later
    ∙ ap (λ (o : Option task.Bound). bound_or o None) other

-- a name that isn't in sight is written nowhere
pub unbound_rebound : (name : List ℕ) (v : Tree) (env : Env) → bound name env ≡ None → rebound name v env ≡ env
unbound_rebound name v env none = ap (rebound name v) (sym (append-nil env)) ∙ kept name v env [] none ∙ append-nil env

-- the innermost block once a name is declared in it
declared_last : (name : List ℕ) (v : OneValue) (blocks : List (List (List ℕ × Bound))) (names : List (List ℕ × Bound)) (last : ℕ) → last < length blocks → length blocks ≡ last + 1
    → names ≡ get_or blocks last [] ++ (name, Value v) ∷ [] → env_of (set blocks last names) ≡ with_name name (tree_of v) (env_of blocks)
declared_last name v blocks names last within count is =
    let old = get_or blocks last [] in
    let none : drop (last + 1) blocks ≡ [] = drop_all (last + 1) blocks (omega (arith, count)) in
    let before = map scope_of (reverse (take last blocks)) in
    let new_env : env_of (set blocks last names) ≡ scope_of names ∷ before =
    written scope_of blocks last names within ∙ ap (λ (l : List (List (List ℕ × Bound))). map scope_of (reverse l) ++ scope_of names ∷ before) none in
    let old_env : env_of blocks ≡ scope_of old ∷ before =
    read scope_of blocks last [] within ∙ ap (λ (l : List (List (List ℕ × Bound))). map scope_of (reverse l) ++ scope_of old ∷ before) none in
    new_env ∙ ap (λ (s : Scope). s ∷ before) (ap scope_of is ∙ pushed named old (name, Value v)) ∙ sym (ap (with_name name (tree_of v)) old_env)

-- the same where the block is told by what is read and written
pub declared_in : (name : List ℕ) (v : OneValue) (blocks : List (List (List ℕ × Bound))) (old names : List (List ℕ × Bound)) (last : ℕ) → last < length blocks → length blocks ≡ last + 1
    → old ≡ get_or blocks last old → names ≡ old ++ (name, Value v) ∷ [] → env_of (set blocks last names) ≡ with_name name (tree_of v) (env_of blocks)
declared_in name v blocks old names last within count at is =
    declared_last name v blocks names last within count (is ∙ ap (λ (o : List (List ℕ × Bound)). o ++ (name, Value v) ∷ []) (get_or_read blocks last old within at []))

-- what stands at a place is written there again
put_same : (names : List (List ℕ × Bound)) (place : ℕ) → put names place (get_or names place no_name).1 ≡ names
put_same names place = set-get_or names place no_name

stays : (name : List ℕ) (blocks : List (List (List ℕ × Bound))) (block place : ℕ) (b : Bound) → at_place blocks block place ≡ b → env_of (set blocks block (put (get_or blocks block []) place b)) ≡ env_of blocks
stays name blocks block place b is =
    ap (λ (c : Bound). env_of (set blocks block (put (get_or blocks block []) place c))) (sym is)
    ∙ ap (λ (names : List (List ℕ × Bound)). env_of (set blocks block names)) (put_same (get_or blocks block []) place)
    ∙ ap env_of (set-get_or blocks block [])

-- the variables once what stands at a name's place is emptied
emptied_as : (name : List ℕ) (blocks : List (List (List ℕ × Bound))) (block place : ℕ) (b : Bound) → IsInnermost name blocks block place → at_place blocks block place ≡ b
    → env_of (set blocks block (put (get_or blocks block []) place (emptied b))) ≡ emptied_where (value_in (bound_of b)) name (env_of blocks)
emptied_as name blocks block place (Value v) at is = sym (innermost_rebound name blocks block place Undefined at)
emptied_as name blocks block place Handle at is = stays name blocks block place Handle is
emptied_as name blocks block place Context at is = stays name blocks block place Context is
emptied_as name blocks block place Environment at is = stays name blocks block place Environment is

pub innermost_emptied : (name : List ℕ) (blocks : List (List (List ℕ × Bound))) (block place : ℕ) → IsInnermost name blocks block place
    → env_of (set blocks block (put (get_or blocks block []) place (emptied (at_place blocks block place)))) ≡ emptied_in name (env_of blocks)
innermost_emptied name blocks block place at =
    emptied_as name blocks block place (at_place blocks block place) at refl
    ∙ ap (λ (o : Option task.Bound). emptied_where (value_of o) name (env_of blocks)) (sym (innermost_bound name blocks block place at))
