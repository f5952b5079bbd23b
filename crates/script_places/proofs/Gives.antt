-- What writes give.
use Rattle.std.proofs.Common.{◌≡◌, ℕ, true, List, [], ◌∷◌, Result, Ok, Err, is_ok, ap, ◌∙◌}
use Rattle.std.specs.Prelude.{OnOk}
use Rattle.do_value.specs.Keyed.{value_at}
use Rattle.do_value.specs.Tree.{Tree, undefined, fields}
use Rattle.do_value.specs.Seen.{tree_of}
use Rattle.do_value.specs.declared.value.Value.{Value}
use Rattle.script_ops.specs.Errors.{within_limits}
use Rattle.script_mean.specs.Places.{Step, part, with_part, with_field, at_part, put, limited, or_undefined, with_own}
use Rattle.script_mean.specs.Task.{Fields}
use Rattle.script_places.specs.Changes.{Writes}
use Rattle.script_places.specs.Writes.{written, own_written}
use Rattle.script_ops.specs.declared.fault.Stop.{Stop}
use Rattle.script_places.proofs.Steps.{then_made}

-- A fact of a good answer.
pub on_ok : {T E : Type 0} (r : Result T E) (P : Type 0) → P → OnOk r P
on_ok (Ok x) P p = p
on_ok (Err e) P p = tt

-- `=` gives `undefined`,
put_gives : (ss : List Step) (t v : Tree) (new : Tree × Tree) → at_part ss (put t) v ≡ Ok new → new.1 ≡ undefined
put_gives [] t v new e = let same : undefined ≡ new.1 = cc in cc
put_gives (s ∷ ss) t v new e =
    let read = then_made (part v s) _ new e in
    let inner = then_made (at_part ss (put t) read.0) _ new read.2 in
    let made = then_made (with_part v s inner.0.0) _ new inner.2 in
    let same : inner.0.1 ≡ new.1 = cc (made.2) in
    let given = put_gives ss t read.0 inner.0 inner.1 in
    cc

-- also where the whole is within the limits,
written_gives : (ss : List Step) (t v : Tree) (new : Tree × Tree) → written ss (put t) v ≡ Ok new → new.1 ≡ undefined
written_gives ss t v new e =
    let inner = then_made (at_part ss (put t) v) limited new e in
    let made = then_made (within_limits inner.0.0) (λ u. Ok inner.0) new inner.2 in
    let same : inner.0.1 ≡ new.1 = cc (made.2) in
    let given = put_gives ss t v inner.0 inner.1 in
    cc

own_gives : (name : List ℕ) (ss : List Step) (t : Tree) (ps : Fields) (new : Fields × Tree) → own_written name ss (put t) ps ≡ Ok new → new.1 ≡ undefined
own_gives name ss t ps new e =
    let inner = then_made (at_part ss (put t) (or_undefined (value_at name ps))) (with_own name ps) new e in
    let made = then_made (within_limits (fields (with_field name inner.0.0 ps))) (λ u. Ok (with_field name inner.0.0 ps, inner.0.1)) new inner.2 in
    let same : inner.0.1 ≡ new.1 = cc (made.2) in
    let given = put_gives ss t (or_undefined (value_at name ps)) inner.0 inner.1 in
    cc

-- so what a write is known to give is `undefined`.
abbrev giving : {A : Type 0} → A → Tree → Result (A × Tree) Tree
giving new given = Ok (new, given)

pub value_put : (ss : List Step) (t v : Tree) (old new : Value) (r : Result Value Stop) → Writes tree_of (written ss (put t) v) old new r → is_ok r ≡ true
    → written ss (put t) v ≡ Ok (tree_of new, undefined)
value_put ss t v old new (Ok g) h e = h ∙ ap (giving (tree_of new)) (written_gives ss t v (tree_of new, tree_of g) h)
value_put ss t v old new (Err stop) h e = absurd (cc)

pub own_value_put : (name : List ℕ) (ss : List Step) (t : Tree) (old new : Fields) (r : Result Value Stop) → Writes (λ (ps : Fields). ps) (own_written name ss (put t) old) old new r
    → is_ok r ≡ true → own_written name ss (put t) old ≡ Ok (new, undefined)
own_value_put name ss t old new (Ok g) h e = h ∙ ap (giving new) (own_gives name ss t old (new, tree_of g) h)
own_value_put name ss t old new (Err stop) h e = absurd (cc)
