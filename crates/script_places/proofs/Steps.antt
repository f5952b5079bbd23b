-- Changes at the end of steps.
use Rattle.std.proofs.Common.{◌≡◌, ℕ, ◌+◌, ◌-◌, ◌^◌, ◌<◌, ◌≤◌, min, max, List, [], ◌∷◌, ◌++◌, length, Result, Ok, Err, refl, sym, ap, subst, ◌∙◌, inl, inr, arith}
use Rattle.std.specs.Prelude.{IsErr}
use Rattle.std.proofs.lemmas.Bool.{cases_lt, lt-ltb, le-ltb}
use Rattle.do_value.specs.Limits.{most_bytes, most_levels, told}
use Rattle.do_value.specs.Keyed.{value_at}
use Rattle.do_value.specs.Tree.{Tree, undefined, null, boolean, number, text, list, rec, items, fields, pairs_of, size_of, depth_of, most_pair_depth}
use Rattle.do_value.proofs.Changed.{depth_more}
use Rattle.do_value.specs.Seen.{tree_of}
use Rattle.script_ops.specs.Errors.{within_limits}
use Rattle.script_ops.specs.Lists.{items_of, fields_of}
use Rattle.script_ops.proofs.Parts.{fields_back}
use Rattle.script_mean.specs.Places.{Step, Change, part, with_part, with_field, at_part, limited, with_own, or_undefined, ◌then◌}
use Rattle.script_mean.specs.Task.{Fields}
use Rattle.script_places.specs.Steps.{change_of, levels_of}
use Rattle.script_places.specs.Changes.{Sizes, whole_of, Allows, limits_of, put_own}
use Rattle.script_places.specs.Writes.{written, own_written}
use Rattle.script_ops.specs.declared.refusal.Refusal.{Refusal}
use Rattle.script_places.specs.declared.step.Write.{Write}
use Rattle.script_places.specs.declared.step.Write.TheVariants.{Put, Push}
use Rattle.script_places.proofs.Grown.{IsGrown, refused_grown}
use Rattle.script_places.proofs.Spots.{grown_part, part_shallow, trees_back, depth_or_undefined}
use Rattle.script_places.proofs.Fields.{depth_field, grown_field}

-- What follows where each of the steps that make it is known.
pub at_made : (v p : Tree) (s : Step) (ss : List Step) (change : Change) (new : Tree × Tree) (whole : Tree) → part v s ≡ Ok p → at_part ss change p ≡ Ok new
    → with_part v s new.0 ≡ Ok whole → at_part (s ∷ ss) change v ≡ Ok (whole, new.1)
at_made v p s ss change new whole read inner made =
    ap (λ o. o then λ old. at_part ss change old then λ n. with_part v s n.0 then λ w. Ok (w, n.1)) read
    ∙ ap (λ o. o then λ n. with_part v s n.0 then λ w. Ok (w, n.1)) inner ∙ ap (λ o. o then λ w. Ok (w, new.1)) made

-- What goes on with a value went on with one.
pub then_made : {A B : Type 0} (r : Result A Tree) (f : A → Result B Tree) (y : B) → (r then f) ≡ Ok y → (x : A) × (r ≡ Ok x) × (f x ≡ Ok y)
then_made (Ok x) f y e = (x, refl, e)
then_made (Err t) f y e = absurd (cc)

-- What is thrown stays thrown.
pub then_thrown : {A B : Type 0} (r : Result A Tree) (f : A → Result B Tree) → IsErr r → IsErr (r then f)
then_thrown (Ok x) f h = absurd (cc)
then_thrown (Err e) f h = refl

-- What is thrown before something is given was thrown.
thrown_before : {A B : Type 0} (r : Result A Tree) (y : B) → IsErr (r then λ x. Ok y) → IsErr r
thrown_before (Ok x) y h = absurd (cc)
thrown_before (Err e) y h = refl

-- A part that isn't within the limits makes a whole that isn't.
back_refused : (made : Result Tree Tree) (v t given : Tree) → ((whole : Tree) → made ≡ Ok whole → IsGrown t v whole) → IsErr (within_limits t)
    → IsErr ((made then λ whole. Ok (whole, given)) then limited)
back_refused (Ok whole) v t given grown refused = then_thrown (within_limits whole) (λ u. Ok (whole, given)) (refused_grown t v whole (grown whole refl) refused)
back_refused (Err e) v t given grown refused = refl

inner_at : (inner : Result (Tree × Tree) Tree) (v : Tree) (s : Step) → IsErr (inner then limited)
    → IsErr ((inner then λ n. with_part v s n.0 then λ w. Ok (w, n.1)) then limited)
inner_at (Ok n) v s h = back_refused (with_part v s n.0) v n.0 n.1 (λ whole e. grown_part v s n.0 whole e) (thrown_before (within_limits n.0) n h)
inner_at (Err e) v s h = refl

pub inner_refused : (v p : Tree) (s : Step) (ss : List Step) (change : Change) → part v s ≡ Ok p → IsErr (at_part ss change p then limited)
    → IsErr (at_part (s ∷ ss) change v then limited)
inner_refused v p s ss change read h =
    subst (λ o. IsErr ((o then λ old. at_part ss change old then λ n. with_part v s n.0 then λ w. Ok (w, n.1)) then limited)) (sym read) (inner_at (at_part ss change p) v s h)

-- Where the changed part isn't put back, the whole is refused.
put_at : (made : Result Tree Tree) (given : Tree) → IsErr (made then within_limits) → IsErr ((made then λ w. Ok (w, given)) then limited)
put_at (Ok w) given h = then_thrown (within_limits w) (λ u. Ok (w, given)) h
put_at (Err e) given h = refl

pub put_refused : (v p : Tree) (s : Step) (ss : List Step) (change : Change) (new : Tree × Tree) → part v s ≡ Ok p → at_part ss change p ≡ Ok new
    → IsErr (with_part v s new.0 then within_limits) → IsErr (at_part (s ∷ ss) change v then limited)
put_refused v p s ss change new read inner h =
    subst (λ o. IsErr ((o then λ old. at_part ss change old then λ n. with_part v s n.0 then λ w. Ok (w, n.1)) then limited)) (sym read)
    (subst (λ o. IsErr ((o then λ n. with_part v s n.0 then λ w. Ok (w, n.1)) then limited)) (sym inner) (put_at (with_part v s new.0) new.1 h))

-- Where nothing can be put, all is refused.
none_put : (made : Result Tree Tree) (e given : Tree) → made ≡ Err e → IsErr ((made then λ w. Ok (w, given)) then limited)
none_put (Ok w) e given h = absurd (cc)
none_put (Err t) e given h = refl

none_inner : (inner : Result (Tree × Tree) Tree) (v e : Tree) (s : Step) → ((t : Tree) → with_part v s t ≡ Err e)
    → IsErr ((inner then λ n. with_part v s n.0 then λ w. Ok (w, n.1)) then limited)
none_inner (Ok n) v e s h = none_put (with_part v s n.0) e n.1 (h n.0)
none_inner (Err t) v e s h = refl

none_read : (read : Result Tree Tree) (v e : Tree) (s : Step) (ss : List Step) (change : Change) → ((t : Tree) → with_part v s t ≡ Err e)
    → IsErr ((read then λ old. at_part ss change old then λ n. with_part v s n.0 then λ w. Ok (w, n.1)) then limited)
none_read (Ok p) v e s ss change h = none_inner (at_part ss change p) v e s h
none_read (Err t) v e s ss change h = refl

pub nowhere_refused : (v e : Tree) (s : Step) (ss : List Step) (change : Change) → ((t : Tree) → with_part v s t ≡ Err e) → IsErr (at_part (s ∷ ss) change v then limited)
nowhere_refused v e s ss change h = none_read (part v s) v e s ss change h

-- How deep a write makes the part that it changes, and the whole: the steps and the levels of the write count.
deep_here : (w : Write) (v : Tree) (new : Tree × Tree) → change_of w v ≡ Ok new → (levels_of w ≤ depth_of new.0) × (depth_of new.0 ≤ max (depth_of v) (levels_of w))
deep_here (Put t) v new e = let same : tree_of t ≡ new.0 = cc in (omega (arith, ap depth_of same), omega (arith, ap depth_of same))
deep_here (Push t) undefined new e = absurd (cc)
deep_here (Push t) null new e = absurd (cc)
deep_here (Push t) (boolean b) new e = absurd (cc)
deep_here (Push t) (number z) new e = absurd (cc)
deep_here (Push t) (text bytes) new e = absurd (cc)
deep_here (Push t) (list ts) new e =
    let same : items (items_of ts ++ tree_of t ∷ []) ≡ new.0 = cc in
    (omega (arith, ap depth_of same, depth_more (items_of ts) (tree_of t)), omega (arith, ap depth_of same, depth_more (items_of ts) (tree_of t), ap depth_of (ap list (trees_back ts))))
deep_here (Push t) (rec ps) new e = absurd (cc)

pub deep_at : (w : Write) (ss : List Step) (v : Tree) (new : Tree × Tree) → at_part ss (change_of w) v ≡ Ok new
    → (length ss + levels_of w ≤ depth_of new.0) × (depth_of new.0 ≤ max (depth_of v) (length ss + levels_of w))
deep_at w [] v new e = let here = deep_here w v new e in (omega (arith, here.0), omega (arith, here.1))
deep_at w (s ∷ ss) v new e =
    let read = then_made (part v s) _ new e in
    let inner = then_made (at_part ss (change_of w) read.0) _ new read.2 in
    let made = then_made (with_part v s inner.0.0) _ new inner.2 in
    let whole : made.0 ≡ new.0 = cc (made.2) in
    let rest = deep_at w ss read.0 inner.0 inner.1 in
    let grown = grown_part v s inner.0.0 made.0 made.1 in
    let was = part_shallow v s inner.0.0 made.0 read.0 made.1 read.1 in
    (omega (arith, rest.0, grown.deep, ap depth_of whole), omega (arith, rest.1, grown.shallow, was, ap depth_of whole))

-- What the limits answer of the size and the depth that were found is what they answer of the whole.
pub limits_same : {A : Type 0} (whole : Tree) (y : A) (size depth : ℕ) → size ≡ told (size_of whole) → (most_levels < depth → most_levels < depth_of whole)
    → (depth ≤ most_levels → depth_of whole ≤ most_levels) → Allows (within_limits whole then λ u. Ok y) (limits_of size depth)
limits_same whole y size depth sized deep shallow = elim (cases_lt most_levels depth) [
  | inl over ↦
      let found = lt-ltb most_levels depth over in
      let meant = lt-ltb most_levels (depth_of whole) (deep over) in
      rw (found, meant) refl
  | inr under ↦
      let found = le-ltb most_levels depth under in
      let meant = le-ltb most_levels (depth_of whole) (shallow under) in
      elim (cases_lt most_bytes size) [
        | inl over_size ↦
            let found_size = lt-ltb most_bytes size over_size in
            let meant_size = lt-ltb most_bytes (size_of whole) (omega (arith, sized, over_size)) in
            rw (found, meant, found_size, meant_size) refl
        | inr under_size ↦
            let found_size = le-ltb most_bytes size under_size in
            let meant_size = le-ltb most_bytes (size_of whole) (omega (arith, sized, under_size)) in
            rw (found, meant, found_size, meant_size) tt
      ]
]

-- What is thrown before the limits are tested is thrown.
pub allows_thrown : {A : Type 0} (inner : Result (Tree × Tree) Tree) (f : Tree × Tree → Result A Tree) (refusal : Refusal) → Sizes (whole_of inner) (Err refusal)
    → Allows (inner then f) (Err refusal)
allows_thrown (Ok new) f refusal h = absurd h
allows_thrown (Err e) f refusal h = h

pub allows_made : {A : Type 0} (inner : Result (Tree × Tree) Tree) (f : Tree × Tree → Result A Tree) (size : ℕ) (r : Result (Unit {0}) Refusal) → Sizes (whole_of inner) (Ok size)
    → ((new : Tree × Tree) → inner ≡ Ok new → size ≡ told (size_of new.0) → Allows (f new) r) → Allows (inner then f) r
allows_made (Ok new) f size r h g = g new refl h
allows_made (Err e) f size r h g = absurd h

-- A value's write is allowed as the size and the depth that were found are,
pub allows_value : (w : Write) (ss : List Step) (v : Tree) (size depth : ℕ) → Sizes (whole_of (at_part ss (change_of w) v)) (Ok size) → depth_of v ≤ most_levels
    → depth ≡ min (length ss + levels_of w) (2 ^ 64 - 1) → Allows (written ss (change_of w) v) (limits_of size depth)
allows_value w ss v size depth sized shallow deep =
    allows_made (at_part ss (change_of w) v) limited size (limits_of size depth) sized
    (λ new made same.
    let bounds = deep_at w ss v new made in
    limits_same new.0 new size depth same (λ over. omega (arith, deep, over, bounds.0)) (λ under. omega (arith, deep, under, bounds.1, shallow)))

-- and so is that of a field of the object itself.
pub allows_own : (w : Write) (ss : List Step) (name : List ℕ) (ps : Fields) (size whole depth : ℕ)
    → Sizes (whole_of (at_part ss (change_of w) (or_undefined (value_at name ps)))) (Ok size) → depth_of (fields ps) ≤ most_levels
    → ((t : Tree) → size ≡ told (size_of t) → whole ≡ told (size_of (fields (with_field name t ps))))
    → depth ≡ min (length ss + (1 + levels_of w)) (2 ^ 64 - 1) → Allows (own_written name ss (change_of w) ps) (limits_of whole depth)
allows_own w ss name ps size whole depth sized shallow put deep =
    let was = depth_or_undefined (value_at name ps) (most_pair_depth ps) (λ old at. depth_field name old ps at) in
    allows_made (at_part ss (change_of w) (or_undefined (value_at name ps))) (with_own name ps) size (limits_of whole depth) sized
    (λ new made same.
    let bounds = deep_at w ss (or_undefined (value_at name ps)) new made in
    let grown = grown_field name new.0 ps in
    limits_same (fields (with_field name new.0 ps)) (with_field name new.0 ps, new.1) whole depth (put new.0 same)
    (λ over. omega (arith, deep, over, bounds.0, grown.deep)) (λ under. omega (arith, deep, under, bounds.1, grown.shallow, was, shallow)))

-- What is allowed isn't refused,
pub not_both : {A : Type 0} (r : Result A Tree) → Allows r (Ok tt) → IsErr r → ⊥
not_both (Ok x) a h = absurd (cc)
not_both (Err e) a h = a

-- and is what the change made.
made_allowed : {A B : Type 0} (r : Result B Tree) (y z : A) → Allows (r then λ u. Ok y) (Ok tt) → y ≡ z → (r then λ u. Ok y) ≡ Ok z
made_allowed (Ok x) y z a e = ap Ok e
made_allowed (Err t) y z a e = absurd a

pub value_made : (inner : Result (Tree × Tree) Tree) (new : Tree × Tree) → Allows (inner then limited) (Ok tt) → inner ≡ Ok new → (inner then limited) ≡ Ok new
value_made (Ok n) new a e = made_allowed (within_limits n.0) n new a (cc)
value_made (Err t) new a e = absurd (cc)

pub own_made : (inner : Result (Tree × Tree) Tree) (name : List ℕ) (old : Fields) (new : Fields × Tree) → Allows (inner then with_own name old) (Ok tt)
    → (inner then put_own name old) ≡ Ok new → (inner then with_own name old) ≡ Ok new
own_made (Ok n) name old new a e = made_allowed (within_limits (fields (with_field name n.0 old))) (with_field name n.0 old, n.1) new a (cc)
own_made (Err t) name old new a e = absurd (cc)

-- Fields are those of their record.
pub fields_same : (ps qs : Fields) → fields ps ≡ fields qs → ps ≡ qs
fields_same ps qs e = let same : pairs_of ps ≡ pairs_of qs = cc in sym (fields_back ps) ∙ ap fields_of same ∙ fields_back qs

-- The object's fields are refused where the changed field, or the record with it, is.
pub own_inner_refused : (inner : Result (Tree × Tree) Tree) (name : List ℕ) (ps : Fields) → IsErr (inner then limited) → IsErr (inner then with_own name ps)
own_inner_refused (Ok n) name ps h =
    then_thrown (within_limits (fields (with_field name n.0 ps))) (λ u. Ok (with_field name n.0 ps, n.1))
    (refused_grown n.0 (fields ps) (fields (with_field name n.0 ps)) (grown_field name n.0 ps) (thrown_before (within_limits n.0) n h))
own_inner_refused (Err e) name ps h = refl

pub own_put_refused : (inner : Result (Tree × Tree) Tree) (new : Tree × Tree) (name : List ℕ) (ps : Fields) → inner ≡ Ok new
    → IsErr (within_limits (fields (with_field name new.0 ps))) → IsErr (inner then with_own name ps)
own_put_refused inner new name ps made h =
    subst (λ o. IsErr (o then with_own name ps)) (sym made)
    (then_thrown (within_limits (fields (with_field name new.0 ps))) (λ u. Ok (with_field name new.0 ps, new.1)) h)

abbrev beside : Tree → Fields → Result (Fields × Tree) Tree
beside given ps = Ok (ps, given)

pub own_put : (inner : Result (Tree × Tree) Tree) (t given : Tree) (name : List ℕ) (old new : Fields) → inner ≡ Ok (t, given)
    → with_field name t old ≡ new → (inner then put_own name old) ≡ Ok (new, given)
own_put inner t given name old new made put = ap (λ o. o then put_own name old) made ∙ ap (beside given) put
