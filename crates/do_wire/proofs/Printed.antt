-- The JSON of the first parts of a list or of a record, part by part.
use Rattle.std.proofs.Common.{◌≡◌, ℕ, zero, suc, ◌<◌, List, [], ◌∷◌, map, length, get_or, take, refl, sym, ap, ◌∙◌, Less, Greater, arith}
use Rattle.std.proofs.lemmas.Cmp.{nat_list_cmp_total}
use Rattle.std.specs.Ordering.{nat_cmp, ordering_reverse}
use Rattle.std.specs.Cmp.Lexicographic.{slice_cmp}
use Rattle.std.specs.List.{AllByRecursion}
use Rattle.std.specs.List.Sorted.{IsStrictlySortedBy}
use Rattle.serde_json.specs.Data.{Data, put, item, member}
use Rattle.serde_json.specs.View as view
use Rattle.do_value.specs.Tree.{Tree, undefined, null, boolean, number, text, list, rec, Pairs, no_pairs, pair, trees_of, pairs_of}
use Rattle.do_value.specs.Keyed.{key_cmp, IsAscending}
use Rattle.do_value.specs.Seen.{tree_of, trees_in, pairs_in, pair_of}
use Rattle.do_value.specs.declared.value.Value.{Value}
use Rattle.do_wire.specs.Json.{json_of, items_of, members_of}

-- a list's JSON has the JSON of each part
pub items_of-trees_in : (vs : List Value) → view.items_of (map (λ v. json_of (tree_of v)) vs) ≡ items_of (trees_of (trees_in vs))
items_of-trees_in [] = refl
items_of-trees_in (v ∷ vs) = ap (item (json_of (tree_of v))) (items_of-trees_in vs)

-- a pair whose value is not undefined is kept
pub members_of-kept : (k : List ℕ) (t : Tree) (ps : Pairs) → (t ≡ undefined → ⊥) → members_of (pair k t ps) ≡ member k (json_of t) (members_of ps)
members_of-kept k undefined ps h = absurd (h refl)
members_of-kept k null ps h = refl
members_of-kept k (boolean b) ps h = refl
members_of-kept k (number z) ps h = refl
members_of-kept k (text bs) ps h = refl
members_of-kept k (list ts) ps h = refl
members_of-kept k (rec qs) ps h = refl

-- a pair in front changes nothing for those after it
members_of-front : (k : List ℕ) (t : Tree) (ps qs : Pairs) → members_of ps ≡ members_of qs → members_of (pair k t ps) ≡ members_of (pair k t qs)
members_of-front k undefined ps qs e = e
members_of-front k null ps qs e = cc
members_of-front k (boolean b) ps qs e = cc
members_of-front k (number z) ps qs e = cc
members_of-front k (text bs) ps qs e = cc
members_of-front k (list ts) ps qs e = cc
members_of-front k (rec rs) ps qs e = cc

-- a key that is above the first goes among those after it
put_past : (k l : List ℕ) (t : Tree) (d : Data) (ps qs : Pairs) → slice_cmp nat_cmp k l ≡ Greater → put k d (members_of ps) ≡ members_of qs
    → put k d (members_of (pair l t ps)) ≡ members_of (pair l t qs)
put_past k l undefined d ps qs above e = e
put_past k l null d ps qs above e = rw above (cc)
put_past k l (boolean b) d ps qs above e = rw above (cc)
put_past k l (number z) d ps qs above e = rw above (cc)
put_past k l (text bs) d ps qs above e = rw above (cc)
put_past k l (list ts) d ps qs above e = rw above (cc)
put_past k l (rec rs) d ps qs above e = rw above (cc)

-- a key that is below all those of a list is below the one at each place
below_each : (p : List ℕ × Tree) (vs : List (List ℕ × Value)) (i : ℕ) (x : List ℕ × Value) → i < length vs
    → AllByRecursion (λ q. key_cmp p q ≡ Less) (pairs_in vs) → slice_cmp nat_cmp p.0 (get_or vs i x).0 ≡ Less
below_each p [] i x lt h = absurd (omega arith)
below_each p (v ∷ vs) zero x lt h = h.0
below_each p (v ∷ vs) (suc i) x lt h = below_each p vs i x (omega arith) h.1

-- the member of the next pair is put last
pub put_next : (vs : List (List ℕ × Value)) (i : ℕ) (x : List ℕ × Value) → i < length vs → IsAscending (pairs_in vs) → (tree_of (get_or vs i x).1 ≡ undefined → ⊥)
    → put (get_or vs i x).0 (json_of (tree_of (get_or vs i x).1)) (members_of (pairs_of (pairs_in (take i vs)))) ≡ members_of (pairs_of (pairs_in (take (suc i) vs)))
unfolding IsStrictlySortedBy
put_next [] i x lt h d = absurd (omega arith)
put_next (v ∷ vs) zero x lt h d = sym (members_of-kept v.0 (tree_of v.1) no_pairs d)
put_next (v ∷ vs) (suc i) x lt h d =
    let k = (get_or vs i x).0 in
    let above : slice_cmp nat_cmp k v.0 ≡ Greater = nat_list_cmp_total.antisymm k v.0 ∙ ap ordering_reverse (below_each (pair_of v) vs i x (omega arith) h.0) in
    put_past k v.0 (tree_of v.1) _ _ _ above (put_next vs i x (omega arith) h.1 d)

-- and a pair whose value is undefined adds nothing
pub skip_next : (vs : List (List ℕ × Value)) (i : ℕ) (x : List ℕ × Value) → i < length vs → tree_of (get_or vs i x).1 ≡ undefined
    → members_of (pairs_of (pairs_in (take i vs))) ≡ members_of (pairs_of (pairs_in (take (suc i) vs)))
skip_next [] i x lt u = absurd (omega arith)
skip_next (v ∷ vs) zero x lt u = sym (ap (λ t. members_of (pair v.0 t no_pairs)) u)
skip_next (v ∷ vs) (suc i) x lt u = members_of-front v.0 (tree_of v.1) _ _ (skip_next vs i x (omega arith) u)
