-- The parts of lists and records.
use Rattle.std.proofs.Common.{◌≡◌, ℕ, ◌+◌, ◌≤◌, Bool, List, [], ◌∷◌, map, take, length, is_some, refl, sym, ap, ◌∙◌, subst, inl, inr, arith}
use Rattle.std.specs.List.{list_any, position_from}
use Rattle.std.proofs.lemmas.Bool.{cases_Bool}
use Rattle.std.proofs.lemmas.List.{take_all, length-map}
use Rattle.do_value.specs.Limits.{most_bytes}
use Rattle.do_value.specs.Tree.{Tree, text, trees_of, pairs_of, items, total_size}
use Rattle.do_value.specs.Sound.{IsValue}
use Rattle.do_value.specs.Seen.{tree_of, trees_in, pairs_in}
use Rattle.do_value.specs.declared.value.Value.{Value}
use Rattle.do_value.proofs.Started.{one-le_size}
use Rattle.script_ops.specs.Lists.{items_of, fields_of}

-- the items of a list, and the pairs of a record, are those that it was made of
pub items_back : (ts : List Tree) → items_of (trees_of ts) ≡ ts
items_back [] = refl
items_back (t ∷ ts) = ap (λ us. t ∷ us) (items_back ts)

pub fields_back : (ps : List (List ℕ × Tree)) → fields_of (pairs_of ps) ≡ ps
fields_back [] = refl
fields_back (p ∷ ps) = ap (λ qs. p ∷ qs) (fields_back ps)

-- a list has no more items than bytes
length_le : (vs : List Value) → length vs ≤ total_size (trees_of (trees_in vs))
length_le [] = omega arith
length_le (v ∷ vs) = omega (arith, one-le_size (tree_of v), length_le vs)

pub count_le : (vs : List Value) (ts : List Tree) → trees_in vs ≡ ts → IsValue (items ts) → length vs ≤ most_bytes
count_le vs ts same value =
    let small : total_size (trees_of (trees_in vs)) ≤ most_bytes = subst (λ us. total_size (trees_of us) ≤ most_bytes) (sym same) (omega (arith, value.small)) in
    omega (arith, length_le vs, small)

-- an item passes the test where there is a first that does
pub any_is : {X : Type 0} (test : X → Bool) (i : ℕ) (xs : List X) → list_any test xs ≡ is_some (position_from test i xs)
any_is test i [] = refl
any_is test i (x ∷ xs) = elim (cases_Bool (test x)) [
  | inl passed ↦ rw passed refl
  | inr failed ↦ rw failed (any_is test (i + 1) xs)
]

-- the texts of the keys that were walked are the keys
keys_in : (vs : List (List ℕ × Value)) → map (λ (p : List ℕ × Value). text p.0) vs ≡ map (λ (p : List ℕ × Tree). text p.0) (pairs_in vs)
keys_in [] = refl
keys_in (v ∷ vs) = ap (λ ts. text v.0 ∷ ts) (keys_in vs)

pub keys_walked : (ps : List (List ℕ × Tree)) (vs : List (List ℕ × Value)) (i : ℕ) (ts : List Tree) → pairs_in vs ≡ ps → length vs ≤ i
    → ts ≡ map (λ (p : List ℕ × Value). text p.0) (take i vs) → ts ≡ map (λ (p : List ℕ × Tree). text p.0) (fields_of (pairs_of ps))
keys_walked ps vs i ts same le walked =
    walked ∙ ap (map (λ (p : List ℕ × Value). text p.0)) (take_all i vs le) ∙ keys_in vs
    ∙ ap (map (λ (p : List ℕ × Tree). text p.0)) (same ∙ sym (fields_back ps))

-- how many items a list has
pub count_is : (vs : List Value) (ts : List Tree) → trees_in vs ≡ ts → length (items_of (trees_of ts)) ≡ length vs
count_is vs ts same = ap length (items_back ts ∙ sym same) ∙ length-map vs tree_of
