-- Records of which one field is written.
use Rattle.std.proofs.Common.{◌≡◌, ℕ, ◌+◌, ◌≤◌, true, List, [], ◌∷◌, length, Some, None, refl, ap, ◌∙◌, inl, inr, arith}
use Rattle.std.proofs.lemmas.Bool.{cases_Bool}
use Rattle.std.specs.Ordering.{nat_cmp, is_eq}
use Rattle.std.specs.Str.{bytes_eq}
use Rattle.std.specs.declared.cmp.Ordering.{Ordering}
use Rattle.std.specs.declared.cmp.Ordering.TheVariants.{Less, Equal, Greater}
use Rattle.std.specs.Cmp.Lexicographic.{slice_cmp}
use Rattle.std.proofs.lemmas.Map.Text.{is_eq-slice_cmp}
use Rattle.std.proofs.lemmas.Slice.Eq.{bytes_eq-Decides}
use Rattle.do_value.specs.Changed.{put_pair}
use Rattle.do_value.specs.Keyed.{by_order, key_cmp, value_at}
use Rattle.do_value.specs.Sound.{IsBelow, ArePairsSound}
use Rattle.do_value.specs.Tree.{Tree, pairs_of, fields, size_of, total_pair_size, depth_of, most_pair_depth}
use Rattle.do_value.proofs.ChangedPairs.{below_all}
use Rattle.do_value.proofs.WithPair.{by_order_each}
use Rattle.do_value.proofs.Placed.{same_if_equal, other_if_less, other_if_greater}
use Rattle.script_mean.specs.Places.{with_field}
use Rattle.script_mean.specs.Task.{Fields}
use Rattle.script_places.proofs.Grown.{IsGrown}

-- Writing a field is putting its pair.
pub with_is_put : (name : List ℕ) (t : Tree) (ps : Fields) → with_field name t ps ≡ put_pair (name, t) ps
with_is_put name t [] = refl
with_is_put name t (p ∷ ps) = ap (λ qs. by_order (key_cmp (name, t) p) ((name, t) ∷ p ∷ ps) ((name, t) ∷ ps) (p ∷ qs)) (with_is_put name t ps)

-- A key compares with itself as equal.
equal_if : (o : Ordering) → is_eq o ≡ true → o ≡ Equal
equal_if Less h = absurd (cc)
equal_if Equal h = refl
equal_if Greater h = absurd (cc)

same_key : (k : List ℕ) → slice_cmp nat_cmp k k ≡ Equal
same_key k = equal_if (slice_cmp nat_cmp k k) (is_eq-slice_cmp k k ∙ (bytes_eq-Decides k k).1 refl)

-- A field that is written twice has the later value.
twice_at : (name : List ℕ) (u t : Tree) (p : List ℕ × Tree) (ps : Fields) (o : Ordering) → slice_cmp nat_cmp name p.0 ≡ o
    → with_field name t (put_pair (name, u) ps) ≡ with_field name t ps → with_field name t (put_pair (name, u) (p ∷ ps)) ≡ with_field name t (p ∷ ps)
twice_at name u t p ps Less e h = rw (e, same_key name) refl
twice_at name u t p ps Equal e h = rw (e, same_key name) refl
twice_at name u t p ps Greater e h = rw (e, e) (ap (λ qs. p ∷ qs) h)

pub twice : (name : List ℕ) (u t : Tree) (ps : Fields) → with_field name t (put_pair (name, u) ps) ≡ with_field name t ps
twice name u t [] = rw (same_key name) refl
twice name u t (p ∷ ps) = twice_at name u t p ps (slice_cmp nat_cmp name p.0) refl (twice name u t ps)

-- Pairs above a key don't have it.
absent : (k : List ℕ) (ps : Fields) → IsBelow k (pairs_of ps) → value_at k ps ≡ None
absent k [] h = refl
absent k (p ∷ ps) h = rw (other_if_less k p.0 h.0) (absent k ps h.1)

-- How large a record is with another value of a field,
over_at : (name : List ℕ) (t old : Tree) (p : List ℕ × Tree) (ps : Fields) (o : Ordering) → slice_cmp nat_cmp name p.0 ≡ o → ArePairsSound (pairs_of (p ∷ ps))
    → value_at name (p ∷ ps) ≡ Some old
    → (value_at name ps ≡ Some old → total_pair_size (pairs_of (with_field name t ps)) + size_of old ≡ total_pair_size (pairs_of ps) + size_of t)
    → total_pair_size (pairs_of (with_field name t (p ∷ ps))) + size_of old ≡ total_pair_size (pairs_of (p ∷ ps)) + size_of t
over_at name t old p ps Less e sound is h =
    let none : value_at name (p ∷ ps) ≡ None = absent name (p ∷ ps) (e, below_all name p.0 ps e sound.1) in absurd (cc)
over_at name t old p ps Equal e sound is h =
    let key : name ≡ p.0 = same_if_equal name p.0 e in
    let found : bytes_eq name p.0 ≡ true = (bytes_eq-Decides name p.0).1 key in
    let here : Some p.1 ≡ Some old = rw found at is in
    let value : p.1 ≡ old = cc in
    rw e (omega (arith, ap (λ (k : List ℕ). length k) key, ap size_of value))
over_at name t old p ps Greater e sound is h =
    let there : value_at name ps ≡ Some old = rw (other_if_greater name p.0 e) at is in
    rw e (omega (arith, h there))

pub size_over : (name : List ℕ) (t old : Tree) (ps : Fields) → ArePairsSound (pairs_of ps) → value_at name ps ≡ Some old
    → total_pair_size (pairs_of (with_field name t ps)) + size_of old ≡ total_pair_size (pairs_of ps) + size_of t
size_over name t old [] sound is = absurd (cc)
size_over name t old (p ∷ ps) sound is = over_at name t old p ps (slice_cmp nat_cmp name p.0) refl sound is (size_over name t old ps sound.3)

-- and with a new field.
new_at : (name : List ℕ) (t : Tree) (p : List ℕ × Tree) (ps : Fields) (o : Ordering) → slice_cmp nat_cmp name p.0 ≡ o → value_at name (p ∷ ps) ≡ None
    → (value_at name ps ≡ None → total_pair_size (pairs_of (with_field name t ps)) ≡ total_pair_size (pairs_of ps) + 4 + length name + size_of t)
    → total_pair_size (pairs_of (with_field name t (p ∷ ps))) ≡ total_pair_size (pairs_of (p ∷ ps)) + 4 + length name + size_of t
new_at name t p ps Less e is h = rw e (omega arith)
new_at name t p ps Equal e is h =
    let found : bytes_eq name p.0 ≡ true = (bytes_eq-Decides name p.0).1 (same_if_equal name p.0 e) in
    let here : Some p.1 ≡ None = rw found at is in
    absurd (cc)
new_at name t p ps Greater e is h =
    let there : value_at name ps ≡ None = rw (other_if_greater name p.0 e) at is in
    rw e (omega (arith, h there))

pub size_new : (name : List ℕ) (t : Tree) (ps : Fields) → value_at name ps ≡ None
    → total_pair_size (pairs_of (with_field name t ps)) ≡ total_pair_size (pairs_of ps) + 4 + length name + size_of t
size_new name t [] is = omega arith
size_new name t (p ∷ ps) is = new_at name t p ps (slice_cmp nat_cmp name p.0) refl is (size_new name t ps)

-- A field is no larger and less deep than its record.
pub size_field : (name : List ℕ) (old : Tree) (ps : Fields) → value_at name ps ≡ Some old → size_of old ≤ total_pair_size (pairs_of ps)
size_field name old [] is = absurd (cc)
size_field name old (p ∷ ps) is = elim (cases_Bool (bytes_eq name p.0)) [
  | inl found ↦ let here : Some p.1 ≡ Some old = rw found at is in let value : p.1 ≡ old = cc in omega (arith, ap size_of value)
  | inr other ↦ let there : value_at name ps ≡ Some old = rw other at is in omega (arith, size_field name old ps there)
]

pub depth_field : (name : List ℕ) (old : Tree) (ps : Fields) → value_at name ps ≡ Some old → depth_of old ≤ most_pair_depth ps
depth_field name old [] is = absurd (cc)
depth_field name old (p ∷ ps) is = elim (cases_Bool (bytes_eq name p.0)) [
  | inl found ↦ let here : Some p.1 ≡ Some old = rw found at is in let value : p.1 ≡ old = cc in omega (arith, ap depth_of value)
  | inr other ↦ let there : value_at name ps ≡ Some old = rw other at is in omega (arith, depth_field name old ps there)
]

-- A record with a field is deeper than the field, no deeper than it and the record before, and no smaller than it.
pub grown_field : (name : List ℕ) (t : Tree) (ps : Fields) → IsGrown t (fields ps) (fields (with_field name t ps))
grown_field name t [] = record { deep = omega arith; shallow = omega arith; large = omega arith }
grown_field name t (p ∷ ps) =
    let rest = grown_field name t ps in
    by_order_each (λ qs. IsGrown t (fields (p ∷ ps)) (fields qs)) (slice_cmp nat_cmp name p.0) ((name, t) ∷ p ∷ ps) ((name, t) ∷ ps) (p ∷ with_field name t ps)
    (λ o. record { deep = omega arith; shallow = omega arith; large = omega arith })
    (λ o. record { deep = omega arith; shallow = omega arith; large = omega arith })
    (λ o. record { deep = omega (arith, rest.deep); shallow = omega (arith, rest.shallow); large = omega (arith, rest.large) })
