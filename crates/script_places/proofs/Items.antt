-- Lists of which one item is written.
use Rattle.std.proofs.Common.{◌≡◌, ℕ, zero, suc, ◌<◌, ◌≤◌, pos, set, length, List, [], ◌∷◌, ◌++◌, Some, None, Ok, Err, slice_get, refl, sym, ap, subst, ◌∙◌, inl, inr, arith}
use Rattle.std.proofs.lemmas.Bool.{cases_lt, lt-ltb, le-ltb, eq-eqb, ne_eqb}
use Rattle.std.proofs.lemmas.List.{length-set, set-set, set_past}
use Rattle.do_value.specs.Tree.{Tree, items, depth_of, most_depth}
use Rattle.do_value.proofs.Changed.{size_more, depth_more, depth_is}
use Rattle.script_mean.specs.Errors.{no_index}
use Rattle.script_mean.specs.Places.{with_item}
use Rattle.script_places.proofs.Grown.{IsGrown}

-- A list with the item at a place that it has.
pub with_in : (ts : List Tree) (i : ℕ) (t : Tree) → i < length ts → with_item ts (pos i) t ≡ Ok (items (set ts i t))
with_in ts i t lt = let within = lt-ltb i (length ts) lt in rw within refl

-- With an item behind the last, and with none past that place.
pub with_end : (ts : List Tree) (i : ℕ) (t : Tree) → i ≡ length ts → with_item ts (pos i) t ≡ Ok (items (ts ++ t ∷ []))
with_end ts i t end =
    let outside = le-ltb i (length ts) (omega arith) in
    let same = eq-eqb i (length ts) end in
    rw (outside, same) refl

pub with_none : (ts : List Tree) (i : ℕ) (t : Tree) → length ts < i → with_item ts (pos i) t ≡ Err no_index
with_none ts i t gap =
    let outside = le-ltb i (length ts) (omega arith) in
    let other = ne_eqb i (length ts) (λ (e : i ≡ length ts). omega arith) in
    rw (outside, other) refl

-- An item that is written twice has the later value; past the last item nothing is written.
pub twice : (ts : List Tree) (i : ℕ) (u t : Tree) → with_item (set ts i u) (pos i) t ≡ with_item ts (pos i) t
twice ts i u t = elim (cases_lt i (length ts)) [
  | inl lt ↦
      with_in (set ts i u) i t (omega (arith, length-set ts i u)) ∙ ap (λ us. Ok (items us)) (set-set ts i u t) ∙ sym (with_in ts i t lt)
  | inr past ↦ ap (λ us. with_item us (pos i) t) (set_past ts i u past)
]

-- Where no item is, the list has ended.
pub none_past : (ts : List Tree) (i : ℕ) → slice_get ts i ≡ None → length ts ≤ i
none_past [] i e = omega arith
none_past (u ∷ ts) zero e = absurd (cc)
none_past (u ∷ ts) (suc i) e = omega (arith, none_past ts i e)

-- An item is less deep than its list.
pub depth_item : (ts : List Tree) (i : ℕ) (old : Tree) → slice_get ts i ≡ Some old → depth_of old ≤ most_depth ts
depth_item ts i old e = omega (arith, depth_is ts i old e)

-- A list with an item is deeper than the item, no deeper than it and the list before, and no smaller than it.
grown_set : (ts : List Tree) (i : ℕ) (t : Tree) → i < length ts → IsGrown t (items ts) (items (set ts i t))
grown_set [] i t lt = absurd (omega arith)
grown_set (u ∷ ts) zero t lt = record { deep = omega arith; shallow = omega arith; large = omega arith }
grown_set (u ∷ ts) (suc i) t lt =
    let rest = grown_set ts i t (omega arith) in
    record { deep = omega (arith, rest.deep); shallow = omega (arith, rest.shallow); large = omega (arith, rest.large) }

pub grown_more : (ts : List Tree) (t : Tree) → IsGrown t (items ts) (items (ts ++ t ∷ []))
grown_more ts t = record {
  deep = omega (arith, depth_more ts t);
  shallow = omega (arith, depth_more ts t);
  large = omega (arith, size_more ts t);
}

pub grown_item : (ts : List Tree) (i : ℕ) (t whole : Tree) → with_item ts (pos i) t ≡ Ok whole → IsGrown t (items ts) whole
grown_item ts i t whole e = elim (cases_lt i (length ts)) [
  | inl lt ↦ let is : items (set ts i t) ≡ whole = (let made = with_in ts i t lt in cc) in subst (λ w. IsGrown t (items ts) w) is (grown_set ts i t lt)
  | inr past ↦ elim (cases_lt (length ts) i) [
    | inl gap ↦ absurd (let none = with_none ts i t gap in cc)
    | inr end ↦ let is : items (ts ++ t ∷ []) ≡ whole = (let made = with_end ts i t (omega arith) in cc) in subst (λ w. IsGrown t (items ts) w) is (grown_more ts t)
  ]
]
