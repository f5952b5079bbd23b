-- Where objects stand, and which slots are free.
use Rattle.std.proofs.Common.{◌≡◌, ◌≢◌, ℕ, ◌<◌, inl, inr, true, false, length, get_or, set, Option, None, Some, refl, sym, ap, subst, ◌∙◌, true≢false, arith}
use Rattle.std.specs.Prelude.{is_none, is_some}
use Rattle.std.proofs.lemmas.Bool.{and_parts, and_from, false_from_ne_true, cases_lt, cases_eq}
use Rattle.std.proofs.lemmas.List.{get_or-set_same, get_or-set_other, get_or_past}
use Rattle.std.proofs.lemmas.List.Quantifiers.{position-Some}
use Rattle.std.proofs.lemmas.Slice.Eq.{bytes_eq-Decides}
use Rattle.storage_map.specs.Limits.{Object}
use Rattle.placement.specs.declared.answers.Placed.TheVariants.{Found, New}
use Rattle.placement.specs.Slots.{Slots, object_at, slot_of, least_free, with_object, place, place_by, moved, after, is_here, IsFree, IsOneEach}
use Rattle.placement.proofs.Positions.{position_is, position_none, fails_each}

-- ---- one place

-- an object stands in no empty slot
pub none≢some : {A : Type 0} {x : A} → None ≡ Some x → ⊥
none≢some e = true≢false (sym (ap is_some e))

-- where the object stands there is the object
pub here_is : (object : Object) (here : Option Object) → is_here object here ≡ true → here ≡ Some object
here_is object None h = absurd (true≢false (sym h))
here_is object (Some other) h =
    let parts = and_parts _ _ h in
    let class : object.0 ≡ other.0 = (bytes_eq-Decides object.0 other.0).0 parts.0 in
    let name : object.1 ≡ other.1 = (bytes_eq-Decides object.1 other.1).0 parts.1 in
    sym (λ i. Some (class i, name i))

pub stands_here : (object : Object) (here : Option Object) → here ≡ Some object → is_here object here ≡ true
stands_here object here e =
    subst (λ h. is_here object h ≡ true) (sym e) (and_from _ _ ((bytes_eq-Decides object.0 object.0).1 refl) ((bytes_eq-Decides object.1 object.1).1 refl))

pub not_here : (object : Object) (here : Option Object) → here ≢ Some object → is_here object here ≡ false
not_here object here other = false_from_ne_true _ (λ h. other (here_is object here h))

none_is : (here : Option Object) → is_none here ≡ true → here ≡ None
none_is None h = refl
none_is (Some object) h = absurd (true≢false (sym h))

pub some_is : (here : Option Object) → here ≢ None → is_none here ≡ false
some_is None some = absurd (some refl)
some_is (Some object) some = refl

-- ---- all places
module _ (slots : Slots) (slot : ℕ) (object : Object) where
  pub inside : object_at slots slot ≡ Some object → slot < length slots
  inside at = elim (cases_lt slot (length slots)) [ inl less ↦ less | inr past ↦ absurd (none≢some (sym (get_or_past slots slot None past) ∙ at)) ]

  -- the slot of an object is where it stands
  pub stands_there : slot_of slots object ≡ Some slot → object_at slots slot ≡ Some object
  stands_there found = here_is object (get_or slots slot None) (position-Some (is_here object) slots slot None found).1

  pub is_slot_of : IsOneEach slots → object_at slots slot ≡ Some object → slot_of slots object ≡ Some slot
  is_slot_of one at =
      position_is (is_here object) slots None slot (inside at)
      (λ k less. not_here object (get_or slots k None) (λ also. let same : k ≡ slot = one k slot object also at in omega arith))
      (stands_here object (get_or slots slot None) at)

  -- an object without a slot stands nowhere
  pub stands_nowhere : slot_of slots object ≡ None → object_at slots slot ≢ Some object
  stands_nowhere none at =
      true≢false (sym (stands_here object (get_or slots slot None) at) ∙ fails_each (is_here object) slots None none slot (inside at))

pub no_slot_of : (slots : Slots) (object : Object) → ((slot : ℕ) → object_at slots slot ≢ Some object) → slot_of slots object ≡ None
no_slot_of slots object nowhere = position_none (is_here object) slots None (λ k less. not_here object (get_or slots k None) (nowhere k))

-- ---- the least free slot
pub least_is_free : (slots : Slots) (slot : ℕ) → least_free slots ≡ Some slot → IsFree slots slot
least_is_free slots slot least =
    let first = position-Some is_none slots slot None least in
    record { there = first.0; empty = none_is (get_or slots slot None) first.1 }

pub lower_has_one : (slots : Slots) (slot other : ℕ) → least_free slots ≡ Some slot → other < slot → object_at slots other ≢ None
lower_has_one slots slot other least less empty =
    true≢false (sym (ap is_none empty) ∙ (position-Some is_none slots slot None least).2 other less)

pub each_has_one : (slots : Slots) (slot : ℕ) → least_free slots ≡ None → slot < length slots → object_at slots slot ≢ None
each_has_one slots slot none less empty = true≢false (sym (ap is_none empty) ∙ fails_each is_none slots None none slot less)

-- ---- one slot each
pub one_each_with : (slots : Slots) (slot : ℕ) (object : Object) → IsFree slots slot → slot_of slots object ≡ None → IsOneEach slots → IsOneEach (with_object slots slot object)
one_each_with slots slot object free none one a b o at_a at_b =
    elim (cases_eq a slot) [
      | inl here ↦ elim (cases_eq b slot) [
        | inl too ↦ here ∙ sym too
        | inr apart ↦ absurd (only b apart (at_b ∙ sym at_a ∙ at_slot a here))
      ]
      | inr away ↦ elim (cases_eq b slot) [
        | inl too ↦ absurd (only a away (at_a ∙ sym at_b ∙ at_slot b too))
        | inr apart ↦ one a b o (sym (get_or-set_other slots slot a (Some object) None away) ∙ at_a) (sym (get_or-set_other slots slot b (Some object) None apart) ∙ at_b)
      ]
    ]
  where
    at_slot : (c : ℕ) → c ≡ slot → object_at (with_object slots slot object) c ≡ Some object
    at_slot c e = ap (λ k. get_or (set slots slot (Some object)) k None) e ∙ get_or-set_same slots slot (Some object) None free.there

    only : (c : ℕ) → (c ≡ slot → ⊥) → object_at (with_object slots slot object) c ≡ Some object → ⊥
    only c apart at = stands_nowhere slots c object none (sym (get_or-set_other slots slot c (Some object) None apart) ∙ at)

pub one_each_after : (slots : Slots) (object : Object) → IsOneEach slots → IsOneEach (after slots object)
one_each_after slots object one = by (slot_of slots object) refl (least_free slots) refl
  where
    by : (own : Option ℕ) → slot_of slots object ≡ own → (free : Option ℕ) → least_free slots ≡ free → IsOneEach (moved slots object (place_by own free))
    by (Some slot) found free least = one
    by None none (Some slot) least = one_each_with slots slot object (least_is_free slots slot least) none one
    by None none None least = one

-- ---- where an object goes
module _ (slots : Slots) (object : Object) where
  pub place_found : (slot : ℕ) → slot_of slots object ≡ Some slot → place slots object ≡ Some (Found slot)
  place_found slot found = ap (λ own. place_by own (least_free slots)) found

  pub place_new : (slot : ℕ) → slot_of slots object ≡ None → least_free slots ≡ Some slot → place slots object ≡ Some (New slot)
  place_new slot none least = (λ i. place_by (none i) (least i))

  pub place_none : slot_of slots object ≡ None → least_free slots ≡ None → place slots object ≡ None
  place_none none least = (λ i. place_by (none i) (least i))

  pub after_found : (slot : ℕ) → slot_of slots object ≡ Some slot → after slots object ≡ slots
  after_found slot found = ap (moved slots object) (place_found slot found)

  pub after_new : (slot : ℕ) → slot_of slots object ≡ None → least_free slots ≡ Some slot → after slots object ≡ with_object slots slot object
  after_new slot none least = ap (moved slots object) (place_new slot none least)
