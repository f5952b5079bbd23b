-- The requests that items of slots name, each with its slot.
use Rattle.std.proofs.Common.{◌≡◌, ◌∙◌, inl, inr, ℕ, ◌+◌, ℤ, List, [], ◌∷◌, ◌++◌, length, cond, true, false, refl, sym, ap, subst, arith, length-append}
use Rattle.std.specs.Prelude.{Bool, ◌==◌, ◌&&◌}
use Rattle.std.specs.List.{Contains, filter, flat_map, sum_by}
use Rattle.std.proofs.lemmas.Bool.{and_from}
use Rattle.std.proofs.lemmas.List.Elements.{Contains-append_cases, Contains-append_left, Contains-append_right, Contains-push, filter-append}
use Rattle.std.proofs.lemmas.List.Sums.{sum_by-append, sum_by-cons}
use Rattle.timeline.specs.declared.caller.Caller.{Caller}
use Rattle.timeline.specs.declared.caller.Caller.TheVariants as from
use Rattle.mailbox.specs.Posting.{of_slot}
use Rattle.object_messages.specs.Naming.{times}
use Rattle.object_messages.proofs.Counts.{times-append}
use Rattle.switch_history.proofs.Balanced.{caller_weighs}
use Rattle.switch_history.proofs.Slots.{is_own, own, nothing_in, one_in}

-- A request of a slot: the slot, its line, and the number that its sender gave it. Two are alike by slot and line.
abbrev pub Request : Type 0
Request = ℕ × ℕ × ℤ

abbrev pub like : Request → Request → Bool
like a b = a.0 == b.0 && a.1 == b.1

pub like_itself : (a : Request) → like a a ≡ true
like_itself a = and_from (a.0 == a.0) (a.1 == a.1) (is_own a.0) (is_own a.1)

-- A caller's, and those that an item of a slot names.
abbrev of_caller : ℕ → Caller → List Request
of_caller slot (from.Request line number) = (slot, line, number) ∷ []
of_caller slot (from.Object other incarnation number) = []

abbrev many_alike : Request → List Request → ℕ
many_alike a requests = length (filter (like a) requests)

alike-append : (a : Request) (xs ys : List Request) → many_alike a (xs ++ ys) ≡ many_alike a xs + many_alike a ys
alike-append a xs ys = ap (λ (zs : List Request). length zs) (filter-append (like a) xs ys) ∙ length-append (filter (like a) xs) (filter (like a) ys)

-- those of a slot's callers are as many as stand among them
own_callers : (slot line : ℕ) (number : ℤ) (callers : List Caller)
    → many_alike (slot, line, number) (flat_map (of_caller slot) callers) ≡ times (from.Request line number) callers
own_callers slot line number [] = refl
own_callers slot line number (from.Request other n ∷ callers) =
    omega (
      arith,
      own_callers slot line number callers,
      alike-append (slot, line, number) ((slot, other, n) ∷ []) (flat_map (of_caller slot) callers),
      times-append (from.Request line number) (from.Request other n ∷ []) callers,
      by_same (slot == slot) (line == other) (is_own slot),
    )
  where
    by_same : (own_slot same : Bool) → own_slot ≡ true
        → length {A = Request} (cond (own_slot && same) ((slot, other, n) ∷ []) []) ≡ length {A = Caller} (cond same (from.Request other n ∷ []) [])
    by_same true true is = refl
    by_same true false is = refl
    by_same false same is = absurd (cc)
own_callers slot line number (from.Object other incarnation n ∷ callers) = own_callers slot line number callers

-- another slot's are none
other_callers : (slot other line : ℕ) (number : ℤ) (callers : List Caller) → (other == slot) ≡ false
    → many_alike (slot, line, number) (flat_map (of_caller other) callers) ≡ 0
other_callers slot other line number [] away = refl
other_callers slot other line number (from.Request own_line n ∷ callers) away =
    omega (
      arith,
      other_callers slot other line number callers away,
      alike-append (slot, line, number) ((other, own_line, n) ∷ []) (flat_map (of_caller other) callers),
      by_same (slot == other) (line == own_line) refl,
    )
  where
    by_same : (own_slot same : Bool) → (slot == other) ≡ own_slot → length {A = Request} (cond (own_slot && same) ((other, own_line, n) ∷ []) []) ≡ 0
    by_same true same is = let here : slot ≡ other = own slot other is in absurd (cc (is_own other, subst (λ (k : ℕ). (other == k) ≡ false) here away))
    by_same false same is = refl
other_callers slot other line number (from.Object own_slot incarnation n ∷ callers) away = other_callers slot other line number callers away

-- which of them stand there
own_has : (slot line : ℕ) (number : ℤ) (callers : List Caller) → Contains callers (from.Request line number)
    → Contains (flat_map (of_caller slot) callers) (slot, line, number)
own_has slot line number [] is = nothing_in (from.Request line number) is
own_has slot line number (c ∷ callers) is =
    elim (Contains-append_cases (c ∷ []) callers (from.Request line number) is) [
      | inl here ↦ Contains-append_left (of_caller slot c) (flat_map (of_caller slot) callers) (slot, line, number)
          (subst (λ (d : Caller). Contains (of_caller slot d) (slot, line, number)) (sym (one_in c (from.Request line number) here)) (Contains-push [] (slot, line, number)))
      | inr later ↦ Contains-append_right (of_caller slot c) (flat_map (of_caller slot) callers) (slot, line, number) (own_has slot line number callers later)
    ]

-- and of what
has_own : (other slot line : ℕ) (number : ℤ) (callers : List Caller) → Contains (flat_map (of_caller other) callers) (slot, line, number)
    → (other ≡ slot) × Contains callers (from.Request line number)
has_own other slot line number [] is = nothing_in (slot, line, number) is
has_own other slot line number (from.Request own_line n ∷ callers) is =
    elim (Contains-append_cases ((other, own_line, n) ∷ []) (flat_map (of_caller other) callers) (slot, line, number) is) [
      | inl here ↦
          let same : (other, own_line, n) ≡ (slot, line, number) = one_in (other, own_line, n) (slot, line, number) here in (
            ap (λ (a : Request). a.0) same,
            subst (λ (a : Request). Contains (from.Request own_line n ∷ callers) (from.Request a.1 a.2)) same
                (Contains-append_left (from.Request own_line n ∷ []) callers (from.Request own_line n) (Contains-push [] (from.Request own_line n))),
          )
      | inr later ↦
          let rest = has_own other slot line number callers later in
          (rest.0, Contains-append_right (from.Request own_line n ∷ []) callers (from.Request line number) rest.1)
    ]
has_own other slot line number (from.Object own_slot incarnation n ∷ callers) is =
    let rest = has_own other slot line number callers is in
    (rest.0, Contains-append_right (from.Object own_slot incarnation n ∷ []) callers (from.Request line number) rest.1)

-- what they weigh
callers_weigh : (weighs : ℕ → ℤ → ℕ) (slot : ℕ) (callers : List Caller)
    → sum_by (λ (a : Request). weighs a.1 a.2) (flat_map (of_caller slot) callers) ≡ sum_by (caller_weighs weighs) callers
callers_weigh weighs slot [] = refl
callers_weigh weighs slot (from.Request line number ∷ callers) =
    omega (
      arith,
      callers_weigh weighs slot callers,
      sum_by-cons (λ (a : Request). weighs a.1 a.2) (slot, line, number) (flat_map (of_caller slot) callers),
      sum_by-cons (caller_weighs weighs) (from.Request line number) callers,
    )
callers_weigh weighs slot (from.Object other incarnation number ∷ callers) =
    omega (arith, callers_weigh weighs slot callers, sum_by-cons (caller_weighs weighs) (from.Object other incarnation number) callers)

module _ {X : Type 0} (named : X → List Caller) where
  -- The requests of items of slots.
  abbrev of_item : ℕ × X → List Request
  of_item item = flat_map (of_caller item.0) (named item.1)

  abbrev pub requests : List (ℕ × X) → List Request
  requests items = flat_map of_item items

  abbrev callers_of : ℕ → List (ℕ × X) → List Caller
  callers_of slot items = flat_map named (of_slot slot items)

  -- those like one are as many as stand among the callers of its slot
  pub requests_alike : (slot line : ℕ) (number : ℤ) (items : List (ℕ × X))
      → many_alike (slot, line, number) (requests items) ≡ times (from.Request line number) (callers_of slot items)
  requests_alike slot line number [] = refl
  requests_alike slot line number (item ∷ items) =
      alike-append (slot, line, number) (of_item item) (requests items) ∙ by_slot (item.0 == slot) refl (requests_alike slot line number items)
    where
      by_slot : (b : Bool) → (item.0 == slot) ≡ b → many_alike (slot, line, number) (requests items) ≡ times (from.Request line number) (callers_of slot items)
          → many_alike (slot, line, number) (of_item item) + many_alike (slot, line, number) (requests items)
          ≡ times (from.Request line number) (flat_map named (cond b (item.1 ∷ of_slot slot items) (of_slot slot items)))
      by_slot true here rest =
          omega (
            arith,
            rest,
            subst (λ (n : ℕ). many_alike (slot, line, number) (flat_map (of_caller n) (named item.1)) ≡ times (from.Request line number) (named item.1))
                (sym (own item.0 slot here)) (own_callers slot line number (named item.1)),
            times-append (from.Request line number) (named item.1) (callers_of slot items),
          )
      by_slot false away rest = omega (arith, rest, other_callers slot item.0 line number (named item.1) away)

  -- one stands there where its caller does,
  pub requests_have : (slot line : ℕ) (number : ℤ) (items : List (ℕ × X)) → Contains (callers_of slot items) (from.Request line number)
      → Contains (requests items) (slot, line, number)
  requests_have slot line number [] is = nothing_in (from.Request line number) is
  requests_have slot line number (item ∷ items) is = by_slot (item.0 == slot) refl is (requests_have slot line number items)
    where
      later : Contains (requests items) (slot, line, number) → Contains (requests (item ∷ items)) (slot, line, number)
      later there = Contains-append_right (of_item item) (requests items) (slot, line, number) there

      by_slot : (b : Bool) → (item.0 == slot) ≡ b → Contains (flat_map named (cond b (item.1 ∷ of_slot slot items) (of_slot slot items))) (from.Request line number)
          → (Contains (callers_of slot items) (from.Request line number) → Contains (requests items) (slot, line, number))
          → Contains (requests (item ∷ items)) (slot, line, number)
      by_slot true here there rest =
          elim (Contains-append_cases (named item.1) (callers_of slot items) (from.Request line number) there) [
            | inl first ↦ Contains-append_left (of_item item) (requests items) (slot, line, number)
                (subst (λ (n : ℕ). Contains (flat_map (of_caller n) (named item.1)) (slot, line, number)) (sym (own item.0 slot here))
                (own_has slot line number (named item.1) first))
            | inr further ↦ later (rest further)
          ]
      by_slot false away there rest = later (rest there)

  -- and the other way
  pub have_requests : (slot line : ℕ) (number : ℤ) (items : List (ℕ × X)) → Contains (requests items) (slot, line, number)
      → Contains (callers_of slot items) (from.Request line number)
  have_requests slot line number [] is = nothing_in (slot, line, number) is
  have_requests slot line number (item ∷ items) is =
      elim (Contains-append_cases (of_item item) (requests items) (slot, line, number) is) [
        | inl here ↦ first (item.0 == slot) refl (has_own item.0 slot line number (named item.1) here)
        | inr there ↦ later (item.0 == slot) (have_requests slot line number items there)
      ]
    where
      first : (b : Bool) → (item.0 == slot) ≡ b → (item.0 ≡ slot) × Contains (named item.1) (from.Request line number)
          → Contains (flat_map named (cond b (item.1 ∷ of_slot slot items) (of_slot slot items))) (from.Request line number)
      first true here has = Contains-append_left (named item.1) (callers_of slot items) (from.Request line number) has.1
      first false away has = absurd (cc (is_own slot, subst (λ (k : ℕ). (k == slot) ≡ false) has.0 away))

      later : (b : Bool) → Contains (callers_of slot items) (from.Request line number)
          → Contains (flat_map named (cond b (item.1 ∷ of_slot slot items) (of_slot slot items))) (from.Request line number)
      later true there = Contains-append_right (named item.1) (callers_of slot items) (from.Request line number) there
      later false there = there

  -- and they weigh what their callers do
  pub requests_weigh : (weighs : ℕ → ℤ → ℕ) (items : List (ℕ × X))
      → sum_by (λ (a : Request). weighs a.1 a.2) (requests items) ≡ sum_by (λ (item : ℕ × X). sum_by (caller_weighs weighs) (named item.1)) items
  requests_weigh weighs [] = refl
  requests_weigh weighs (item ∷ items) =
      omega (
        arith,
        requests_weigh weighs items,
        callers_weigh weighs item.0 (named item.1),
        sum_by-append (λ (a : Request). weighs a.1 a.2) (of_item item) (requests items),
        sum_by-cons (λ (i : ℕ × X). sum_by (caller_weighs weighs) (named i.1)) item items,
      )
