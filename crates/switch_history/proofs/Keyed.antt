-- Lists that name the same items, each once, weigh the same.
use Rattle.std.proofs.Common.{◌≡◌, ◌≤◌, ◌∙◌, inl, inr, ℕ, ◌+◌, List, [], ◌∷◌, ◌++◌, length, cond, true, false, refl, sym, ap, subst, arith, true≢false, length-append}
use Rattle.std.specs.Prelude.{Bool, not}
use Rattle.std.specs.List.{Contains, filter, sum_by}
use Rattle.std.proofs.lemmas.List.Elements.{Contains-append_cases, Contains-append_left, Contains-append_right, Contains-push, filter-append}
use Rattle.std.proofs.lemmas.List.Sums.{sum_by-cons}
use Rattle.switch_history.proofs.Slots.{nothing_in, one_in}

-- ---- lists of the same items
module _ {X : Type 0} (like : X → X → Bool) (itself : (x : X) → like x x ≡ true) (weighs : X → ℕ) where
  -- How many items are like this one.
  abbrev pub alike : X → List X → ℕ
  alike x xs = length (filter (like x) xs)

  alike-append : (x : X) (xs ys : List X) → alike x (xs ++ ys) ≡ alike x xs + alike x ys
  alike-append x xs ys = ap (λ (zs : List X). length zs) (filter-append (like x) xs ys) ∙ length-append (filter (like x) xs) (filter (like x) ys)

  -- an item of a list is like itself
  one_alike : (x : X) (xs : List X) → Contains xs x → 1 ≤ alike x xs
  one_alike x [] is = nothing_in x is
  one_alike x (y ∷ xs) is =
      elim (Contains-append_cases (y ∷ []) xs x is) [
        | inl here ↦ omega (arith, alike-append x (y ∷ []) xs, ap (λ (b : Bool). length (cond b (y ∷ []) [])) (subst (λ (z : X). like x z ≡ true) (sym (one_in y x here)) (itself x)))
        | inr later ↦ omega (arith, alike-append x (y ∷ []) xs, one_alike x xs later)
      ]

  -- The items that are like one, and the others.
  abbrev others : X → List X → List X
  others y xs = filter (λ x. not (like y x)) xs

  -- what stands among the others stands in the list, and isn't like that one
  others_have : (y : X) (xs : List X) (x : X) → Contains (others y xs) x → Contains xs x × (like y x ≡ false)
  others_have y [] x is = nothing_in x is
  others_have y (z ∷ xs) x is = by_like (like y z) refl is (others_have y xs x)
    where
      further : Contains (others y xs) x → (Contains (others y xs) x → Contains xs x × (like y x ≡ false)) → Contains (z ∷ xs) x × (like y x ≡ false)
      further there rest = let h = rest there in (Contains-append_right (z ∷ []) xs x h.0, h.1)

      by_like : (b : Bool) → like y z ≡ b → Contains (cond (not b) (z ∷ others y xs) (others y xs)) x → (Contains (others y xs) x → Contains xs x × (like y x ≡ false))
          → Contains (z ∷ xs) x × (like y x ≡ false)
      by_like true same there rest = further there rest
      by_like false other there rest =
          elim (Contains-append_cases (z ∷ []) (others y xs) x there) [
            | inl here ↦ (Contains-append_left (z ∷ []) xs x here, subst (λ (v : X). like y v ≡ false) (one_in z x here) other)
            | inr later ↦ further later rest
          ]

  -- what stands among those like it stands in the list, and is like it
  likes_have : (y : X) (xs : List X) (x : X) → Contains (filter (like y) xs) x → Contains xs x × (like y x ≡ true)
  likes_have y [] x is = nothing_in x is
  likes_have y (z ∷ xs) x is = by_like (like y z) refl is (likes_have y xs x)
    where
      further : Contains (filter (like y) xs) x → (Contains (filter (like y) xs) x → Contains xs x × (like y x ≡ true)) → Contains (z ∷ xs) x × (like y x ≡ true)
      further there rest = let h = rest there in (Contains-append_right (z ∷ []) xs x h.0, h.1)

      by_like : (b : Bool) → like y z ≡ b → Contains (cond b (z ∷ filter (like y) xs) (filter (like y) xs)) x
          → (Contains (filter (like y) xs) x → Contains xs x × (like y x ≡ true)) → Contains (z ∷ xs) x × (like y x ≡ true)
      by_like false other there rest = further there rest
      by_like true same there rest =
          elim (Contains-append_cases (z ∷ []) (filter (like y) xs) x there) [
            | inl here ↦ (Contains-append_left (z ∷ []) xs x here, subst (λ (v : X). like y v ≡ true) (one_in z x here) same)
            | inr later ↦ further later rest
          ]

  -- both together are the list
  both_alike : (y x : X) (xs : List X) → alike x (filter (like y) xs) + alike x (others y xs) ≡ alike x xs
  both_alike y x [] = refl
  both_alike y x (z ∷ xs) = by_like (like y z) (both_alike y x xs)
    where
      by_like : (b : Bool) → alike x (filter (like y) xs) + alike x (others y xs) ≡ alike x xs
          → alike x (cond b (z ∷ filter (like y) xs) (filter (like y) xs)) + alike x (cond (not b) (z ∷ others y xs) (others y xs)) ≡ alike x (z ∷ xs)
      by_like true rest = omega (arith, rest, alike-append x (z ∷ []) (filter (like y) xs), alike-append x (z ∷ []) xs)
      by_like false rest = omega (arith, rest, alike-append x (z ∷ []) (others y xs), alike-append x (z ∷ []) xs)

  both_weigh : (y : X) (xs : List X) → sum_by weighs (filter (like y) xs) + sum_by weighs (others y xs) ≡ sum_by weighs xs
  both_weigh y [] = refl
  both_weigh y (z ∷ xs) = by_like (like y z) (both_weigh y xs)
    where
      by_like : (b : Bool) → sum_by weighs (filter (like y) xs) + sum_by weighs (others y xs) ≡ sum_by weighs xs
          → sum_by weighs (cond b (z ∷ filter (like y) xs) (filter (like y) xs)) + sum_by weighs (cond (not b) (z ∷ others y xs) (others y xs)) ≡ sum_by weighs (z ∷ xs)
      by_like true rest = omega (arith, rest, sum_by-cons weighs z (filter (like y) xs), sum_by-cons weighs z xs)
      by_like false rest = omega (arith, rest, sum_by-cons weighs z (others y xs), sum_by-cons weighs z xs)

  -- a list of one item
  only : (xs : List X) → length xs ≡ 1 → (x : X) × (xs ≡ x ∷ [])
  only [] one = absurd (omega (arith, one))
  only (x ∷ []) one = (x, refl)
  only (x ∷ y ∷ xs) one = absurd (omega (arith, one))

  -- a list of which nothing stands anywhere
  is_none : (xs : List X) → ((x : X) → Contains xs x → ⊥) → xs ≡ []
  is_none [] none = refl
  is_none (x ∷ xs) none = absurd (none x (Contains-append_left (x ∷ []) xs x (Contains-push [] x)))

  -- lists that name the same items, each once, weigh the same
  pub same_weigh : (ys xs : List X) → ((x : X) → alike x ys ≤ 1) → ((x : X) → alike x xs ≡ alike x ys) → ((x : X) → Contains xs x → Contains ys x)
      → sum_by weighs xs ≡ sum_by weighs ys
  same_weigh [] xs once same within = ap (sum_by weighs) (is_none xs (λ x is. nothing_in x (within x is)))
  same_weigh (y ∷ ys) xs once same within =
      omega (
        arith,
        ap (sum_by weighs) is_one,
        sum_by-cons weighs y [],
        sum_by-cons weighs y ys,
        both_weigh y xs,
        same_weigh ys (others y xs) (λ x. omega (arith, once x, alike-append x (y ∷ []) ys)) rest_same rest_within,
      )
    where
      itself_alike : alike y (y ∷ []) ≡ 1
      itself_alike = ap (λ (b : Bool). length (cond b (y ∷ []) [])) (itself y)

      none_later : alike y ys ≡ 0
      none_later = omega (arith, once y, alike-append y (y ∷ []) ys, itself_alike)

      found : (x : X) × (filter (like y) xs ≡ x ∷ [])
      found = only (filter (like y) xs) (omega (arith, same y, alike-append y (y ∷ []) ys, itself_alike, none_later))

      is_first : found.0 ≡ y
      is_first =
          let there = likes_have y xs found.0 (subst (λ (zs : List X). Contains zs found.0) (sym found.1) (Contains-push [] found.0)) in
          elim (Contains-append_cases (y ∷ []) ys found.0 (within found.0 there.0)) [
            | inl here ↦ sym (one_in y found.0 here)
            | inr later ↦ absurd (not_later found.0 there.1 later)
          ]
        where
          not_later : (x : X) → like y x ≡ true → Contains ys x → ⊥
          not_later x same_as later = by_list ys later none_later
            where
              by_list : (zs : List X) → Contains zs x → alike y zs ≡ 0 → ⊥
              by_list [] there none = nothing_in x there
              by_list (z ∷ zs) there none =
                  elim (Contains-append_cases (z ∷ []) zs x there) [
                    | inl here ↦ omega (
                      arith,
                      none,
                      alike-append y (z ∷ []) zs,
                      ap (λ (b : Bool). length (cond b (z ∷ []) [])) (subst (λ (v : X). like y v ≡ true) (sym (one_in z x here)) same_as),
                    )
                    | inr further ↦ by_list zs further (omega (arith, none, alike-append y (z ∷ []) zs))
                  ]

      is_one : filter (like y) xs ≡ y ∷ []
      is_one = found.1 ∙ ap (λ (x : X). x ∷ []) is_first

      rest_same : (x : X) → alike x (others y xs) ≡ alike x ys
      rest_same x = omega (arith, same x, both_alike y x xs, ap (alike x) is_one, alike-append x (y ∷ []) ys)

      rest_within : (x : X) → Contains (others y xs) x → Contains ys x
      rest_within x is =
          let there = others_have y xs x is in
          elim (Contains-append_cases (y ∷ []) ys x (within x there.0)) [
            | inl here ↦ absurd (true≢false (sym (itself y) ∙ subst (λ (v : X). like y v ≡ false) (sym (one_in y x here)) there.1))
            | inr later ↦ later
          ]
