-- What std sorts is what the definition orders.
use Rattle.std.proofs.Common.{◌≡◌, ◌<◌, ◌≤◌, ℕ, suc, inl, inr, List, [], ◌∷◌, map, length, get_or, cond, true, false, refl, sym, ap, subst, ◌∙◌, arith}
use Rattle.std.specs.Prelude.{Bool, nat_le}
use Rattle.std.specs.List.{AllByRecursion, filter}
use Rattle.std.specs.List.Sorted.{IsNonDecreasingBy, IsStableByKey, ties}
use Rattle.std.specs.Ordering.{nat_cmp, is_lt}
use Rattle.std.proofs.lemmas.Bool.{cases_lt}
use Rattle.std.proofs.lemmas.Bool.Decides.{nat_tests}
use Rattle.line_server.specs.declared.out_line.OutLine as out
use Rattle.timeline.specs.Finish.{in_order, ordered}
use Rattle.timeline.specs.Lines.{OutLine}
use Rattle.mailbox.specs.Left.{seen_left}

module _ {X : Type 0} (n : X → ℕ) where
  -- Each number is at most those behind it.
  abbrev Rises : List X → Type 0
  Rises [] = Unit {0}
  Rises (x ∷ xs) = AllByRecursion (λ y. n x ≤ n y) xs × Rises xs

  abbrev tied : X → X → Bool
  tied x = ties (λ a b. is_lt (nat_cmp (n a) (n b))) x

  tied_same : (x y : X) → n x ≡ n y → tied x y ≡ true
  tied_same x y e = grind (arith, nat_tests, e)

  tied_is : (x y : X) → tied x y ≡ true → n x ≡ n y
  tied_is x y h = grind (arith, nat_tests, h)

  tied_below : (x y : X) → n x < n y → tied x y ≡ false
  tied_below x y less = grind (arith, nat_tests, less)

  at_most : (a b : ℕ) → nat_le a b ≡ true → a ≤ b
  at_most a b h = grind (arith, nat_tests, h)

  above : (a b : ℕ) → nat_le a b ≡ false → b < a
  above a b h = grind (arith, nat_tests, h)

  -- what std says of a sorted list
  rises : (xs : List X) → IsNonDecreasingBy n xs → Rises xs
  rises [] h = tt
  rises (x ∷ xs) h = (
    all xs (λ j d less. h 0 (suc j) d (omega arith) (omega (arith, less))),
    rises xs (λ i j d le less. h (suc i) (suc j) d (omega (arith, le)) (omega (arith, less))),
  )
    where
      all : (ys : List X) → ((j : ℕ) (d : X) → j < length ys → n x ≤ n (get_or ys j d)) → AllByRecursion (λ y. n x ≤ n y) ys
      all [] h = tt
      all (y ∷ ys) h = (h 0 y (omega arith), all ys (λ j d less. h (suc j) d (omega (arith, less))))

  -- one more, and all of them, in order
  abbrev into : X → List X → List X
  into x [] = x ∷ []
  into x (y ∷ ys) = cond (nat_le (n x) (n y)) (x ∷ y ∷ ys) (y ∷ into x ys)

  abbrev sorted : List X → List X
  sorted [] = []
  sorted (x ∷ xs) = into x (sorted xs)

  all_into : (P : X → Type 0) (x : X) (ys : List X) → P x → AllByRecursion P ys → AllByRecursion P (into x ys)
  all_into P x [] own h = (own, tt)
  all_into P x (y ∷ ys) own h =
      elim (nat_le (n x) (n y)) as (λ (b : Bool). AllByRecursion P (cond b (x ∷ y ∷ ys) (y ∷ into x ys))) [
        | true ↦ (own, h)
        | false ↦ (h.0, all_into P x ys own h.1)
      ]

  all_at_most : (a b : ℕ) (ys : List X) → a ≤ b → AllByRecursion (λ y. b ≤ n y) ys → AllByRecursion (λ y. a ≤ n y) ys
  all_at_most a b [] le h = tt
  all_at_most a b (y ∷ ys) le h = (omega (arith, le, h.0), all_at_most a b ys le h.1)

  rises_into : (x : X) (ys : List X) → Rises ys → Rises (into x ys)
  rises_into x [] r = (tt, tt)
  rises_into x (y ∷ ys) r = at_first (nat_le (n x) (n y)) refl (rises_into x ys r.1)
    where
      at_first : (b : Bool) → nat_le (n x) (n y) ≡ b → Rises (into x ys) → Rises (cond (nat_le (n x) (n y)) (x ∷ y ∷ ys) (y ∷ into x ys))
      at_first true le later =
          subst (λ (b : Bool). Rises (cond b (x ∷ y ∷ ys) (y ∷ into x ys))) (sym le)
          ((at_most (n x) (n y) le, all_at_most (n x) (n y) ys (at_most (n x) (n y) le) r.0), r)
      at_first false over later =
          let less : n y < n x = above (n x) (n y) over in
          subst (λ (b : Bool). Rises (cond b (x ∷ y ∷ ys) (y ∷ into x ys))) (sym over)
          (all_into (λ z. n y ≤ n z) x ys (omega (arith, less)) r.0, later)

  rises_sorted : (xs : List X) → Rises (sorted xs)
  rises_sorted [] = tt
  rises_sorted (x ∷ xs) = rises_into x (sorted xs) (rises_sorted xs)

  -- those that tie stay in their order
  turned : (x y : X) (rest : List X) (b c : Bool) → (b ≡ true → c ≡ true → ⊥)
      → cond b (y ∷ cond c (x ∷ rest) rest) (cond c (x ∷ rest) rest) ≡ cond c (x ∷ cond b (y ∷ rest) rest) (cond b (y ∷ rest) rest)
  turned x y rest true true never = absurd (never refl refl)
  turned x y rest true false never = refl
  turned x y rest false true never = refl
  turned x y rest false false never = refl

  filter_into : (t x : X) (ys : List X) → filter (tied t) (into x ys) ≡ filter (tied t) (x ∷ ys)
  filter_into t x [] = refl
  filter_into t x (y ∷ ys) = at_first (nat_le (n x) (n y)) refl (filter_into t x ys)
    where
      at_first : (b : Bool) → nat_le (n x) (n y) ≡ b → filter (tied t) (into x ys) ≡ filter (tied t) (x ∷ ys)
          → filter (tied t) (cond (nat_le (n x) (n y)) (x ∷ y ∷ ys) (y ∷ into x ys)) ≡ filter (tied t) (x ∷ y ∷ ys)
      at_first true le later = ap (λ (b : Bool). filter (tied t) (cond b (x ∷ y ∷ ys) (y ∷ into x ys))) le
      at_first false over later =
          let less : n y < n x = above (n x) (n y) over in
          let never : tied t y ≡ true → tied t x ≡ true → ⊥ = λ e f. let p : n t ≡ n y = tied_is t y e in let q : n t ≡ n x = tied_is t x f in omega arith in
          ap (λ (b : Bool). filter (tied t) (cond b (x ∷ y ∷ ys) (y ∷ into x ys))) over
          ∙ ap (λ (rest : List X). cond (tied t y) (y ∷ rest) rest) later
          ∙ turned x y (filter (tied t) ys) (tied t y) (tied t x) never

  filter_sorted : (t : X) (xs : List X) → filter (tied t) (sorted xs) ≡ filter (tied t) xs
  filter_sorted t [] = refl
  filter_sorted t (x ∷ xs) = filter_into t x (sorted xs) ∙ ap (λ (rest : List X). cond (tied t x) (x ∷ rest) rest) (filter_sorted t xs)

  -- a list in order is known by those that tie
  none_tied : (t : X) (a : ℕ) (ys : List X) → n t < a → AllByRecursion (λ y. a ≤ n y) ys → filter (tied t) ys ≡ []
  none_tied t a [] less h = refl
  none_tied t a (y ∷ ys) less h =
      let apart : n t < n y = omega (arith, less, h.0) in
      ap (λ (b : Bool). cond b (y ∷ filter (tied t) ys) (filter (tied t) ys)) (tied_below t y apart) ∙ none_tied t a ys less h.1

  own_tied : (y : X) (ys : List X) → filter (tied y) (y ∷ ys) ≡ y ∷ filter (tied y) ys
  own_tied y ys = ap (λ (b : Bool). cond b (y ∷ filter (tied y) ys) (filter (tied y) ys)) (tied_same y y refl)

  no_item : {P : Type 0} (y : X) (ys : List X) → y ∷ ys ≡ [] → P
  no_item y ys h = absurd (cc)

  heads : (y z : X) (ys zs : List X) → y ∷ ys ≡ z ∷ zs → y ≡ z
  heads y z ys zs h = cc

  tails : (y z : X) (ys zs : List X) → y ∷ ys ≡ z ∷ zs → ys ≡ zs
  tails y z ys zs h = cc

  rest_same : (y : X) (ys zs : List X) (b : Bool) → cond b (y ∷ ys) ys ≡ cond b (y ∷ zs) zs → ys ≡ zs
  rest_same y ys zs true h = tails y y ys zs h
  rest_same y ys zs false h = h

  unique : (ys zs : List X) → Rises ys → Rises zs → ((t : X) → filter (tied t) ys ≡ filter (tied t) zs) → ys ≡ zs
  unique [] [] ry rz same = refl
  unique [] (z ∷ zs) ry rz same = no_item z (filter (tied z) zs) (sym (own_tied z zs) ∙ sym (same z))
  unique (y ∷ ys) [] ry rz same = no_item y (filter (tied y) ys) (sym (own_tied y ys) ∙ same y)
  unique (y ∷ ys) (z ∷ zs) ry rz same = λ i. first i ∷ unique ys zs ry.1 rz.1 behind i
    where
      level : n y ≡ n z
      level =
          elim (cases_lt (n y) (n z)) [
            | inl less ↦ no_item y (filter (tied y) ys) (sym (own_tied y ys) ∙ same y ∙ none_tied y (n z) (z ∷ zs) less (omega arith, rz.0))
            | inr not_less ↦
                elim (cases_lt (n z) (n y)) [
                  | inl less ↦ no_item z (filter (tied z) zs) (sym (own_tied z zs) ∙ sym (same z) ∙ none_tied z (n y) (y ∷ ys) less (omega arith, ry.0))
                  | inr neither ↦ omega arith
                ]
          ]

      first : y ≡ z
      first =
          heads y z (filter (tied y) ys) (filter (tied y) zs)
          (sym (own_tied y ys) ∙ same y ∙ ap (λ (b : Bool). cond b (z ∷ filter (tied y) zs) (filter (tied y) zs)) (tied_same y z level))

      behind : (t : X) → filter (tied t) ys ≡ filter (tied t) zs
      behind t =
          rest_same y (filter (tied t) ys) (filter (tied t) zs) (tied t y)
          (same t ∙ ap (λ (x : X). cond (tied t x) (x ∷ filter (tied t) zs) (filter (tied t) zs)) (sym first))

  pub is_sorted : (xs ys : List X) → IsNonDecreasingBy n ys → IsStableByKey n nat_cmp xs ys → ys ≡ sorted xs
  is_sorted xs ys rising stable = unique ys (sorted xs) (rises ys rising) (rises_sorted xs) (λ t. stable t ∙ sym (filter_sorted t xs))

-- ---- the same of lines
abbrev pub own_line : ℕ × out.OutLine → ℕ
own_line line = line.0

into_is : (line : ℕ × out.OutLine) (lines : List (ℕ × out.OutLine)) → map seen_left (into own_line line lines) ≡ in_order (seen_left line) (map seen_left lines)
into_is line [] = refl
into_is line (other ∷ lines) =
    elim (nat_le line.0 other.0) as (λ (b : Bool). map seen_left (cond b (line ∷ other ∷ lines) (other ∷ into own_line line lines))
    ≡ cond b (seen_left line ∷ seen_left other ∷ map seen_left lines) (seen_left other ∷ in_order (seen_left line) (map seen_left lines))) [
      | true ↦ refl
      | false ↦ ap (λ (rest : List (ℕ × OutLine)). seen_left other ∷ rest) (into_is line lines)
    ]

sorted_is : (lines : List (ℕ × out.OutLine)) → map seen_left (sorted own_line lines) ≡ ordered (map seen_left lines)
sorted_is [] = refl
sorted_is (line ∷ lines) = into_is line (sorted own_line lines) ∙ ap (in_order (seen_left line)) (sorted_is lines)

pub ordered_is : (lines later : List (ℕ × out.OutLine)) → IsNonDecreasingBy own_line later → IsStableByKey own_line nat_cmp lines later → map seen_left later ≡ ordered (map seen_left lines)
ordered_is lines later rising stable = ap (map seen_left) (is_sorted own_line lines later rising stable) ∙ sorted_is lines
