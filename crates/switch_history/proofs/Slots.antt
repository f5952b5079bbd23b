-- The items of a slot, and what they name.
use Rattle.std.proofs.Common.{◌≡◌, inl, inr, ℕ, List, [], ◌∷◌, ◌++◌, cond, Some, true, false, refl, sym, ap, subst, ◌∙◌, arith}
use Rattle.std.specs.Prelude.{Bool, ◌==◌, ◌⊎◌, ◌||◌}
use Rattle.std.specs.List.{AllByRecursion, Contains, find, filter, flat_map, list_any}
use Rattle.std.proofs.lemmas.Bool.Decides.{nat_tests}
use Rattle.std.proofs.lemmas.List.Concat.{flat_map-append}
use Rattle.std.proofs.lemmas.List.Elements.{Contains-append_left, Contains-append_right, Contains-push_cases}
use Rattle.std.proofs.lemmas.Option.{none-some}
use Rattle.mailbox.specs.Posting.{of_slot}
use Rattle.mailbox.proofs.Sendings.{of_slot-append}

-- a slot is itself
pub is_own : (n : ℕ) → (n == n) ≡ true
is_own n = grind (arith, nat_tests)

-- the same slot
pub own : (n k : ℕ) → (n == k) ≡ true → n ≡ k
own n k h = grind (arith, nat_tests, h)

-- another slot
pub is_other : (n k : ℕ) → (n ≡ k → ⊥) → (n == k) ≡ false
is_other n k e = grind (arith, nat_tests, e)

-- one item of its own slot
pub of_own : {X : Type 0} (slot : ℕ) (x : X) → of_slot slot ((slot, x) ∷ []) ≡ x ∷ []
of_own {X} slot x = ap (λ (b : Bool). cond b (x ∷ []) []) (is_own slot)

-- what holds of all items by their slots holds of those of a slot
pub all_of_slot : {X : Type 0} (P : ℕ → X → Type 0) (slot : ℕ) (xs : List (ℕ × X)) → AllByRecursion (λ x. P x.0 x.1) xs → AllByRecursion (P slot) (of_slot slot xs)
all_of_slot P slot [] h = tt
all_of_slot {X} P slot (x ∷ xs) h = at_first (x.0 == slot) refl (all_of_slot P slot xs h.1)
  where
    at_first : (b : Bool) → (x.0 == slot) ≡ b → AllByRecursion (P slot) (of_slot slot xs) → AllByRecursion (P slot) (cond b (x.1 ∷ of_slot slot xs) (of_slot slot xs))
    at_first true here rest = (subst (λ (n : ℕ). P n x.1) (own x.0 slot here) h.0, rest)
    at_first false away rest = rest

-- what the items of a slot name
module _ {X Y : Type 0} (f : X → List Y) where
  -- what the first items name, and what the others do
  pub named-append : (slot : ℕ) (xs ys : List (ℕ × X)) → flat_map f (of_slot slot (xs ++ ys)) ≡ flat_map f (of_slot slot xs) ++ flat_map f (of_slot slot ys)
  named-append slot xs ys = ap (flat_map f) (of_slot-append slot xs ys) ∙ flat_map-append f (of_slot slot xs) (of_slot slot ys)

  -- what the first items name
  pub still_named : (slot : ℕ) (xs ys : List (ℕ × X)) (y : Y) → Contains (flat_map f (of_slot slot xs)) y → Contains (flat_map f (of_slot slot (xs ++ ys))) y
  still_named slot xs ys y is =
      subst (λ (l : List Y). Contains l y) (sym (named-append slot xs ys))
      (Contains-append_left (flat_map f (of_slot slot xs)) (flat_map f (of_slot slot ys)) y is)

  -- what the last items name
  pub last_named : (slot : ℕ) (xs ys : List (ℕ × X)) (y : Y) → Contains (flat_map f (of_slot slot ys)) y → Contains (flat_map f (of_slot slot (xs ++ ys))) y
  last_named slot xs ys y is =
      subst (λ (l : List Y). Contains l y) (sym (named-append slot xs ys))
      (Contains-append_right (flat_map f (of_slot slot xs)) (flat_map f (of_slot slot ys)) y is)

  -- what one item names
  pub own_named : (slot : ℕ) (x : X) (y : Y) → Contains (f x ++ []) y → Contains (flat_map f (of_slot slot ((slot, x) ∷ []))) y
  own_named slot x y is = subst (λ (l : List X). Contains (flat_map f l) y) (sym (of_own slot x)) is

  -- what one of two items names
  pub two_named : (slot : ℕ) (x z : X) (y : Y) → Contains (f x ++ (f z ++ [])) y → Contains (flat_map f (of_slot slot ((slot, x) ∷ (slot, z) ∷ []))) y
  two_named slot x z y is =
      subst (λ (l : List X). Contains (flat_map f l) y) (sym (ap (λ (b : Bool). cond b (x ∷ cond b (z ∷ []) []) (cond b (z ∷ []) [])) (is_own slot))) is

-- lists of which all is so
pub all_append : {X : Type 0} (P : X → Type 0) (xs ys : List X) → AllByRecursion P xs → AllByRecursion P ys → AllByRecursion P (xs ++ ys)
all_append P [] ys h more = more
all_append P (x ∷ xs) ys h more = (h.0, all_append P xs ys h.1 more)

-- all is so in a weaker sense
pub all_weaker : {X : Type 0} (P Q : X → Type 0) (xs : List X) → ((x : X) → P x → Q x) → AllByRecursion P xs → AllByRecursion Q xs
all_weaker P Q [] weaker h = tt
all_weaker P Q (x ∷ xs) weaker h = (weaker x h.0, all_weaker P Q xs weaker h.1)

-- so are those that pass a test
pub all_filter : {X : Type 0} (P : X → Type 0) (test : X → Bool) (xs : List X) → AllByRecursion P xs → AllByRecursion P (filter test xs)
all_filter P test [] h = tt
all_filter P test (x ∷ xs) h =
    elim (test x) as (λ (b : Bool). AllByRecursion P (cond b (x ∷ filter test xs) (filter test xs))) [
      | true ↦ (h.0, all_filter P test xs h.1)
      | false ↦ all_filter P test xs h.1
    ]

-- so is the one that is found
pub all_found : {X : Type 0} (P : X → Type 0) (test : X → Bool) (xs : List X) (x : X) → AllByRecursion P xs → find test xs ≡ Some x → P x
all_found P test [] x h found = absurd (none-some x found)
all_found {X} P test (y ∷ xs) x h found = at_first (test y) found (all_found P test xs x h.1)
  where
    at_first : (b : Bool) → cond b (Some y) (find test xs) ≡ Some x → (find test xs ≡ Some x → P x) → P x
    at_first true is rest = let same : y ≡ x = cc in subst P same h.0
    at_first false is rest = rest is

-- ---- what a list has
pub nothing_in : {X P : Type 0} (x : X) → Contains [] x → P
nothing_in x is = absurd (omega (arith, is.1))

-- one item is the only one
pub one_in : {X : Type 0} (x y : X) → Contains (x ∷ []) y → x ≡ y
one_in {X} x y is = elim (Contains-push_cases [] x y is) [
  | inl none ↦ nothing_in y none
  | inr same ↦ same
]
