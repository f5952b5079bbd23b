-- What is found among items, and by how many of them.
use Rattle.std.proofs.Common.{◌≡◌, ◌≤◌, ◌<◌, ◌∙◌, ap, refl, arith, eq-eqb, ⊎_elim, ℕ, List, [], ◌∷◌, ◌++◌, length, cond, Some}
use Rattle.std.specs.Prelude.{Bool, true, false, ◌||◌, ◌&&◌, ◌==◌, slice_get}
use Rattle.std.proofs.lemmas.Option.{slice_get_cases}
use Rattle.std.specs.List.{All, Contains, filter, flat_map, list_any}
use Rattle.std.proofs.lemmas.List.Elements.{All-cons, All-contains, All-nil, All-weaker}
use Rattle.std.proofs.lemmas.List.Folds.{list_any-append}
use Rattle.timeline.specs.Replies.{same_caller}
use Rattle.timeline.specs.declared.caller.Caller.{Caller}
use Rattle.timeline.specs.declared.caller.Caller.TheVariants as from

or_right : (a b : Bool) → b ≡ true → (a || b) ≡ true
or_right true b is = refl
or_right false b is = is

and_both : (a b : Bool) → a ≡ true → b ≡ true → (a && b) ≡ true
and_both true b is so = so
and_both false b is so = is

module _ {X : Type 0} (p : X → Bool) where
  -- an item that passes a test is found by it, and then some pass it, and the other way
  all_found : (xs : List X) → All (λ (x : X). p x ≡ true → list_any p xs ≡ true) xs
  all_found [] = All-nil (λ (x : X). p x ≡ true → list_any p [] ≡ true)
  all_found (y ∷ ys) =
      All-cons (λ (x : X). p x ≡ true → list_any p (y ∷ ys) ≡ true) y ys (λ is. ap (λ (b : Bool). b || list_any p ys) is)
      (All-weaker (λ (x : X). p x ≡ true → list_any p ys ≡ true) (λ (x : X). p x ≡ true → list_any p (y ∷ ys) ≡ true)
      (λ x found is. or_right (p y) (list_any p ys) (found is)) ys (all_found ys))

  pub is_found : (xs : List X) (x : X) → Contains xs x → p x ≡ true → list_any p xs ≡ true
  is_found xs x has is = All-contains (λ (y : X). p y ≡ true → list_any p xs ≡ true) xs x (all_found xs) has is

  some_by : (b : Bool) (x : X) (xs : List X) → (b || list_any p xs) ≡ true → (list_any p xs ≡ true → 1 ≤ length (filter p xs))
      → 1 ≤ length (cond b (x ∷ filter p xs) (filter p xs))
  some_by true x xs is rest = omega arith
  some_by false x xs is rest = rest is

  pub some_pass : (xs : List X) → list_any p xs ≡ true → 1 ≤ length (filter p xs)
  some_pass [] is = cc
  some_pass (x ∷ xs) is = some_by (p x) x xs is (some_pass xs)

  found_by : (b : Bool) (x : X) (xs : List X) → 1 ≤ length (cond b (x ∷ filter p xs) (filter p xs)) → (1 ≤ length (filter p xs) → list_any p xs ≡ true)
      → (b || list_any p xs) ≡ true
  found_by true x xs some rest = refl
  found_by false x xs some rest = rest some

  pub passing_found : (xs : List X) → 1 ≤ length (filter p xs) → list_any p xs ≡ true
  passing_found [] some = absurd (omega (arith, some))
  passing_found (x ∷ xs) some = found_by (p x) x xs some (passing_found xs)

  pub found_more : (xs ys : List X) → list_any p xs ≡ true → list_any p (xs ++ ys) ≡ true
  found_more xs ys is = list_any-append p xs ys ∙ ap (λ (b : Bool). b || list_any p ys) is

  -- what is found in what is made of each item is found by what is made of one
  pub found_flat : {Y : Type 0} (f : Y → List X) (ys : List Y) → list_any p (flat_map f ys) ≡ list_any (λ (y : Y). list_any p (f y)) ys
  found_flat f [] = refl
  found_flat {Y} f (y ∷ ys) = list_any-append p (f y) (flat_map f ys) ∙ ap (λ (b : Bool). list_any p (f y) || b) (found_flat f ys)

-- a caller is the same as himself
pub itself : (caller : Caller) → same_caller caller caller ≡ true
itself (from.Request line number) = eq-eqb line line refl
itself (from.Object slot incarnation number) =
    and_both (slot == slot && incarnation == incarnation) (number == number)
    (and_both (slot == slot) (incarnation == incarnation) (eq-eqb slot slot refl) (eq-eqb incarnation incarnation refl)) (eq-eqb number number refl)

-- an item stands at each place of a list
pub item_at : {X : Type 0} (xs : List X) (at : ℕ) → at < length xs → (x : X) × (slice_get xs at ≡ Some x)
item_at {X} xs at less = ⊎_elim (λ there. (there.0, there.2)) (λ past. absurd (omega (arith, less, past.0))) (slice_get_cases xs at).1
