-- A list has an element; each element of a list is so.
use Rattle.std.proofs.Common.{◌≡◌, ℕ, Bool, true, false, List, [], ◌∷◌, ◌++◌, ◌⊎◌, inl, inr, refl, sym}

pub data Has {A : Type 0} : List A → A → Type 0 where
  here : {x : A} {xs : List A} → Has (x ∷ xs) x
  there : {x y : A} {xs : List A} → Has xs y → Has (x ∷ xs) y

pub data Each {A : Type 0} (P : A → Type 0) : List A → Type 0 where
  no_more : Each P []
  more : {x : A} {xs : List A} → P x → Each P xs → Each P (x ∷ xs)

-- What a list has, a longer one has.
pub in_left : {A : Type 0} {x : A} {xs : List A} (ys : List A) → Has xs x → Has (xs ++ ys) x
in_left ys here = here
in_left ys (there h) = there (in_left ys h)

pub in_right : {A : Type 0} {x : A} {ys : List A} (xs : List A) → Has ys x → Has (xs ++ ys) x
in_right [] h = h
in_right (x ∷ xs) h = there (in_right xs h)

-- What is so of each of two lists is so of both together.
pub both : {A : Type 0} {P : A → Type 0} {xs ys : List A} → Each P xs → Each P ys → Each P (xs ++ ys)
both no_more q = q
both (more p ps) q = more p (both ps q)

pub of_each : {A : Type 0} {P : A → Type 0} {xs : List A} {x : A} → Each P xs → Has xs x → P x
of_each no_more h = elim h [ ]
of_each (more p ps) here = p
of_each (more p ps) (there h) = of_each ps h
