-- A list that is empty, by its length.
use Rattle.std.proofs.Common.{◌≡◌, ◌≢◌, ◌==◌, ℕ, zero, suc, Bool, true, false, List, [], ◌∷◌, length, map, refl, sym, ap, ◌∙◌, arith, subst}
use Rattle.std.proofs.lemmas.Bool.{false≢true}
use Rattle.std.proofs.lemmas.Bool.Decides.{nat_tests}

no_length : {X : Type 0} (x : X) (xs : List X) → (length (x ∷ xs) == 0) ≡ false
no_length x xs = grind (arith, nat_tests)

pub empty_list : {X : Type 0} (xs ys : List X) (b : Bool) → b ≡ (length xs == 0) → xs ≡ ys → b ≡ true → ys ≡ []
empty_list [] ys b h e t = sym e
empty_list (x ∷ xs) ys b h e t = absurd (false≢true (sym (no_length x xs) ∙ sym h ∙ t))

pub some_list : {X A : Type 0} (seen : X → A) (xs ys : List X) (b : Bool) → b ≡ (length xs == 0) → xs ≡ ys → b ≡ false → map seen ys ≢ []
some_list seen [] ys b h e t n = false≢true (sym t ∙ h)
some_list seen (x ∷ xs) ys b h e t n = let q : map seen (x ∷ xs) ≡ [] = ap (map seen) e ∙ n in cc
