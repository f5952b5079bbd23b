-- A text within a text.
use Rattle.std.proofs.Common.{◌≡◌, ℕ, Bool, true, List, [], ◌∷◌, ◌++◌, length, drop, nat_eq, None, refl, ap, inl, inr}
use Rattle.std.specs.Bool.{MatchBool}
use Rattle.std.specs.List.{starts_with}
use Rattle.std.specs.Str.Iter.{HasSubslice}
use Rattle.std.specs.Str.Pattern.{HasMatch, FindsText}
use Rattle.std.proofs.lemmas.Bool.{or_cases, or_left, or_right}
use Rattle.std.proofs.lemmas.Bool.Decides.{Decides-eqb, same_from_decides}
use Rattle.std.proofs.lemmas.Slice.Eq.{starts_is}
use Rattle.std.proofs.lemmas.Str.Pattern.{contains_text}
use Rattle.script_ops.specs.Texts.{occurs}

-- what `starts_with` tells
pub begins_true : (s p : List ℕ) → starts_with nat_eq s p ≡ true → s ≡ p ++ drop (length p) s
begins_true s p = (starts_is Decides-eqb s p (starts_with nat_eq s p) refl).0

pub begins_from : (s p rest : List ℕ) → s ≡ p ++ rest → starts_with nat_eq s p ≡ true
begins_from s p = (starts_is Decides-eqb s p (starts_with nat_eq s p) refl).1

occurs_true : (part bs : List ℕ) → occurs part bs ≡ true → HasSubslice bs part
occurs_true part [] h = ([], drop (length part) [], begins_true [] part h)
occurs_true part (b ∷ bs) h = elim (or_cases (starts_with nat_eq (b ∷ bs) part) (occurs part bs) h) [
  | inl here ↦ ([], drop (length part) (b ∷ bs), begins_true (b ∷ bs) part here)
  | inr later ↦ let found = occurs_true part bs later in (b ∷ found.0, found.1, ap (λ xs. b ∷ xs) found.2)
]

occurs_from : (part bs front rest : List ℕ) → bs ≡ front ++ (part ++ rest) → occurs part bs ≡ true
occurs_from part [] [] rest e = begins_from [] part rest e
occurs_from part [] (x ∷ front) rest e = absurd (cc)
occurs_from part (b ∷ bs) [] rest e = or_left (starts_with nat_eq (b ∷ bs) part) (occurs part bs) (begins_from (b ∷ bs) part rest e)
occurs_from part (b ∷ bs) (x ∷ front) rest e =
    let tails : bs ≡ front ++ (part ++ rest) = cc in
    or_right (starts_with nat_eq (b ∷ bs) part) (occurs part bs) (occurs_from part bs front rest tails)

-- what `contains` answers
pub contains_is : (r : Bool) (part bs : List ℕ) → MatchBool r (HasMatch (FindsText part) bs) (FindsText part bs None) → r ≡ occurs part bs
contains_is r part bs h =
    let told = contains_text r part bs h in
    same_from_decides r (occurs part bs) (told.0, told.1) (occurs_true part bs, λ found. occurs_from part bs found.0 found.1 found.2)
