-- The lines that were sent, and those that the switch accepted; and what is of a slot in a list.
use Rattle.std.proofs.Common.{◌≡◌, ◌∙◌, ap, sym, refl, subst, ℕ, ◌<◌, ◌≤◌, arith, Bool, true, false, cond, ◌==◌, List, [], ◌∷◌, ◌++◌, append_assoc, append-nil, length, map, slice_get, Some, All, lt_of_not-le}
use Rattle.std.proofs.lemmas.Bool.Decides.{nat_tests}
use Rattle.std.proofs.lemmas.List.{get_or-map, get_or_past, length-map, map-append}
use Rattle.std.proofs.lemmas.List.Elements.{All-from_recursion}
use Rattle.std.proofs.lemmas.Option.{slice_get_within, get_or_from_slice_get}
use Rattle.std.specs.List.{AllByRecursion}
use Rattle.lane.specs.Lanes.{StartsWith}
use Rattle.mailbox.specs.Posting.{at_slot, of_slot}

-- ---- what is at a slot
-- At a slot is what its end has.
pub at_some : {S X : Type 0} (items : S → List X) (ends : List S) (slot : ℕ) (end : S) → slice_get ends slot ≡ Some end → at_slot items ends slot ≡ items end
at_some items ends slot end is =
    get_or-map items ends slot end [] (slice_get_within ends slot end is) ∙ ap items (get_or_from_slice_get ends slot end end is)

-- Past the last slot there is nothing.
pub at_none : {S X : Type 0} (items : S → List X) (ends : List S) (slot : ℕ) → length ends ≤ slot → at_slot items ends slot ≡ []
at_none {S} {X} items ends slot past =
    let long : length (map items ends) ≤ slot = subst (λ (n : ℕ). n ≤ slot) (sym (length-map ends items)) past in get_or_past (map items ends) slot [] long

-- A slot is found by its number.
same_slot : (n : ℕ) → (n == n) ≡ true
same_slot n = grind (arith, nat_tests)

-- Where nothing is of a slot, the first item isn't, and nothing behind it.
tail_none : {X : Type 0} (own : Bool) (x : X) (l : List X) → cond own (x ∷ l) l ≡ [] → (own ≡ false) × (l ≡ [])
tail_none true x l e = absurd cc
tail_none false x l e = (refl, e)

-- So each item is of a slot that there is, by recursion on the list.
within_each : {X : Type 0} (n : ℕ) (items : List (ℕ × X)) → ((slot : ℕ) → n ≤ slot → of_slot slot items ≡ []) → AllByRecursion (λ (item : ℕ × X). item.0 < n) items
within_each n [] none = tt
within_each {X} n (item ∷ items) none =
    let away : n ≤ item.0 → ⊥ = λ past.
    let other = (tail_none (item.0 == item.0) item.1 (of_slot item.0 items) (none item.0 past)).0 in
    let same = same_slot item.0 in absurd cc in
    (lt_of_not-le away, within_each n items (λ slot past. (tail_none (item.0 == slot) item.1 (of_slot slot items) (none slot past)).1))

-- Where there is nothing of a slot past the last, each item is of a slot that there is.
pub all_within : {X : Type 0} (n : ℕ) (items : List (ℕ × X)) → ((slot : ℕ) → n ≤ slot → of_slot slot items ≡ []) → All (λ (item : ℕ × X). item.0 < n) items
all_within {X} n items none = All-from_recursion (λ (item : ℕ × X). item.0 < n) items (within_each n items none)

-- ---- lines
-- The accepted lines are the first of those that were sent,
pub starts_with : {A B : Type 0} (f : A → B) (sent got : List A) (accepted lost : List B) → StartsWith sent got → map f got ≡ accepted ++ lost
    → StartsWith (map f sent) accepted
starts_with f sent got accepted lost taken is = (
  lost ++ map f taken.0,
  ap (map f) taken.1 ∙ map-append f got taken.0 ∙ ap (λ l. l ++ map f taken.0) is ∙ append_assoc accepted lost (map f taken.0),
)

-- and the others are those that are left, where none is lost.
pub goes_on_with : {A B : Type 0} (f : A → B) (sent got rest : List A) (accepted lost : List B) → sent ≡ got ++ rest → map f got ≡ accepted ++ lost → lost ≡ []
    → map f sent ≡ accepted ++ map f rest
goes_on_with f sent got rest accepted lost left is none =
    ap (map f) left ∙ map-append f got rest ∙ ap (λ l. l ++ map f rest) (is ∙ ap (λ l. accepted ++ l) none ∙ append-nil accepted)
