-- What waits under numbers, in a sorted map of std.
use Rattle.std.proofs.Common.{◌≡◌, ℕ, ◌+◌, ◌≤◌, ◌<◌, List, [], ◌∷◌, ◌++◌, cond, true, false, true≢false, Option, Some, None, refl, sym, ap, ◌∙◌, arith}
use Rattle.std.specs.Prelude.{Bool, ◌==◌, if◌then◌else◌}
use Rattle.std.specs.Option.{is_none}
use Rattle.std.specs.Ordering.{nat_cmp, match_ordering}
use Rattle.std.specs.declared.cmp.Ordering.{Ordering}
use Rattle.std.specs.declared.cmp.Ordering.TheVariants.{Greater}
use Rattle.std.specs.Cmp.{nat_cmp_is}
use Rattle.std.specs.Map.{lookup, remove_entry}
use Rattle.std.specs.BTreeMap.{is_at, insert_entry}
use Rattle.std.proofs.lemmas.Bool.Decides.{nat_tests}
use Rattle.object_calls.specs.Numbered.{under, others, AreAtMost}

-- the map's test of a key is equality
is_here : (n k : ℕ) → is_at (nat_cmp n) k ≡ (k == n)
is_here n k = grind (arith, nat_tests)

is_other : (n k : ℕ) → k < n → (k == n) ≡ false
is_other n k less = grind (arith, nat_tests, less)

is_same : (n : ℕ) → (n == n) ≡ true
is_same n = grind (arith, nat_tests)

is_above : (n k : ℕ) → k < n → nat_cmp n k ≡ Greater
is_above n k less = sym (nat_cmp_is n k Greater less)

nothing : {X : Type 0} (x : X) → None ≡ Some x → ⊥
nothing x h = true≢false (ap (λ v. is_none v) h)

module _ {X : Type 0} where
  -- the map finds what waits under the number, and takes that out
  pub find_under : (n : ℕ) (es : List (ℕ × X)) → lookup (is_at (nat_cmp n)) es ≡ under n es
  find_under n [] = refl
  find_under n (e ∷ es) =
      ap (λ (here : Bool). cond here (Some e.1) (lookup (is_at (nat_cmp n)) es)) (is_here n e.0)
      ∙ ap (λ (found : Option X). if e.0 == n then Some e.1 else found) (find_under n es)

  pub out_others : (n : ℕ) (es : List (ℕ × X)) → remove_entry (is_at (nat_cmp n)) es ≡ others n es
  out_others n [] = refl
  out_others n (e ∷ es) =
      ap (λ (here : Bool). cond here es (e ∷ remove_entry (is_at (nat_cmp n)) es)) (is_here n e.0)
      ∙ ap (λ (left : List (ℕ × X)). if e.0 == n then es else e ∷ left) (out_others n es)

  -- a number above all goes to the end
  pub put_last : (n : ℕ) (v : X) (made : ℕ) (es : List (ℕ × X)) → AreAtMost made es → made < n → insert_entry nat_cmp es n v ≡ es ++ (n, v) ∷ []
  put_last n v made [] h above = refl
  put_last n v made (e ∷ es) h above =
      let less : e.0 < n = omega (arith, h.0, above) in
      ap (λ (o : Ordering). match_ordering o ((n, v) ∷ e ∷ es) ((e.0, v) ∷ es) (e ∷ insert_entry nat_cmp es n v)) (is_above n e.0 less)
      ∙ ap (λ (rest : List (ℕ × X)). e ∷ rest) (put_last n v made es h.1 above)

  -- nothing waits under a number that wasn't given out
  pub none_under : (n made : ℕ) (es : List (ℕ × X)) → AreAtMost made es → made < n → under n es ≡ None
  none_under n made [] h above = refl
  none_under n made (e ∷ es) h above =
      let less : e.0 < n = omega (arith, h.0, above) in
      ap (λ (here : Bool). if here then Some e.1 else under n es) (is_other n e.0 less) ∙ none_under n made es h.1 above

  pub last_under : (n made : ℕ) (v : X) (es : List (ℕ × X)) → AreAtMost made es → made < n → under n (es ++ (n, v) ∷ []) ≡ Some v
  last_under n made v [] h above = ap (λ (here : Bool). if here then Some v else None) (is_same n)
  last_under n made v (e ∷ es) h above =
      let less : e.0 < n = omega (arith, h.0, above) in
      ap (λ (here : Bool). if here then Some e.1 else under n (es ++ (n, v) ∷ [])) (is_other n e.0 less) ∙ last_under n made v es h.1 above

  -- numbers that were given out stay so
  pub at_most_more : (made : ℕ) (v : X) (es : List (ℕ × X)) → AreAtMost made es → AreAtMost (made + 1) (es ++ (made + 1, v) ∷ [])
  at_most_more made v [] h = (omega arith, tt)
  at_most_more made v (e ∷ es) h = (omega (arith, h.0), at_most_more made v es h.1)

  pub at_most_others : (test : ℕ → Bool) (made : ℕ) (es : List (ℕ × X)) → AreAtMost made es → AreAtMost made (remove_entry test es)
  at_most_others test made [] h = tt
  at_most_others test made (e ∷ es) h =
      elim (test e.0) as (λ (here : Bool). AreAtMost made (cond here es (e ∷ remove_entry test es))) [
        | true ↦ h.1
        | false ↦ (h.0, at_most_others test made es h.1)
      ]

  -- what waits has a number that was given out
  pub at_most_under : (n made : ℕ) (v : X) (es : List (ℕ × X)) → AreAtMost made es → under n es ≡ Some v → n ≤ made
  at_most_under n made v [] h found = absurd (nothing v found)
  at_most_under n made v (e ∷ es) h found = at_first (e.0 == n) refl (at_most_under n made v es h.1)
    where
      at_first : (b : Bool) → (e.0 == n) ≡ b → (under n es ≡ Some v → n ≤ made) → n ≤ made
      at_first true here later = grind (arith, nat_tests, here, h.0)
      at_first false other later = later (sym (ap (λ (c : Bool). if c then Some e.1 else under n es) other) ∙ found)
