-- The first place that passes a test, and when none does.
use Rattle.std.proofs.Common.{◌≡◌, ℕ, ◌<◌, Bool, true, false, List, length, get_or, None, Some, arith}
use Rattle.std.specs.List.{position, position_or_len}
use Rattle.std.proofs.lemmas.Grind.{common_steps}
use Rattle.std.proofs.lemmas.List.Sums.{position_or_len_is, fails_before_first}

module _ {X : Type 0} (p : X → Bool) (xs : List X) (d : X) where
  -- a place that passes, and behind which none does
  pub position_is : (i : ℕ) → i < length xs → ((k : ℕ) → k < i → p (get_or xs k d) ≡ false) → p (get_or xs i d) ≡ true → position p xs ≡ Some i
  position_is i inside before at =
      let here : position_or_len p xs ≡ i = position_or_len_is p xs i d (omega arith) before (λ _. at) in
      grind (arith, common_steps)

  -- no place passes
  pub position_none : ((k : ℕ) → k < length xs → p (get_or xs k d) ≡ false) → position p xs ≡ None
  position_none before =
      let past : position_or_len p xs ≡ length xs = position_or_len_is p xs (length xs) d (omega arith) before (λ less. absurd (omega arith)) in
      grind (arith, common_steps)

  -- where there is no such place, each fails
  pub fails_each : position p xs ≡ None → (k : ℕ) → k < length xs → p (get_or xs k d) ≡ false
  fails_each none k inside =
      let past : k < position_or_len p xs = grind (arith, common_steps) in
      fails_before_first p xs k d past
