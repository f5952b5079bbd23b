-- Maximal munch: what is read is as long as it can be (ECMA-262, section 12).
use Rattle.std.specs.Prelude.{ℕ, ◌<◌, ◌≤◌, List, length, take}

-- Of the fronts of the bytes that are P, the longest has n bytes.
pub record IsLongest (P : List ℕ → Type 0) (bytes : List ℕ) (n : ℕ) : Type 0 where
  pub in_range : n ≤ length bytes
  pub holds : P (take n bytes)
  pub longest : (m : ℕ) → n < m → m ≤ length bytes → ¬ P (take m bytes)
