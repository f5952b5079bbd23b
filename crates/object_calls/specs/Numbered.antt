-- What waits under a number of its own: numbers are given out as 1, 2, 3 and on, and none twice. This project's profile.
use Rattle.std.specs.Prelude.{ℕ, ◌==◌, ◌≤◌, if◌then◌else◌, List, [], ◌∷◌, Option, Some, None}
use Rattle.std.specs.List.{AllByRecursion}

-- How many numbers were given out, and what waits, in the order of the numbers.
pub record Numbered (X : Type 0) : Type 0 where
  pub made : ℕ
  pub waiting : List (ℕ × X)

-- What waits under the number, and what waits under others.
abbrev pub under : {X : Type 0} → ℕ → List (ℕ × X) → Option X
under number [] = None
under number (w ∷ waiting) = if w.0 == number then Some w.1 else under number waiting

abbrev pub others : {X : Type 0} → ℕ → List (ℕ × X) → List (ℕ × X)
others number [] = []
others number (w ∷ waiting) = if w.0 == number then waiting else w ∷ others number waiting

-- Each number was given out.
abbrev pub AreAtMost : {X : Type 0} → ℕ → List (ℕ × X) → Type 0
AreAtMost made waiting = AllByRecursion (λ w. w.0 ≤ made) waiting
