-- Of numbers that ascend none stands twice.
use Rattle.std.proofs.Common.{◌≡◌, ◌<◌, ◌≤◌, ◌⊎◌, refl, ℕ, List, [], ◌∷◌, length, cond, arith}
use Rattle.std.proofs.lemmas.Bool.Decides.{nat_tests}
use Rattle.std.proofs.lemmas.List.Elements.{All-head, All-tail}
use Rattle.std.specs.List.{All, filter}
use Rattle.std.specs.Prelude.{Bool, true, false, ◌==◌, ◌&&◌}
use Rattle.object_messages.specs.Laws.{AreAscending, IsBelow}
use Rattle.object_messages.specs.Naming.{same_numbers, times_of}

-- What stands below something isn't it,
not_same : (a b c d e f : ℕ) → (c == a && d == b) ≡ true → (c < e) ⊎ ((c ≡ e) × (d < f)) → (e == a && f == b) ≡ false
not_same a b c d e f is below = grind (arith, nat_tests)

-- so that it isn't among what stands above it,
none_above : (asked x : ℕ × ℕ) (xs : List (ℕ × ℕ)) → same_numbers asked x ≡ true → All (IsBelow x) xs → times_of asked xs ≡ 0
none_above asked x [] is above = refl
none_above asked x (y ∷ xs) is above =
    by_first (same_numbers asked y) (not_same asked.0 asked.1 x.0 x.1 y.0 y.1 is (All-head (IsBelow x) y xs above))
    (none_above asked x xs is (All-tail (IsBelow x) y xs above))
  where
    by_first : (b : Bool) → b ≡ false → times_of asked xs ≡ 0 → length (cond b (y ∷ filter (same_numbers asked) xs) (filter (same_numbers asked) xs)) ≡ 0
    by_first true not_so none = cc
    by_first false not_so none = none

-- and no number stands twice.
pub ascending_once : (asked : ℕ × ℕ) (xs : List (ℕ × ℕ)) → AreAscending xs → times_of asked xs ≤ 1
ascending_once asked [] rise = omega arith
ascending_once asked (x ∷ xs) rise = by_first (same_numbers asked x) refl (ascending_once asked xs rise.1)
  where
    by_first : (b : Bool) → same_numbers asked x ≡ b → times_of asked xs ≤ 1
        → length (cond b (x ∷ filter (same_numbers asked) xs) (filter (same_numbers asked) xs)) ≤ 1
    by_first true same rest = omega (arith, none_above asked x xs same rise.0)
    by_first false other rest = rest
