-- The fetches of all objects that have no answer, each under its number among all. This project's profile.
use Rattle.std.specs.Prelude.{◌≡◌, ◌≤◌, ℕ, List, Some, IsSome}
use Rattle.std.specs.Ordering.{nat_cmp, ordering_then}
use Rattle.std.specs.declared.cmp.Ordering.{Ordering}
use Rattle.std.specs.BTreeMap.{BTreeMap, get}
use Rattle.object_calls.specs.Numbered.{under, AreAtMost}

-- Whose fetch it is: the slot of its object, the incarnation, and the number that it has there.
abbrev pub Asker : Type 0
Asker = ℕ × ℕ × ℕ

-- A fetch with its number among all, by which an index is ordered: the parts one after another.
abbrev pub Place : Type 0
Place = ℕ × ℕ × ℕ × ℕ

abbrev pub place : Asker → ℕ → Place
place a k = (a.0, a.1, a.2, k)

abbrev pub by_parts : Place → Place → Ordering
by_parts x y = ordering_then (ordering_then (ordering_then (nat_cmp x.0 y.0) (nat_cmp x.1 y.1)) (nat_cmp x.2 y.2)) (nat_cmp x.3 y.3)

-- The numbers were given out, none past the last of 64 bits, and the index has exactly the fetches that wait.
pub record IsIndexed {X : Type 0} (made : ℕ) (waiting : List (ℕ × Asker)) (index : BTreeMap Place X) : Type 0 where
  pub numbers : AreAtMost made waiting
  pub small : made ≤ 18446744073709551615
  pub there : (a : Asker) (k : ℕ) → under k waiting ≡ Some a → IsSome (get by_parts index (place a k))
  pub known : (a : Asker) (k : ℕ) → IsSome (get by_parts index (place a k)) → under k waiting ≡ Some a
