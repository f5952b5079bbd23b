-- Where a name's binding stands.
use Rattle.std.specs.Prelude.{◌≡◌, ℕ, ◌+◌, ◌<◌, List, [], length, get_or, drop, None}
use Rattle.script_mean.specs.Turn.{bound_in, bound}
use Rattle.script_vars.specs.Seen.{scope_of, env_of}
use Rattle.script_vars.specs.declared.bound.Bound.{Bound}
use Rattle.script_vars.specs.declared.bound.Bound.TheVariants.{Handle}

-- What is read past the last name: no place that is said to be in a block gives it.
abbrev pub no_name : List ℕ × Bound
no_name = ([], Handle)

-- The latest binding of the name in its block stands at this place, counted from the first.
abbrev pub IsLatest : List ℕ → List (List ℕ × Bound) → ℕ → Type 0
IsLatest name names place = record {
  inside : place < length names;
  spelled : (get_or names place no_name).0 ≡ name;
  later : bound_in name (scope_of (drop (place + 1) names)) ≡ None;
}

-- The innermost binding of the name stands in this block, counted from the outermost, at this place.
abbrev pub IsInnermost : List ℕ → List (List (List ℕ × Bound)) → ℕ → ℕ → Type 0
IsInnermost name blocks block place = record {
  inside : block < length blocks;
  latest : IsLatest name (get_or blocks block []) place;
  inner : bound name (env_of (drop (block + 1) blocks)) ≡ None;
}
