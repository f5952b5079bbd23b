-- What a switch goes by: the objects of the slots, the fetches without an answer, the last tick.
use Rattle.std.specs.Prelude.{◌<◌, ◌≤◌, ℕ, ℤ, List, [], ◌∷◌, map, length, Option}
use Rattle.std.specs.List.{AllByRecursion}
use Rattle.object_calls.specs.Fetched.{Asker}
use Rattle.object_calls.specs.Numbered.{Numbered}
use Rattle.timeline.specs.Lines.{Identity}
use Rattle.timeline.specs.Switch.{OpenFetch, Switch}

-- A fetch under its number.
abbrev pub open_fetch : ℕ × Asker → OpenFetch
open_fetch f = record { k = f.0; slot = f.1.0; incarnation = f.1.1; number = f.1.2 }

abbrev pub switch_of : List (Option Identity) → Numbered Asker → ℤ → Switch
switch_of objects fetches tick = record { objects = objects; fetches = fetches.made; unanswered = map open_fetch fetches.waiting; tick = tick }

-- Each number is above those before it.
abbrev pub AreAscending : List (ℕ × Asker) → Type 0
AreAscending [] = Unit {0}
AreAscending (f ∷ fetches) = AllByRecursion (λ g. f.0 < g.0) fetches × AreAscending fetches

-- The open fetches stand in the order of their numbers, each of which was given out, and their slots are there.
pub record IsSound (objects : List (Option Identity)) (fetches : Numbered Asker) : Type 0 where
  pub given : AllByRecursion (λ f. f.0 ≤ fetches.made) fetches.waiting
  pub ascending : AreAscending fetches.waiting
  pub there : AllByRecursion (λ f. f.1.0 < length objects) fetches.waiting
