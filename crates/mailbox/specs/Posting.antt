-- What is posted is sent and logged.
use Rattle.std.specs.Prelude.{◌≡◌, ℕ, ◌==◌, if◌then◌else◌, List, [], ◌∷◌, ◌++◌, map, get_or}
use Rattle.lane.specs.Lanes.{LaneId}
use Rattle.timeline.specs.Headline.{IsPrefix}
use Rattle.timeline.specs.declared.event.Event.{Event}

-- The items of this slot, in order.
abbrev pub of_slot : {X : Type 0} → ℕ → List (ℕ × X) → List X
of_slot slot [] = []
of_slot slot (item ∷ items) = if item.0 == slot then item.1 ∷ of_slot slot items else of_slot slot items

-- What the lane of this slot has: what its end was sent, or what was taken from it.
abbrev pub at_slot : {S X : Type 0} → (S → List X) → List S → ℕ → List X
at_slot items ends slot = get_or (map items ends) slot []

-- The list goes on with the first of these, and maybe with all of them.
pub record GoesOn {X : Type 0} (old new wanted : List X) : Type 0 where
  pub since : List X
  pub more : new ≡ old ++ since
  pub first : IsPrefix since wanted

-- What was posted since is logged, and each inbox was sent exactly what is logged for its slot.
pub record Posts {S : Type 0} (sent : S → List Event) (old new : List S) (before after : List (ℕ × Event)) : Type 0 where
  pub since : List (ℕ × Event)
  pub logged : after ≡ before ++ since
  pub each : (slot : ℕ) → at_slot sent new slot ≡ at_slot sent old slot ++ of_slot slot since

-- The inboxes are those of the same lanes.
pub record SameOutlets {S : Type 0} (outlet : S → LaneId) (left : S → List Event) (old new : List S) : Type 0 where
  pub lanes : map outlet new ≡ map outlet old
  pub known : map left new ≡ map left old
