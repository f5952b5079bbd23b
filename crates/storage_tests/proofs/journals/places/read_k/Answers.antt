use Rattle.std.proofs.Common.{◌≡◌, ◌∙◌, Option, Some, None, sym, subst}
use Rattle.do_value.specs.declared.value.Value.{Value}
use Rattle.storage_map.specs.Indexed.{IsPlaced}
use Rattle.storage_map.specs.declared.place.Place.{Place}
use Rattle.batch_journal.specs.Places.{IsPlaceIn}
use Rattle.storage_tests.proofs.journals.places.read_k.Goals as goal

-- a key that has a place has a value, which stands there
stands_at : (S : Place → Value → Type 0) (p : Place) (place : Option Place) (value : Option Value) → IsPlaced S place value → place ≡ Some p → (v : Value) × S p v
stands_at S p None value is at = cc
stands_at S p (Some q) None is at = absurd is
stands_at S p (Some q) (Some v) is at = let same : q ≡ p = cc in (v, subst (λ (r : Place). S r v) same is)

pub read_value-value-requires : goal.read_value-value-requires
read_value-value-requires g c =
    let mounted = c.requires.mounted.1 in
    let found = stands_at (IsPlaceIn mounted.frames) c.in_ok-place.place _ _ (mounted.index.each _) (sym c.get.ensures ∙ c.in_ok-place.was) in
    (mounted.frames, found.0, mounted.at_rest, found.1)
