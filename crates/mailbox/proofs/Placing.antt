-- Where objects stand: the directory's definition and the switch's are one.
use Rattle.std.proofs.Common.{◌≡◌, ◌<◌, ℕ, length, Option, None, Some, Bor, true, true≢false, refl, sym, ap, ◌∙◌}
use Rattle.std.specs.Prelude.{is_none, is_some, unwrap_or, slice_get, position, Result, Err}
use Rattle.std.specs.Option.{option_copied}
use Rattle.std.proofs.lemmas.List.Quantifiers.{position-Some}
use Rattle.std.proofs.lemmas.Option.{unwrap_or-slice_get, slice_get_within}
use Rattle.storage_map.specs.Limits.{Object}
use Rattle.placement.specs.Slots as slots
use Rattle.placement.specs.Slots.{place, place_by}
use Rattle.placement.specs.declared.answers.Placed.{Placed}
use Rattle.placement.specs.declared.answers.Placed.TheVariants.{New}
use Rattle.placement.specs.declared.answers.PlaceFault.{PlaceFault}
use Rattle.placement.specs.declared.answers.PlaceFault.TheVariants.{NoSlot, NoMemory}
use Rattle.timeline.specs.Switch as switch
use Rattle.timeline.specs.Switch.{Switch}

here_is : (object : Object) (o : Option Object) → slots.is_here object o ≡ switch.is_object object o
here_is object None = refl
here_is object (Some other) = refl

free_is : (o : Option Object) → is_none o ≡ switch.is_free o
free_is None = refl
free_is (Some object) = refl

flat_is : (o : Option (Option Object)) → unwrap_or o None ≡ switch.flattened o
flat_is None = refl
flat_is (Some object) = refl

pub slot_is : (s : Switch) (object : Object) → slots.slot_of s.objects object ≡ switch.slot_of s object
slot_is s object = λ i. position (λ o. here_is object o i) s.objects

pub least_is : (s : Switch) → slots.least_free s.objects ≡ switch.free_slot s
least_is s = λ i. position (λ o. free_is o i) s.objects

pub object_is : (s : Switch) (slot : ℕ) → slots.object_at s.objects slot ≡ switch.object_at s slot
object_is s slot = sym (unwrap_or-slice_get s.objects slot None) ∙ flat_is (slice_get s.objects slot)

abbrev refused : PlaceFault → Result Placed PlaceFault
refused fault = Err fault

-- ---- what a place tells
new_by : (own free : Option ℕ) (slot : ℕ) → place_by own free ≡ Some (New slot) → (own ≡ None) × (free ≡ Some slot)
new_by (Some s) free slot h = absurd (cc)
new_by None (Some s) slot h = (refl, cc)
new_by None None slot h = absurd (cc)

none_by : (own free : Option ℕ) → place_by own free ≡ None → (own ≡ None) × (free ≡ None)
none_by (Some s) free h = absurd (cc)
none_by None (Some s) h = absurd (cc)
none_by None None h = (refl, refl)

module _ (s : Switch) (object : Object) where
  pub new_slot : (slot : ℕ) → place s.objects object ≡ Some (New slot) → (switch.slot_of s object ≡ None) × (switch.free_slot s ≡ Some slot)
  new_slot slot h =
      let both = new_by (slots.slot_of s.objects object) (slots.least_free s.objects) slot h in
      (sym (slot_is s object) ∙ both.0, sym (least_is s) ∙ both.1)

  pub no_slot : place s.objects object ≡ None → (switch.slot_of s object ≡ None) × (switch.free_slot s ≡ None)
  no_slot h =
      let both = none_by (slots.slot_of s.objects object) (slots.least_free s.objects) h in
      (sym (slot_is s object) ∙ both.0, sym (least_is s) ∙ both.1)

-- no slot is free where a directory says so
pub is_full : (o : Option Placed) (fault : PlaceFault) (said slots : ℕ) → fault ≡ NoSlot said → ((placed : Placed) → o ≡ Some placed → fault ≡ NoMemory)
    → (o ≡ None → refused fault ≡ refused (NoSlot slots)) → (o ≡ None) × (said ≡ slots)
is_full (Some placed) fault said slots is room none = absurd (other (sym is ∙ room placed refl))
  where
    other : NoSlot said ≡ NoMemory → ⊥
    other h = cc
is_full None fault said slots is room none = (refl, own (ap refused (sym is) ∙ none refl))
  where
    own : refused (NoSlot said) ≡ refused (NoSlot slots) → said ≡ slots
    own h = cc

-- ---- slots are there
pub free_within : (s : Switch) (slot : ℕ) → switch.free_slot s ≡ Some slot → slot < length s.objects
free_within s slot h = (position-Some switch.is_free s.objects slot None h).0

pub object_within : (s : Switch) (slot : ℕ) → is_some (switch.object_at s slot) ≡ true → slot < length s.objects
object_within s slot h = at_slot (slice_get s.objects slot) refl
  where
    at_slot : (o : Option (Option Object)) → slice_get s.objects slot ≡ o → slot < length s.objects
    at_slot None none = absurd (true≢false (sym h ∙ ap (λ (o : Option (Option Object)). is_some (switch.flattened o)) none))
    at_slot (Some object) some = slice_get_within s.objects slot object some

-- whose slot it is, seen through a reference
pub seen_some : {X : Type 0} (o : Option (Bor X)) → is_some (option_copied o) ≡ is_some o
seen_some None = refl
seen_some (Some x) = refl
