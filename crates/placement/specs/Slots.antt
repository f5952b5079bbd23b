-- Which object has which slot. This project's profile: one slot per object, and the least free slot for an object without one.
use Rattle.std.specs.Prelude.{◌≡◌, ℕ, ◌<◌, Bool, false, ◌&&◌, List, length, Option, Some, None, is_none, position, set, get_or}
use Rattle.std.specs.Str.{bytes_eq}
use Rattle.storage_map.specs.Limits.{Object}
use Rattle.placement.specs.declared.answers.Placed.{Placed}
use Rattle.placement.specs.declared.answers.Placed.TheVariants.{Found, New}

-- the slots in order, each with its object if it has one
abbrev pub Slots : Type 0
Slots = List (Option Object)

-- the slot's object; no slot past the last has one
abbrev pub object_at : Slots → ℕ → Option Object
object_at slots slot = get_or slots slot None

-- the slot is there and has no object
pub record IsFree (slots : Slots) (slot : ℕ) : Type 0 where
  pub there : slot < length slots
  pub empty : object_at slots slot ≡ None

-- no object stands in two slots
abbrev pub IsOneEach : Slots → Type 0
IsOneEach slots = (a b : ℕ) (object : Object) → object_at slots a ≡ Some object → object_at slots b ≡ Some object → a ≡ b

-- both have the same class and the same name
abbrev pub same_object : Object → Object → Bool
same_object a b = bytes_eq a.0 b.0 && bytes_eq a.1 b.1

-- the object stands here
abbrev pub is_here : Object → Option Object → Bool
is_here object None = false
is_here object (Some other) = same_object object other

-- the slot in which the object stands
abbrev pub slot_of : Slots → Object → Option ℕ
slot_of slots object = position (is_here object) slots

-- the least slot that has no object
abbrev pub least_free : Slots → Option ℕ
least_free slots = position is_none slots

-- the slots with the object in this one
abbrev pub with_object : Slots → ℕ → Object → Slots
with_object slots slot object = set slots slot (Some object)

-- where an object goes that has this slot, if any, while this one is the least free, if any is
abbrev pub place_by : Option ℕ → Option ℕ → Option Placed
place_by (Some slot) free = Some (Found slot)
place_by None (Some slot) = Some (New slot)
place_by None None = None

-- where the object goes: to its own slot, else to the least free one
abbrev pub place : Slots → Object → Option Placed
place slots object = place_by (slot_of slots object) (least_free slots)

-- the slots once the object has gone there
abbrev pub moved : Slots → Object → Option Placed → Slots
moved slots object None = slots
moved slots object (Some (Found slot)) = slots
moved slots object (Some (New slot)) = with_object slots slot object

-- the slots once the object is placed
abbrev pub after : Slots → Object → Slots
after slots object = moved slots object (place slots object)
