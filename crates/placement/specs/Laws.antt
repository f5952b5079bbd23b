-- What a caller may rely on without a search of its own, each proved by a function of `laws`.
use Rattle.std.specs.Prelude.{◌≡◌, ◌≢◌, ◌↔◌, ℕ, ◌<◌, length, Some, None}
use Rattle.storage_map.specs.Limits.{Object}
use Rattle.placement.specs.Slots.{Slots, object_at, slot_of, least_free, with_object, after, IsFree, IsOneEach}

-- one slot each stays so, when an object is placed and when one that has no slot is adopted
pub record OneEachStays : Type 0 where
  pub placed : (slots : Slots) (object : Object) → IsOneEach slots → IsOneEach (after slots object)
  pub adopted : (slots : Slots) (slot : ℕ) (object : Object) → IsFree slots slot → slot_of slots object ≡ None → IsOneEach slots
      → IsOneEach (with_object slots slot object)

-- an object that has a slot stands there, and one that has none stands nowhere
pub record SlotOfIsWhere : Type 0 where
  pub some : (slots : Slots) (object : Object) (slot : ℕ) → IsOneEach slots
      → (slot_of slots object ≡ Some slot) ↔ (object_at slots slot ≡ Some object)
  pub none : (slots : Slots) (object : Object) → (slot_of slots object ≡ None) ↔ ((slot : ℕ) → object_at slots slot ≢ Some object)

-- the least free slot is free and each lower one has an object; where none is free each has one
pub record LeastFreeIsLeast : Type 0 where
  pub free : (slots : Slots) (slot : ℕ) → least_free slots ≡ Some slot → IsFree slots slot
  pub lower : (slots : Slots) (slot other : ℕ) → least_free slots ≡ Some slot → other < slot → object_at slots other ≢ None
  pub none : (slots : Slots) (slot : ℕ) → least_free slots ≡ None → slot < length slots → object_at slots slot ≢ None
