-- What a cache has, and which map it stands for. The map, batches and readings are those of `storage_map`.
use Rattle.std.specs.Prelude.{◌≡◌, ◌⊎◌, ◌≤◌, ℕ, List, [], None, Some, is_some}
use Rattle.std.specs.List.{Contains}
use Rattle.std.specs.FinMap.{empty, get}
use Rattle.do_value.specs.Tree.{size_of}
use Rattle.do_value.specs.Seen.{tree_of}
use Rattle.do_value.specs.declared.value.Value.{Value}
use Rattle.storage_map.specs.Contents.{Contents, Values, of_values, apply}
use Rattle.storage_map.specs.Indexed.{Indexed, index_ops}
use Rattle.storage_map.specs.declared.place.Place.{Place}
use Rattle.storage_map.specs.declared.op.Op.{Op}

-- The place of each key and the alarm; the values of keys that aren't on the disk yet; and places with the values that are kept
-- of them.
pub record Cached : Type 0 where
  pub index : Indexed
  pub unflushed : Values
  pub kept : List (Place × Value)

-- nothing but an index
abbrev pub of_index : Indexed → Cached
of_index index = record { index = index; unflushed = empty; kept = [] }

-- the operations of a batch, with a place for each value that they put
abbrev pub take_all : Cached → List Op → List Place → Cached
take_all cache ops places = record {
  index = index_ops cache.index ops places;
  unflushed = (apply (of_values cache.unflushed) ops).values;
  kept = cache.kept;
}

-- all values are on the disk
abbrev pub flush_all : Cached → Cached
flush_all cache = record { index = cache.index; unflushed = empty; kept = cache.kept }

-- The cache is one of this map: it has the map's alarm, a place for each of its keys and for no other, and no other value of them.
pub record IsCacheOf (cache : Cached) (m : Contents) : Type 0 where
  pub alarm : cache.index.alarm ≡ m.alarm
  pub keys : (key : List ℕ) → is_some (get cache.index.places key) ≡ is_some (get m.values key)
  pub unflushed : (key : List ℕ) (value old : Value) → get cache.unflushed key ≡ Some value → get m.values key ≡ Some old → value ≡ old

-- A map agrees with the kept values: where the place of a key is kept, the kept value is the key's.
abbrev pub AgreesWith : Cached → Contents → Type 0
AgreesWith cache m = (key : List ℕ) (place : Place) (value : Value)
    → get cache.index.places key ≡ Some place → get cache.unflushed key ≡ None → Contains cache.kept (place, value)
    → get m.values key ≡ Some value

-- Nothing else is changed, and what is kept was kept before, or is this value of this place.
pub record KeepsOnly (old new : Cached) (place : Place) (value : Value) : Type 0 where
  pub index : new.index ≡ old.index
  pub unflushed : new.unflushed ≡ old.unflushed
  pub kept : (p : Place) (v : Value) → Contains new.kept (p, v) → Contains old.kept (p, v) ⊎ ((p ≡ place) × (v ≡ value))

-- the most bytes of a value that is kept
abbrev pub most_kept_bytes : ℕ
most_kept_bytes = 16384

-- A value that wasn't kept before is no larger.
abbrev pub KeepsSmall : Cached → Cached → Type 0
KeepsSmall old new = (p : Place) (v : Value) → Contains new.kept (p, v)
    → Contains old.kept (p, v) ⊎ (size_of (tree_of v) ≤ most_kept_bytes)

-- Nothing is changed, but that values may be kept no more, or in another order.
pub record KeepsNoMore (old new : Cached) : Type 0 where
  pub index : new.index ≡ old.index
  pub unflushed : new.unflushed ≡ old.unflushed
  pub kept : (p : Place) (v : Value) → Contains new.kept (p, v) → Contains old.kept (p, v)
