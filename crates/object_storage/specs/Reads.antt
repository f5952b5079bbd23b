-- What is read of what a look gives, by how many calls, and how a journal and a cache stay as they are over it.
use Rattle.std.specs.Prelude.{◌≡◌, ℕ, List, [], ◌∷◌, map, Option}
use Rattle.std.specs.List.{AllByRecursion, filter}
use Rattle.std.specs.Str.{bytes_eq}
use Rattle.std.specs.Set.{is_member}
use Rattle.std.specs.FinMap.{get, entries}
use Rattle.do_value.specs.declared.value.Value.{Value}
use Rattle.do_disk.specs.Disk.{next_count}
use Rattle.storage_map.specs.Limits.{Object}
use Rattle.storage_map.specs.Contents.{Contents}
use Rattle.storage_map.specs.Readings.{listed}
use Rattle.storage_map.specs.declared.ask.StoreAsk.{StoreAsk}
use Rattle.storage_map.specs.declared.ask.StoreAsk.TheVariants.{Get, GetMany, List as Listed, Alarm as AskedAlarm}
use Rattle.storage_map.specs.declared.op.Op.{Op}
use Rattle.storage_cache.specs.Cached.{Cached}
use Rattle.storage_cache.specs.Looks.{AreGiven, pair_at}
use Rattle.storage_cache.specs.declared.held.Held.{Held}
use Rattle.storage_cache.specs.declared.held.Held.TheVariants.{Value as Given, At}
use Rattle.batch_journal.specs.Frames.{Frame}
use Rattle.batch_journal.specs.Moments.{IsTold, OnlyReads}
use Rattle.batch_journal.specs.Places.{IsPlaceIn}
use Rattle.batch_journal.specs.Rest.{disk_in, end_of, limit_of, IsAtRest, IsStaged}
use Rattle.batch_journal.specs.declared.journal.Journal.{Journal}
use Rattle.object_storage.specs.Stored.{HasKept}

-- the keys of pairs
abbrev pub keys_of : {X : Type 0} → List (List ℕ × X) → List (List ℕ)
keys_of pairs = map (λ p. p.0) pairs

-- A value stands in the frames where only a place is held.
abbrev pub CanBeRead : List Frame → Held → Type 0
CanBeRead frames (Given value) = Unit {0}
CanBeRead frames (At place) = (value : Value) × IsPlaceIn frames place value

abbrev pub AllCanBeRead : List Frame → List (List ℕ × Held) → Type 0
AllCanBeRead frames hs = AllByRecursion (λ h. CanBeRead frames h.1) hs

-- This is read of what is held: the value itself, or one that stands at the place.
abbrev pub IsReadOf : List Frame → Held → Value → Type 0
IsReadOf frames (Given value) read = read ≡ value
IsReadOf frames (At place) read = IsPlaceIn frames place read

-- so it is of each pair, in order
abbrev pub AreReadOf : List Frame → List (List ℕ × Held) → List (List ℕ × Value) → Type 0
AreReadOf frames [] [] = Unit {0}
AreReadOf frames [] (r ∷ rs) = ⊥
AreReadOf frames (h ∷ hs) [] = ⊥
AreReadOf frames (h ∷ hs) (r ∷ rs) = (r.0 ≡ h.0) × IsReadOf frames h.1 r.1 × AreReadOf frames hs rs

-- what is given of the pairs that a map has of an ask
abbrev pub AreAsked : Cached → Contents → StoreAsk → List (List ℕ × Held) → Type 0
AreAsked cache m (Get key) hs = AreGiven cache hs (pair_at key (get m.values key))
AreAsked cache m (GetMany keys) hs = AreGiven cache hs (filter (λ p. is_member bytes_eq keys p.0) (entries m.values))
AreAsked cache m (Listed o) hs = AreGiven cache hs (listed o (entries m.values))
AreAsked cache m AskedAlarm hs = hs ≡ []

-- a disk's count of calls after a read of what is held, which is one call for a place and none for a value; and after one of each pair
abbrev pub moment_after : Held → ℕ → ℕ
moment_after (Given value) moment = moment
moment_after (At place) moment = next_count moment

abbrev pub moment_behind : List (List ℕ × Held) → ℕ → ℕ
moment_behind [] moment = moment
moment_behind (h ∷ hs) moment = moment_behind hs (moment_after h.1 moment)

-- Calls that only read: the journal is at rest with the frames that it had, the same is staged, and it ends and is limited as before.
pub record StaysAtRest {D : Type 0} (told : D → Option (List ℕ)) (image : D → List ℕ → Type 0) (moment_of : D → ℕ) (left_since : D → ℕ → List ℕ → Type 0)
    (old new : Journal D) : Type 0 where
  pub frames : (fs : List Frame) → IsAtRest told image old fs → IsAtRest told image new fs
  pub staged : (object : Object) (batches : List (List Op)) → IsStaged old object batches → IsStaged new object batches
  pub end : end_of new ≡ end_of old
  pub limit : limit_of new ≡ limit_of old
  pub reads : OnlyReads told image moment_of left_since (disk_in old) (disk_in new)

-- Reads of a journal and what a cache kept of them: the journal is as before, and so are the cache's index and unflushed values. In
-- frames that Can, what is kept stands, over a disk that tells its content.
pub record StaysStored {D : Type 0} (told : D → Option (List ℕ)) (image : D → List ℕ → Type 0) (moment_of : D → ℕ) (left_since : D → ℕ → List ℕ → Type 0)
    (Can : List Frame → Type 0) (old : Journal D) (had : Cached) (new : Journal D) (has : Cached) : Type 0 where
  pub journal : StaysAtRest told image moment_of left_since old new
  pub index : has.index ≡ had.index
  pub unflushed : has.unflushed ≡ had.unflushed
  pub kept : (frames : List Frame) → IsAtRest told image old frames → IsTold (told (disk_in old)) → Can frames → HasKept frames had → HasKept frames has
