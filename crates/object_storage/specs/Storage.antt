-- The storage of one object on its disk, as its callers see it. This project's profile.
use Rattle.std.specs.Prelude.{◌≡◌, ℕ, List, Option}
use Rattle.storage_map.specs.Limits.{Object}
use Rattle.storage_map.specs.Contents.{Contents}
use Rattle.storage_map.specs.declared.ask.StoreAsk.{StoreAsk}
use Rattle.storage_map.specs.declared.op.Op.{Op}
use Rattle.storage_cache.specs.Cached.{Cached}
use Rattle.storage_cache.specs.declared.held.Held.{Held}
use Rattle.batch_journal.specs.Frames.{Frame}
use Rattle.batch_journal.specs.Moments.{IsTold}
use Rattle.batch_journal.specs.Rest.{disk_in, IsAtRest, IsStaged}
use Rattle.batch_journal.specs.declared.journal.Journal.{Journal}
use Rattle.object_storage.specs.Reads.{AreAsked, moment_behind}
use Rattle.object_storage.specs.Stored.{HasStored, HasKept}
use Rattle.object_storage.specs.declared.storage.Storage.{Storage}

-- its journal, its disk, and what its cache has
abbrev pub journal_in : {D : Type 0} → Storage D → Journal D
journal_in storage = storage.journal

abbrev pub disk_of : {D : Type 0} → Storage D → D
disk_of storage = disk_in storage.journal

abbrev pub cached_in : {D : Type 0} → Storage D → Cached
cached_in storage = storage.cache

-- It stands for this map of the object: its journal is at rest with these frames, these batches are staged behind them, and the cache
-- has the map stored in both. Over a disk that tells its content what is kept stands in the frames.
pub record IsStorage {D : Type 0} (told : D → Option (List ℕ)) (image : D → List ℕ → Type 0) (frames : List Frame) (object : Object)
    (staged : List (List Op)) (m : Contents) (storage : Storage D) : Type 0 where
  pub at_rest : IsAtRest told image (journal_in storage) frames
  pub unwritten : IsStaged (journal_in storage) object staged
  pub stored : HasStored frames object staged (cached_in storage) m
  pub kept : IsTold (told (disk_of storage)) → HasKept frames (cached_in storage)

-- it stands for some map
abbrev pub CanAnswer : {D : Type 0} → (D → Option (List ℕ)) → (D → List ℕ → Type 0) → Storage D → Type 0
CanAnswer told image storage = (frames : List Frame) × (object : Object) × (staged : List (List Op)) × (m : Contents)
    × IsStorage told image frames object staged m storage

-- after it stands for the same map, with the same frames and batches
abbrev pub StandsAsBefore : {D : Type 0} → (D → Option (List ℕ)) → (D → List ℕ → Type 0) → (old new : Storage D) → Type 0
StandsAsBefore told image old new = (frames : List Frame) (object : Object) (staged : List (List Op)) (m : Contents)
    → IsStorage told image frames object staged m old → IsStorage told image frames object staged m new

-- Of each pair that the map has of the ask its value was there or its place; each place was read by one call, and there was no other.
pub record ReadsPlaces {D : Type 0} (moment_of : D → ℕ) (m : Contents) (ask : StoreAsk) (old new : Storage D) : Type 0 where
  pub held : List (List ℕ × Held)
  pub asked : AreAsked (cached_in old) m ask held
  pub calls : moment_of (disk_of new) ≡ moment_behind held (moment_of (disk_of old))
