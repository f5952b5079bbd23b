-- A cache over a journal: which map it is one of, what of it stands in the journal's frames, and what will stand there once the
-- staged batches are appended. This project's profile.
use Rattle.std.specs.Prelude.{◌≡◌, ◌≢◌, ◌<◌, ◌^◌, List, [], ◌∷◌, ◌++◌, length}
use Rattle.storage_map.specs.Limits.{Object}
use Rattle.storage_map.specs.Contents.{Contents}
use Rattle.storage_map.specs.Indexed.{StandsFor}
use Rattle.storage_map.specs.declared.op.Op.{Op}
use Rattle.storage_cache.specs.Cached.{Cached, IsCacheOf}
use Rattle.storage_cache.specs.Standing.{FlushedStand, KeptStand}
use Rattle.batch_journal.specs.Frames.{Frame, journal_bytes}
use Rattle.batch_journal.specs.Staged.{frame_of}
use Rattle.batch_journal.specs.Places.{IsPlaceIn}

-- the frames with one of these batches of the object
abbrev pub with_staged : List Frame → Object → List (List Op) → List Frame
with_staged frames object batches = frames ++ frame_of object batches ∷ []

-- Over any disk: the cache is one of the map. What is flushed stands in the frames. Its index stands for the map in the frames, where
-- nothing is staged, and else in these and the frame of what is staged, whatever is staged behind it.
pub record HasStored (frames : List Frame) (object : Object) (staged : List (List Op)) (cache : Cached) (m : Contents) : Type 0 where
  pub cache_of : IsCacheOf cache m
  pub flushed : FlushedStand (IsPlaceIn frames) cache m
  pub at_rest : staged ≡ [] → StandsFor (IsPlaceIn frames) cache.index m
  pub once_appended : (later : List (List Op)) → staged ≢ []
      → length (journal_bytes (with_staged frames object (staged ++ later))) < 2 ^ 64
      → StandsFor (IsPlaceIn (with_staged frames object (staged ++ later))) cache.index m

-- Over a disk that tells its content also this: what is kept stands in the frames.
abbrev pub HasKept : List Frame → Cached → Type 0
HasKept frames cache = KeptStand (IsPlaceIn frames) cache

-- the cache has some map stored in the frames
abbrev pub HasSome : Cached → List Frame → Type 0
HasSome cache frames = (object : Object) × (staged : List (List Op)) × (m : Contents) × HasStored frames object staged cache m
