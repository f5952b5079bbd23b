-- What a mounting does to a back whose incarnation has ended.
use Rattle.std.specs.Prelude.{◌≡◌, ◌⊎◌, ℕ, ◌+◌, ◌-◌, ◌≤◌, Bool, not, ◌==◌, ◌&&◌, if◌then◌else◌, List, [], ◌∷◌, ◌++◌, length, Option, None, Result, Ok, vec_len}
use Rattle.std.specs.Vec.{vec_capacity}
use Rattle.do_disk.specs.Disk.{IfTold, HasRisen}
use Rattle.batch_journal.specs.Moments.{LeavesOnly, TellsAsBefore, IsTold}
use Rattle.batch_journal.specs.Mounting.{IsMountOf, ImageOrSame}
use Rattle.batch_journal.specs.Refused.{IsForeign, IsDamaged, IsMixed}
use Rattle.batch_journal.specs.Rest.{IsStaged, disk_in}
use Rattle.do_value.specs.declared.fault.NoMemory.{NoMemory}
use Rattle.storage_map.specs.declared.op.Op.{Op}
use Rattle.timeline.specs.declared.notice.Notice.{Notice}
use Rattle.timeline.specs.declared.notice.Notice.TheVariants as notice
use Rattle.timeline.specs.declared.notice.Stepped.{Stepped}
use Rattle.timeline.specs.declared.notice.Stepped.TheVariants.{Nothing}
use Rattle.output_gate.specs.Serving.{alarm_of, IsUnmounted, IsAsBefore}
use Rattle.output_gate.specs.Storing.{IsDiskOf}
use Rattle.output_gate.specs.Taking.{is_wanted}
use Rattle.output_gate.specs.declared.mending.Found.{Found}
use Rattle.output_gate.specs.declared.mending.Found.TheVariants as found
use Rattle.batch_journal.specs.Rest.{end_of, limit_of}
use Rattle.batch_journal.specs.declared.journal.Journal.{Journal}
use Rattle.batch_journal.specs.declared.mount.Mounted.{Mounted as JustMounted}
use Rattle.storage_cache.specs.Cached.{Cached, of_index}
use Rattle.storage_map.specs.Indexed.{Indexed}
use Rattle.storage_map.specs.Limits.{Object}
use Rattle.timeline.specs.Logs.{backed}
use Rattle.timeline.specs.declared.back_log.BackLog.{BackLog}
use Rattle.output_gate.specs.declared.back.Back.{Back}
use Rattle.output_gate.specs.declared.back.Ending.{Ending}
use Rattle.output_gate.specs.declared.back.Mode.TheVariants.{Mounted, Wanted, Down}
use Rattle.output_gate.specs.declared.store.Store.TheVariants as store

-- A journal of this object, or without an object, may be the slot's.
abbrev pub is_own_object : (found identity : Option Object) → Type 0
is_own_object found identity = (found ≡ identity) ⊎ (found ≡ None)

-- How many batches of the ended incarnation the journal that was mounted has.
abbrev pub kept_at : Ending → (end : ℕ) → ℕ
kept_at ending end = if not (end == ending.end) then ending.whole else ending.flown

-- The next incarnation begins over this journal and the index of its mounting.
pub record Begins {D : Type 0} (old new : Back D) (ending : Ending) (journal : Journal D) (cache : Cached) : Type 0 where
  pub log : backed new.log ≡ record (backed old.log)
      { ends = old.log.ends.items ++ record { kept = kept_at ending (end_of journal); cause = ending.cause } ∷ [] }
  pub same : new ≡ record old {
    store = store.Journal journal;
    cache = cache;
    mode = Mounted;
    durable = old.durable + (kept_at ending (end_of journal) - ending.flown);
    before = old.durable + (kept_at ending (end_of journal) - ending.flown);
    needs = old.durable + (kept_at ending (end_of journal) - ending.flown);
    log = new.log;
  }

-- The mounting failed.
pub record Misses {D : Type 0} (old new : Back D) (ending : Ending) (disk : D) (before after : ℕ) : Type 0 where
  pub log : backed new.log ≡ record (backed old.log) { downs = old.log.downs.items ++ record { incarnation = old.number; before = before; after = after } ∷ [] }
  pub same : new ≡ record old { store = store.Disk disk; mode = Down ending; log = new.log }

-- What a mounting of this disk gave: a journal over it, or the disk; a crash meanwhile leaves what one might have left before.
abbrev pub IsFound : {D : Type 0} → (D → ℕ) → (D → ℕ → List ℕ → Type 0) → (D → Option (List ℕ)) → (D → List ℕ → Type 0) → D → Found D → Type 0
IsFound moment_of left_since told image disk (found.Mounted journal identity cache) =
    ((index : Indexed) × (cache ≡ of_index index)
    × IsMountOf told image moment_of left_since disk (record { journal = journal; identity = identity; index = index }))
    × ((object : Object) → IsStaged journal object [])
    × LeavesOnly moment_of left_since disk (disk_in journal) (ImageOrSame (told disk) (image disk)) × TellsAsBefore (told disk) (told (disk_in journal))
IsFound moment_of left_since told image disk (found.Refused left) =
    LeavesOnly moment_of left_since disk left (ImageOrSame (told disk) (image disk)) × TellsAsBefore (told disk) (told left)
IsFound moment_of left_since told image disk (found.NoMemory left) =
    LeavesOnly moment_of left_since disk left (ImageOrSame (told disk) (image disk)) × TellsAsBefore (told disk) (told left)

-- This was mounted, with a cache of its index; or memory was wanting for that, and its disk is left.
abbrev pub HasCache : {D : Type 0} → JustMounted D → Found D → Type 0
HasCache mounted (found.Mounted journal identity cache) =
    (journal ≡ mounted.journal) × (identity ≡ mounted.identity) × (cache ≡ of_index mounted.index)
HasCache mounted (found.Refused left) = ⊥
HasCache mounted (found.NoMemory left) = left ≡ disk_in mounted.journal

-- the file is refused: it is foreign, damaged or of two objects
abbrev pub IsRefusedFile : List ℕ → Type 0
IsRefusedFile c = ((place : ℕ) × IsForeign c place) ⊎ ((place : ℕ) × IsDamaged c place) ⊎ ((first : Object) × (other : Object) × IsMixed c first other)

-- A mounting of this disk is refused where the disk's count of faults rose, or for its file.
abbrev pub IsRefusedFor : {D : Type 0} → (D → ℕ) → (D → Option (List ℕ)) → D → Found D → Type 0
IsRefusedFor faults_of told disk (found.Refused left) = HasRisen (faults_of disk) (faults_of left) ⊎ IfTold (told disk) IsRefusedFile
IsRefusedFor faults_of told disk found = Unit {0}

-- The journal has the limit with which it was mounted.
abbrev pub IsLimited : {D : Type 0} → ℕ → Found D → Type 0
IsLimited limit (found.Mounted journal identity cache) = limit_of journal ≡ limit
IsLimited limit found = Unit {0}

-- The disk's count of faults is as before where the mounting was good, and never falls.
abbrev pub CountsFound : {D : Type 0} → (D → ℕ) → D → Found D → Type 0
CountsFound faults_of disk (found.Mounted journal identity cache) = faults_of (disk_in journal) ≡ faults_of disk
CountsFound faults_of disk (found.Refused left) = HasRisen (faults_of disk) (faults_of left) ⊎ (faults_of left ≡ faults_of disk)
CountsFound faults_of disk (found.NoMemory left) = faults_of left ≡ faults_of disk

-- Where a mounting of a disk that tells its content left the object down, the disk's count of faults rose meanwhile.
abbrev pub FallsByFault : {D : Type 0} → (D → ℕ) → (D → Option (List ℕ)) → (old new : Back D) → Type 0
FallsByFault {D} faults_of told old new = (disk left : D) (ending : Ending) → new.mode ≡ Down ending → IsDiskOf old.store disk → IsDiskOf new.store left
    → IsTold (told disk) → HasRisen (faults_of disk) (faults_of left)

-- A back mends: it isn't stuck, and a mounting is wanted.
abbrev pub may_mend : {D : Type 0} → Back D → Bool
may_mend back = not back.stuck && is_wanted back.mode

-- the log has the room of what a mounting leaves in it
pub record MendRoom (log : BackLog) : Type 0 where
  pub ends : vec_len log.ends + 1 ≤ vec_capacity log.ends
  pub downs : vec_len log.downs + 1 ≤ vec_capacity log.downs

pub record CanBegin {D : Type 0} (old : Back D) (ending : Ending) : Type 0 where
  pub more : ending.flown ≤ ending.whole
  pub few : old.durable + (ending.whole - ending.flown) ≤ length old.log.taken.items
  pub room : vec_len old.log.ends + 1 ≤ vec_capacity old.log.ends

pub record CanMend {D : Type 0} (moment_of : D → ℕ) (left_since : D → ℕ → List ℕ → Type 0) (told : D → Option (List ℕ)) (image : D → List ℕ → Type 0)
    (faults_of : D → ℕ)
    (old : Back D) (ending : Ending) : Type 0 where
  pub start : List (List Op)
  pub opening : ℕ
  pub back : IsUnmounted moment_of left_since told image faults_of start opening old
  pub wanted : old.mode ≡ Wanted ending
  pub room : MendRoom old.log

-- The next incarnation began, with a journal of the same limit, or the mounting failed, with the disk's counts of faults before and
-- after; and this the front is told.
pub record HasBegun {D : Type 0} (old new : Back D) (ending : Ending) (told : Notice) : Type 0 where
  pub journal : Journal D
  pub begins : Begins old new ending journal new.cache
  pub limit : limit_of journal ≡ old.limit
  pub notice : told ≡ notice.Fresh old.number (alarm_of new) ending.cause

pub record HasMissed {D : Type 0} (faults_of : D → ℕ) (old new : Back D) (ending : Ending) (told : Notice) : Type 0 where
  pub disk : D
  pub left : D
  pub at : IsDiskOf old.store disk
  pub misses : Misses old new ending left (faults_of disk) (faults_of left)
  pub notice : told ≡ notice.Down ending.cause (faults_of disk) (faults_of left)

abbrev pub Remounts : {D : Type 0} → (D → ℕ) → (old new : Back D) → Ending → Notice → Type 0
Remounts faults_of old new ending told = HasBegun old new ending told ⊎ HasMissed faults_of old new ending told

-- Nothing is done, and all is as before.
pub record IsIdleMend {D : Type 0} (old new : Back D) (sent_before sent : List Notice) (result : Result Stepped NoMemory) : Type 0 where
  pub nothing : result ≡ Ok Nothing
  pub back : new ≡ old
  pub told : sent ≡ sent_before

-- The journal was mounted again, or that failed, and the front is told.
pub record Mends {D : Type 0} (faults_of : D → ℕ) (old new : Back D) (sent_before sent : List Notice) : Type 0 where
  pub ending : Ending
  pub notice : Notice
  pub wanted : old.mode ≡ Wanted ending
  pub remounts : Remounts faults_of old new ending notice
  pub told : sent ≡ sent_before ++ notice ∷ []

-- Memory was wanting: the front isn't told, and the log, what is held, how the back stands and what it counts are as before, or the
-- notice of a mounting is lost, after which the back is as that left it, but for the note that memory was wanting.
pub record LosesMend {D : Type 0} (faults_of : D → ℕ) (old new : Back D) (sent_before sent : List Notice) : Type 0 where
  pub told : sent ≡ sent_before
  pub log : IsAsBefore old new ⊎ ((ending : Ending) × (notice : Notice) × (old.mode ≡ Wanted ending)
      × Remounts faults_of old (record new { stopped = old.stopped }) ending notice)
