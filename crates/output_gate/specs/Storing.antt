-- What a back does with its disk.
use Rattle.std.specs.Prelude.{◌≡◌, ◌-◌, ◌^◌, ◌<◌, ◌≤◌, min, ℕ, true, false, List, [], ◌∷◌, ◌++◌, Option, Result, OnOk, OnErr, IfOk, IfErr}
use Rattle.do_disk.specs.Disk.{Rose}
use Rattle.storage_cache.specs.Cached.{Cached}
use Rattle.storage_map.specs.Contents.{Contents, apply}
use Rattle.storage_map.specs.Readings.{reading}
use Rattle.storage_map.specs.declared.answer.Reading.{Reading}
use Rattle.storage_map.specs.declared.ask.StoreAsk.{StoreAsk}
use Rattle.storage_map.specs.Limits.{Object}
use Rattle.storage_map.specs.declared.op.Op.{Op}
use Rattle.batch_journal.specs.Frames.{Frame, Name}
use Rattle.batch_journal.specs.Moments.{IsTold, LeavesOnly, TellsAsBefore}
use Rattle.batch_journal.specs.Rest.{IsAtRest, IsStaged, RecoversToOneOf, disk_in, end_of, limit_of, needed}
use Rattle.batch_journal.specs.Staged.{frame_of}
use Rattle.batch_journal.specs.declared.journal.Journal.{Journal}
use Rattle.do_value.specs.declared.fault.NoMemory.{NoMemory}
use Rattle.timeline.specs.Passed.{discards}
use Rattle.timeline.specs.declared.caller.Cause.{Cause}
use Rattle.timeline.specs.declared.caller.Cause.TheVariants as cause
use Rattle.object_storage.specs.Reads.{StaysStored}
use Rattle.object_storage.specs.Steps.{CountsReads}
use Rattle.object_storage.specs.Stored.{HasStored, HasKept, HasSome}
use Rattle.object_storage.specs.declared.fault.AnswerFault.{AnswerFault}
use Rattle.output_gate.specs.declared.store.Fault.{Fault}
use Rattle.output_gate.specs.declared.store.Store.{Store}
use Rattle.output_gate.specs.declared.store.Store.TheVariants as store

-- the disk that is in the store
abbrev pub IsDiskOf : {D : Type 0} → Store D → D → Type 0
IsDiskOf (store.Journal journal) disk = disk ≡ disk_in journal
IsDiskOf (store.Disk bare) disk = disk ≡ bare
IsDiskOf store.Away disk = ⊥

-- A journal in the store has this limit; and one has the limit that the one before it had.
abbrev pub HasLimit : {D : Type 0} → ℕ → Store D → Type 0
HasLimit {D} limit kept = (journal : Journal D) → kept ≡ store.Journal journal → limit_of journal ≡ limit

abbrev pub KeepsLimit : {D : Type 0} → (old new : Store D) → Type 0
KeepsLimit old new = (limit : ℕ) → HasLimit limit old → HasLimit limit new

-- A journal in the store ends where the one that was in it before does.
abbrev pub KeepsEnd : {D : Type 0} → (old new : Store D) → Type 0
KeepsEnd {D} old new = (journal : Journal D) → new ≡ store.Journal journal
    → (before : Journal D) × (old ≡ store.Journal before) × (end_of journal ≡ end_of before)

-- The disk that was in the store is in it still, and a journal has the limit that it had and ends where it did.
pub record KeepsDisk {D : Type 0} (old new : Store D) : Type 0 where
  pub still : (disk : D) → IsDiskOf old disk → IsDiskOf new disk
  pub limit : KeepsLimit old new
  pub end : KeepsEnd old new

-- The store's disk tells its content exactly where the one before did.
abbrev pub KeepsTelling : {D : Type 0} → (D → Option (List ℕ)) → (old new : Store D) → Type 0
KeepsTelling {D} told old new = (disk left : D) → IsDiskOf old disk → IsDiskOf new left → TellsAsBefore (told disk) (told left)

-- The disk may have been read: it tells its content exactly where the one before did, and a journal has the limit that it had and ends where it
-- did.
pub record ReadsDisk {D : Type 0} (told : D → Option (List ℕ)) (old new : Store D) : Type 0 where
  pub telling : KeepsTelling told old new
  pub limit : KeepsLimit old new
  pub end : KeepsEnd old new

-- A batch is staged behind those that were, or memory was wanting and the same are; the journal's file is as it was.
pub record Stages {D A : Type 0} (told : D → Option (List ℕ)) (image : D → List ℕ → Type 0) (old : Journal D) (after : Store D) (object : Object)
    (batch : List Op)
    (result : Result A NoMemory) : Type 0 where
  pub new : Journal D
  pub is : after ≡ store.Journal new
  pub staged : OnOk result ((batches : List (List Op)) → IsStaged old object batches → IsStaged new object (batches ++ batch ∷ []))
  pub same_staged : OnErr result ((other : Object) (batches : List (List Op)) → IsStaged old other batches → IsStaged new other batches)
  pub frames : (frames : List Frame) → IsAtRest told image old frames → IsAtRest told image new frames
  pub disk : disk_in new ≡ disk_in old
  pub limit : limit_of new ≡ limit_of old
  pub end : end_of new ≡ end_of old

-- What is stored behind a batch that was staged, and its operations done.
pub record StagesOps {D A : Type 0} (told : D → Option (List ℕ)) (image : D → List ℕ → Type 0) (journal : Journal D) (old new : Cached) (object : Object)
    (batch : List Op)
    (result : Result A NoMemory) : Type 0 where
  pub stored : OnOk result ((frames : List Frame) (staged : List (List Op)) (m : Contents) → IsAtRest told image journal frames
      → IsStaged journal object staged → HasStored frames object staged old m → HasStored frames object (staged ++ batch ∷ []) new (apply m batch))
  pub kept : OnOk result ((frames : List Frame) → HasKept frames old → HasKept frames new)

-- An answer from a journal and its cache: what is stored in both answers the ask, over a disk that tells its content; a read that failed has the disk's
-- counts before it and after it.
pub record Reads {D : Type 0} (moment_of : D → ℕ) (left_since : D → ℕ → List ℕ → Type 0) (told : D → Option (List ℕ)) (image : D → List ℕ → Type 0)
    (faults_of : D → ℕ) (old : Journal D) (after : Store D) (had has : Cached) (ask : StoreAsk) (result : Result Reading AnswerFault) : Type 0 where
  pub new : Journal D
  pub is : after ≡ store.Journal new
  pub reading : (frames : List Frame) (object : Object) (staged : List (List Op)) (m : Contents) → IsAtRest told image old frames → IsTold (told (disk_in old))
      → HasStored frames object staged had m → HasKept frames had → IfOk result (λ answer. answer ≡ reading m ask)
  pub stays : StaysStored told image moment_of left_since (HasSome had) old had new has
  pub counts : CountsReads told faults_of (disk_in old) (disk_in new) result

-- A fault of an append: the disk's count of faults rose, or the journal would have passed its limit.
abbrev pub IsCauseOf : {D : Type 0} → (D → ℕ) → (old new : Journal D) → Cause → Type 0
IsCauseOf faults_of old new (cause.Disk before after) =
    (before ≡ faults_of (disk_in old)) × (after ≡ faults_of (disk_in new)) × Rose before after
IsCauseOf faults_of old new (cause.Full n limit) = (limit ≡ limit_of old) × ((object : Object) (batches : List (List Op)) → IsStaged old object batches
    → (limit < needed old (frame_of object batches)) × (n ≡ min (needed old (frame_of object batches)) (2 ^ 64 - 1)))
IsCauseOf faults_of old new c = ⊥

pub record IsFaultOf {D : Type 0} (faults_of : D → ℕ) (old new : Journal D) (fault : Fault) : Type 0 where
  pub cause : IsCauseOf faults_of old new fault.cause
  pub discards : discards fault.cause false ≡ true
  pub end : fault.end ≡ end_of old

-- What an append did to the cache: what was staged stands in the new frame; where it failed the cache is as it was.
pub record Stores {D A : Type 0} (told : D → Option (List ℕ)) (image : D → List ℕ → Type 0) (journal : Journal D) (old new : Cached)
    (result : Result A Fault) : Type 0 where
  pub stored : OnOk result ((frames : List Frame) (object : Object) (staged : List (List Op)) (m : Contents) → IsAtRest told image journal frames
      → IsStaged journal object staged → Name object frames → HasStored frames object staged old m
      → HasStored (frames ++ frame_of object staged ∷ []) object [] new m)
  pub kept : OnOk result ((frames : List Frame) (object : Object) (staged : List (List Op)) → HasKept frames old
      → HasKept (frames ++ frame_of object staged ∷ []) new)
  pub same : OnErr result (new ≡ old)

-- What an append did: it wrote one frame; or it didn't, for this cause, and the journal's end was here before.
pub record Appends {D : Type 0} (moment_of : D → ℕ) (left_since : D → ℕ → List ℕ → Type 0) (told : D → Option (List ℕ)) (image : D → List ℕ → Type 0)
    (faults_of : D → ℕ) (old : Journal D) (after : Store D) (result : Result (Unit {0}) Fault) : Type 0 where
  pub new : Journal D
  pub is : after ≡ store.Journal new
  pub appended : OnOk result
      ((frames : List Frame) (object : Object) (batches : List (List Op)) → IsAtRest told image old frames → IsStaged old object batches → Name object frames
      → IsAtRest told image new (frames ++ frame_of object batches ∷ []))
  pub unstaged : OnOk result ((object : Object) → IsStaged new object [])
  pub any_moment : (frames : List Frame) (object : Object) (batches : List (List Op)) → IsAtRest told image old frames → IsStaged old object batches
      → Name object frames
      → LeavesOnly moment_of left_since (disk_in old) (disk_in new) (RecoversToOneOf frames (frame_of object batches))
  pub ended : IfErr result (λ fault. IsFaultOf faults_of old new fault)
  pub full_keeps : IfErr result
      (λ fault. (n limit : ℕ) (frames : List Frame) → fault.cause ≡ cause.Full n limit → IsAtRest told image old frames → IsAtRest told image new frames)
  pub later : faults_of (disk_in old) ≤ faults_of (disk_in new)
  pub telling : TellsAsBefore (told (disk_in old)) (told (disk_in new))
  pub limit : limit_of new ≡ limit_of old
