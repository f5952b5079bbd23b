-- What the calls of a storage do to its journal.
use Rattle.std.specs.Prelude.{◌≡◌, ◌≤◌, ◌⊎◌, ℕ, List, [], ◌∷◌, ◌++◌, Option, None, Result, OnOk, OnErr, IsErrOf}
use Rattle.do_disk.specs.Disk.{Rose, next_count}
use Rattle.do_value.specs.declared.fault.NoMemory.{NoMemory}
use Rattle.storage_map.specs.Limits.{Object}
use Rattle.storage_map.specs.declared.op.Op.{Op}
use Rattle.batch_journal.specs.Frames.{Frame, Name}
use Rattle.batch_journal.specs.Moments.{LeavesOnly, TellsAsBefore}
use Rattle.batch_journal.specs.Rest.{IsAtRest, IsStaged, IsFull, RecoversToOneOf, disk_in, end_of, limit_of}
use Rattle.batch_journal.specs.Staged.{frame_of}
use Rattle.batch_journal.specs.declared.journal.AppendFault.{AppendFault}
use Rattle.batch_journal.specs.declared.journal.AppendFault.TheVariants.{DiskFailed, Full}
use Rattle.batch_journal.specs.declared.journal.Journal.{Journal}
use Rattle.object_storage.specs.Stored.{with_staged}
use Rattle.object_storage.specs.declared.fault.AnswerFault.{AnswerFault}
use Rattle.object_storage.specs.declared.fault.AnswerFault.TheVariants.{ReadFailed}

-- A batch is staged behind those that were, or memory was wanting and the same are; no call of the disk was made.
pub record Stages {D A : Type 0} (told : D → Option (List ℕ)) (image : D → List ℕ → Type 0) (old new : Journal D) (object : Object) (batch : List Op)
    (result : Result A NoMemory) : Type 0 where
  pub staged : OnOk result ((batches : List (List Op)) → IsStaged old object batches → IsStaged new object (batches ++ batch ∷ []))
  pub same_staged : OnErr result ((other : Object) (batches : List (List Op)) → IsStaged old other batches → IsStaged new other batches)
  pub frames : (fs : List Frame) → IsAtRest told image old fs → IsAtRest told image new fs
  pub disk : disk_in new ≡ disk_in old
  pub end : end_of new ≡ end_of old
  pub limit : limit_of new ≡ limit_of old

-- Why an append wrote nothing: the disk's count of faults rose; or the frame passes the limit, and then no call of the disk was made and
-- what was staged is dropped.
pub record FailsToAppend {D : Type 0} (told : D → Option (List ℕ)) (image : D → List ℕ → Type 0) (faults_of : D → ℕ) (old new : Journal D)
    (result : Result (Unit {0}) AppendFault) : Type 0 where
  pub failed : IsErrOf result DiskFailed → Rose (faults_of (disk_in old)) (faults_of (disk_in new))
  pub full : (object : Object) (batches : List (List Op)) → IsStaged old object batches → IsFull old (frame_of object batches) result
  pub drops : (needed limit : ℕ) → IsErrOf result (Full needed limit) → (disk_in new ≡ disk_in old) × ((object : Object) → IsStaged new object [])
  pub keeps : (needed limit : ℕ) (frames : List Frame) → IsErrOf result (Full needed limit) → IsAtRest told image old frames → IsAtRest told image new frames
  pub end : OnErr result (end_of new ≡ end_of old)

-- An append wrote what was staged as one frame, by four calls, or it failed; a crash at any moment of it leaves the old frames, or these
-- and the new one.
pub record Appends {D : Type 0} (moment_of : D → ℕ) (left_since : D → ℕ → List ℕ → Type 0) (told : D → Option (List ℕ)) (image : D → List ℕ → Type 0)
    (faults_of : D → ℕ) (old new : Journal D) (result : Result (Unit {0}) AppendFault) : Type 0 where
  pub appended : OnOk result ((frames : List Frame) (object : Object) (batches : List (List Op)) → IsAtRest told image old frames → IsStaged old object batches
      → Name object frames → IsAtRest told image new (with_staged frames object batches))
  pub unstaged : OnOk result ((object : Object) → IsStaged new object [])
  pub calls : OnOk result (moment_of (disk_in new) ≡ next_count (next_count (next_count (next_count (moment_of (disk_in old))))))
  pub any_moment : (frames : List Frame) (object : Object) (batches : List (List Op)) → IsAtRest told image old frames → IsStaged old object batches
      → Name object frames → LeavesOnly moment_of left_since (disk_in old) (disk_in new) (RecoversToOneOf frames (frame_of object batches))
  pub fails : FailsToAppend told image faults_of old new result
  pub later : faults_of (disk_in old) ≤ faults_of (disk_in new)
  pub telling : TellsAsBefore (told (disk_in old)) (told (disk_in new))
  pub limit : limit_of new ≡ limit_of old

-- The disk's count of faults is as before, but where a read failed: that answer has the count before and the count after, which is
-- higher, or the same where a disk that doesn't tell its content gave bytes that are no value.
pub record CountsReads {D A : Type 0} (told : D → Option (List ℕ)) (faults_of : D → ℕ) (old new : D) (result : Result A AnswerFault) : Type 0 where
  pub failed : (before after : ℕ) → IsErrOf result (ReadFailed before after)
      → (before ≡ faults_of old) × (after ≡ faults_of new) × (Rose before after ⊎ ((after ≡ before) × (told old ≡ None)))
  pub steady : ((before after : ℕ) → IsErrOf result (ReadFailed before after) → ⊥) → faults_of new ≡ faults_of old
  pub later : faults_of old ≤ faults_of new
