-- What the storage of a slot contains, as it is printed, and how it is read where its values stand. This project's profile.
use Rattle.std.specs.Prelude.{◌≡◌, ◌≤◌, ℕ, ℤ, List, map, Option, None, Result, IsErrOf}
use Rattle.std.proofs.Common.{refl}
use Rattle.std.specs.Coded.{Coded, code_by, coded×, coded_list, coded_option, coded_ℕ, coded_ℤ}
use Rattle.std.specs.FinMap.{entries}
use Rattle.batch_journal.specs.Frames.{Frame, operations_in}
use Rattle.batch_journal.specs.Moments.{IsTold, OnlyReads}
use Rattle.batch_journal.specs.Rest.{IsAtRest, disk_in}
use Rattle.batch_journal.specs.declared.journal.Journal.{Journal}
use Rattle.batch_journal.specs.declared.read_stored.ReadFault.{ReadFault}
use Rattle.batch_journal.specs.declared.read_stored.ReadFault.TheVariants.{BadValue, DiskFailed}
use Rattle.do_disk.specs.Disk.{Rose}
use Rattle.do_value.specs.contracts.value.Value as one_value
use Rattle.do_value.specs.declared.value.Value.{Value}
use Rattle.storage_map.specs.Contents.{Contents, nothing, apply}

-- pairs of a key and its value, ascending by key, and an alarm: its time and its retry number
pub record Storage : Type 0 where
  pub pairs : List (List ℕ × Value)
  pub alarm : Option (ℤ × ℕ)

-- a code of it, by which its model is kept
abbrev pub storage_code : Coded Storage
storage_code =
    code_by (List (List ℕ × Value) × Option (ℤ × ℕ)) (coded× (coded_list (coded× (coded_list coded_ℕ) one_value.the_row.coded))
    (coded_option (coded× coded_ℤ coded_ℕ)))
    (λ storage. (storage.pairs, storage.alarm)) (λ p. record { pairs = p.0; alarm = p.1 }) (λ _. refl)

-- the storage of a map
abbrev pub storage_of : Contents → Storage
storage_of m = record { pairs = entries m.values; alarm = m.alarm }

-- what frames leave
abbrev pub left_by : List Frame → Contents
left_by frames = apply nothing (operations_in frames)

-- the keys of pairs
abbrev pub keys_of : {X : Type 0} → List (List ℕ × X) → List (List ℕ)
keys_of pairs = map (λ p. p.0) pairs

-- It was read of these frames: its alarm and its keys are those that they leave, and over a disk that tells its content so are its values.
pub record IsReadOf (told : Option (List ℕ)) (frames : List Frame) (storage : Storage) : Type 0 where
  pub alarm : storage.alarm ≡ (left_by frames).alarm
  pub keys : keys_of storage.pairs ≡ keys_of (entries (left_by frames).values)
  pub whole : IsTold told → storage ≡ storage_of (left_by frames)

-- Values were read and nothing was written: the journal is at rest with the frames that it had. Where it failed the count of faults rose, and
-- bytes that are no value come over no disk that tells its content.
pub record ReadsValues {D A : Type 0} (told : D → Option (List ℕ)) (image : D → List ℕ → Type 0) (moment_of : D → ℕ) (left_since : D → ℕ → List ℕ → Type 0)
    (faults_of : D → ℕ) (old new : Journal D) (result : Result A ReadFault) : Type 0 where
  pub frames : (fs : List Frame) → IsAtRest told image old fs → IsAtRest told image new fs
  pub reads : OnlyReads told image moment_of left_since (disk_in old) (disk_in new)
  pub failed : IsErrOf result DiskFailed → Rose (faults_of (disk_in old)) (faults_of (disk_in new))
  pub bad : (place : ℕ) → IsErrOf result (BadValue place) → told (disk_in old) ≡ None
  pub later : faults_of (disk_in old) ≤ faults_of (disk_in new)
