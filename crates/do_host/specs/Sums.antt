-- What the slots have under `n`, added up once their disks are mounted again. This project's profile.
use Rattle.std.specs.Prelude.{◌≡◌, ◌*◌, ℕ, ℤ, ◌+ℤ◌, ◌≤ℤ◌, pos, neg_ℤ, List, [], ◌∷◌, length, slice_get, codes, Option, Some, Result, IfOk, IfErr, ⊤}
use Rattle.std.specs.FinMap.{get}
use Rattle.batch_journal.specs.Frames.{Frame}
use Rattle.batch_journal.specs.Moments.{LeavesOnly}
use Rattle.batch_journal.specs.Mounting.{ImageOrSame}
use Rattle.batch_journal.specs.Recovery.{Recovers}
use Rattle.do_disk.specs.Disk.{IfTold, Rose}
use Rattle.do_value.specs.Limits.{most_number}
use Rattle.do_value.specs.declared.value.Value.{Value}
use Rattle.do_value.specs.declared.value.Value.TheVariants.{Num}
use Rattle.host_core.specs.Opening.{IsBad}
use Rattle.host_core.specs.declared.opening.OpenEnd.{OpenEnd}
use Rattle.host_core.specs.declared.opening.OpenEnd.TheVariants.{Failed, BadSlot, NoMemory}
use Rattle.host_core.specs.declared.report.SlotReport.{SlotReport}
use Rattle.host_core.specs.declared.settings.Bad.{Bad}
use Rattle.do_host.specs.Dump.{HasNoValue}
use Rattle.do_host.specs.Storage.{left_by}

-- what a value counts: a number itself, another value or none 0
abbrev pub counted : Option Value → ℤ
counted (Some (Num n)) = n
counted other = pos 0

-- what frames leave under `n`
abbrev pub number_left : List Frame → ℤ
number_left frames = counted (get (left_by frames).values (codes "n"))

-- the number of a slot whose file, where it is told, has this content: what the frames leave to which it recovers
abbrev pub IsNumberOf : Option (List ℕ) → ℤ → Type 0
IsNumberOf content n = IfTold content (λ c. (frames : List Frame) × Recovers c frames × (n ≡ number_left frames))

-- the sum of numbers
abbrev pub sum_of : List ℤ → ℤ
sum_of [] = pos 0
sum_of (n ∷ ns) = n +ℤ sum_of ns

-- so many slots have a sum that is no further from 0 than so many of the greatest numbers
abbrev pub IsSumOf : ℕ → ℤ → Type 0
IsSumOf slots sum = (neg_ℤ (pos (slots * most_number)) ≤ℤ sum) × (sum ≤ℤ pos (slots * most_number))

-- A row whose disk was mounted again, and which is as before but for that. A crash leaves of the disk what it might have left before, or, where
-- its file wasn't as a mounting leaves it, one that recovers to the same.
pub record IsMountedAgain {S : Type 0} (told : S → Option (List ℕ)) (image : S → List ℕ → Type 0) (moment_of : S → ℕ) (left_since : S → ℕ → List ℕ → Type 0)
    (row after : SlotReport S) : Type 0 where
  pub front : after.front ≡ row.front
  pub back : after.back ≡ row.back
  pub identity : after.identity ≡ row.identity
  pub leaves : LeavesOnly moment_of left_since row.store after.store (ImageOrSame (told row.store) (image row.store))

-- Why the sum isn't made at this slot, whose disk is this before it is mounted again and that after: it failed, or its file is bad.
pub record StopsAt {S : Type 0} (told : S → Option (List ℕ)) (faults_of : S → ℕ) (slot : ℕ) (before after : S) (end : OpenEnd) : Type 0 where
  pub failed : end ≡ Failed → Rose (faults_of before) (faults_of after)
  pub bad : (bad : Bad) → end ≡ BadSlot bad → IsBad (λ at. told before) [] slot bad

-- Why the number isn't read of a disk that was mounted.
pub record StopsUnread {S : Type 0} (told : S → Option (List ℕ)) (faults_of : S → ℕ) (slot : ℕ) (before after : S) (end : OpenEnd) : Type 0 where
  pub failed : end ≡ Failed → Rose (faults_of before) (faults_of after)
  pub bad : (bad : Bad) → end ≡ BadSlot bad → HasNoValue told slot bad before

-- some slot of these rows is such
pub record StopsSumming {S : Type 0} (told : S → Option (List ℕ)) (faults_of : S → ℕ) (rows after : List (SlotReport S)) (end : OpenEnd) : Type 0 where
  pub slot : ℕ
  pub row : SlotReport S
  pub row_after : SlotReport S
  pub here : slice_get rows slot ≡ Some row
  pub there : slice_get after slot ≡ Some row_after
  pub stops : StopsAt told faults_of slot row.store row_after.store end

-- so it is, or memory was wanting
abbrev pub StopsWhere : {S : Type 0} → (S → Option (List ℕ)) → (S → ℕ) → List (SlotReport S) → List (SlotReport S) → OpenEnd → Type 0
StopsWhere told faults_of rows after NoMemory = ⊤
StopsWhere told faults_of rows after end = StopsSumming told faults_of rows after end

-- the numbers of these rows, one each
pub record AreNumbersOf {S : Type 0} (told : S → Option (List ℕ)) (rows : List (SlotReport S)) (ns : List ℤ) : Type 0 where
  pub many : length ns ≡ length rows
  pub each : (slot : ℕ) (row : SlotReport S) (n : ℤ) → slice_get rows slot ≡ Some row → slice_get ns slot ≡ Some n → IsNumberOf (told row.store) n

-- The disks of the rows were mounted again, from slot 0 on up to one that stops it, or all, and then this is the sum of the numbers of the slots.
pub record Sums {S : Type 0} (told : S → Option (List ℕ)) (image : S → List ℕ → Type 0) (moment_of : S → ℕ) (left_since : S → ℕ → List ℕ → Type 0)
    (faults_of : S → ℕ) (rows after : List (SlotReport S)) (result : Result ℤ OpenEnd) : Type 0 where
  pub many : length after ≡ length rows
  pub again : (slot : ℕ) (row row_after : SlotReport S) → slice_get rows slot ≡ Some row → slice_get after slot ≡ Some row_after
      → IsMountedAgain told image moment_of left_since row row_after
  pub sum : IfOk result (λ total. (ns : List ℤ) × AreNumbersOf told rows ns × (total ≡ sum_of ns))
  pub stops : IfErr result (StopsWhere told faults_of rows after)
