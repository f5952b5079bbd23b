-- The slots of a folder that were mounted and aren't served.
use Rattle.std.specs.Prelude.{◌≡◌, ◌<◌, ◌⊎◌, ℕ, List, length, Option, Some}
use Rattle.batch_journal.specs.Moments.{TellsAsBefore}
use Rattle.batch_journal.specs.declared.read_stored.ReadFault.{ReadFault}
use Rattle.batch_journal.specs.declared.read_stored.ReadFault.TheVariants as fault
use Rattle.do_disk.specs.Disk.{Rose}
use Rattle.host_core.specs.Begun.{AreFreeFrom}
use Rattle.host_core.specs.Opening.{StopsOpening}
use Rattle.host_core.specs.declared.opening.OpenEnd.{OpenEnd}
use Rattle.host_core.specs.declared.opening.OpenEnd.TheVariants.{Failed, BadSlot, NoMemory}
use Rattle.host_core.specs.declared.report.Report.{Report}
use Rattle.host_core.specs.declared.report.SlotReport.{SlotReport}
use Rattle.host_core.specs.declared.settings.Bad.{Bad}
use Rattle.host_core.specs.declared.settings.Bad.TheVariants.{Damaged}
use Rattle.placement.specs.Slots.{Slots, IsOneEach, object_at}
use Rattle.storage_map.specs.Limits.{Object}
use Rattle.do_host.specs.Dump.{AreContents, AreIdleRows, Contains, HasNoValue, IsIdleRow, IsUnread}
use Rattle.do_host.specs.Storage.{Storage}

-- The first slots were mounted, which have these objects: a row of each, and what the storage of each contains. The others have none yet.
pub record AreMounted {S : Type 0} (told : S → Option (List ℕ)) (left_since : S → ℕ → List ℕ → Type 0) (contents : ℕ → Option (List ℕ)) (named : Slots)
    (rows : List (SlotReport S)) (storages : List Storage) : Type 0 where
  pub idle : AreIdleRows left_since contents named rows
  pub many : length storages ≡ length rows
  pub each : AreContents told contents named rows storages
  pub free : AreFreeFrom (length rows) named

-- So many were, and that is all.
pub record AllMounted {S : Type 0} (told : S → Option (List ℕ)) (left_since : S → ℕ → List ℕ → Type 0) (contents : ℕ → Option (List ℕ)) (slots : ℕ)
    (rows : List (SlotReport S)) (storages : List Storage) : Type 0 where
  pub named : Slots
  pub all_slots : length named ≡ slots
  pub one_each : IsOneEach named
  pub mounted : AreMounted told left_since contents named rows storages
  pub all_rows : length rows ≡ slots

-- Why opening stops at a slot that was mounted, of which a value wasn't read: its disk, which is kept, failed; or bytes of it are no value; or
-- memory was wanting.
pub record StopsReading {S : Type 0} (told : S → Option (List ℕ)) (left_since : S → ℕ → List ℕ → Type 0) (faults_of : S → ℕ) (content : Option (List ℕ))
    (named : Option Object) (slot : ℕ) (unopened : Option S) (end : OpenEnd) : Type 0 where
  pub disk : S
  pub kept : unopened ≡ Some disk
  pub unread : IsUnread left_since content named disk
  pub telling : TellsAsBefore content (told disk)
  pub failed : end ≡ Failed → Rose 0 (faults_of disk)
  pub bad : (bad : Bad) → end ≡ BadSlot bad → HasNoValue told slot bad disk

-- how opening ends whose slot's values aren't read for this fault
abbrev pub reading_end : ℕ → ReadFault → OpenEnd
reading_end slot fault.DiskFailed = Failed
reading_end slot (fault.BadValue place) = BadSlot (Damaged slot place)
reading_end slot fault.NoMemory = NoMemory

-- Fewer were, and that is why it stops.
pub record StopsMounting {S : Type 0} (told : S → Option (List ℕ)) (image : S → List ℕ → Type 0) (moment_of : S → ℕ)
    (left_since : S → ℕ → List ℕ → Type 0) (faults_of : S → ℕ) (contents : ℕ → Option (List ℕ)) (slots : ℕ)
    (faults faults_after : ℕ) (report : Report S) (end : OpenEnd) : Type 0 where
  pub named : Slots
  pub all_slots : length named ≡ slots
  pub one_each : IsOneEach named
  pub idle : AreIdleRows left_since contents named report.slots.items
  pub fewer : length report.slots.items < slots
  pub stops : StopsOpening told image moment_of left_since faults_of contents named (length report.slots.items) faults faults_after report.unopened end
      ⊎ StopsReading told left_since faults_of (contents (length report.slots.items)) (object_at named (length report.slots.items))
      (length report.slots.items) report.unopened end

-- The row of a slot that was mounted and read, and what its storage contains.
pub record IsReadRow {S : Type 0} (told : S → Option (List ℕ)) (left_since : S → ℕ → List ℕ → Type 0) (content : Option (List ℕ)) (named : Option Object)
    (row : SlotReport S) (storage : Storage) : Type 0 where
  pub idle : IsIdleRow left_since content named row
  pub contains : Contains content (told row.store) named storage
