-- What `dump` does. This project's profile. A fact of what an output or a file holds speaks of those that are told.
use Rattle.std.specs.Prelude.{◌≡◌, ◌≢◌, ◌≤◌, ◌⊎◌, ℕ, List, length, Option, Some, IfSome}
use Rattle.batch_journal.specs.Moments.{TellsAsBefore}
use Rattle.host_core.specs.Opening.{IsBad}
use Rattle.host_core.specs.Report.{AsksSlots, HasCause, IsOpened, LeavesUnopened}
use Rattle.host_core.specs.declared.report.Report.{Report}
use Rattle.host_core.specs.declared.settings.Bad.{Bad}
use Rattle.host_core.specs.declared.settings.ServeEnd.{ServeEnd}
use Rattle.host_core.specs.declared.settings.ServeEnd.TheVariants as ends
use Rattle.host_core.specs.declared.report.SlotReport.{SlotReport}
use Rattle.placement.specs.Slots.{Slots, IsOneEach, object_at}
use Rattle.do_host.specs.Dump.{AreIdleRows, HasNoValue, IsDumpOf, IsUnread}
use Rattle.do_host.specs.Endings.{TellsEnd}
use Rattle.do_host.specs.Outside.{Disks, Given, Left, Outside}
use Rattle.do_host.specs.Status.{IsDumpStatus}
use Rattle.do_host.specs.Written.{WritesAll, WritesFirstOf}

-- The report of slots that were mounted from slot 0 on and aren't served. Each had this object, and each row tells of its slot.
pub record IsIdleReport {S : Type 0} (disks : Disks S) (contents : ℕ → Option (List ℕ)) (slots : ℕ) (end : ServeEnd) (report : Report S) : Type 0 where
  pub named : Slots
  pub many : length named ≡ slots
  pub one_each : IsOneEach named
  pub rows : AreIdleRows disks.left_since contents named report.slots.items
  pub within : length report.slots.items ≤ slots
  -- why a slot is bad, which is the one behind those that were mounted
  pub bad : (bad : Bad) → end ≡ ends.BadSlot bad
      → IsBad contents named (length report.slots.items) bad ⊎ IfSome report.unopened (HasNoValue disks.told (length report.slots.items) bad)

-- The disk of the slot behind those of the rows, which was mounted: a value of it wasn't read. It is kept.
pub record LeavesUnread {S : Type 0} (disks : Disks S) (contents : ℕ → Option (List ℕ)) (named : Slots) (end : ServeEnd) (report : Report S) : Type 0 where
  pub disk : S
  pub kept : report.unopened ≡ Some disk
  pub unread : IsUnread disks.left_since (contents (length report.slots.items)) (object_at named (length report.slots.items)) disk
  pub telling : TellsAsBefore (contents (length report.slots.items)) (disks.told disk)
  pub no_value : (bad : Bad) → end ≡ ends.BadSlot bad → HasNoValue disks.told (length report.slots.items) bad disk

-- a text of the slots of these rows was written so: all of it, or its first bytes
abbrev pub PrintsDump : {S : Type 0} → (S → Option (List ℕ)) → (ℕ → Option (List ℕ)) → Slots → List (SlotReport S) → (List ℕ → Type 0) → Type 0
PrintsDump told contents named rows IsWritten = (text : List ℕ) × IsDumpOf told contents named rows text × IsWritten text

-- The slots of the folder are mounted from slot 0 on and all values of each are read, the depot is asked for them alone, and nothing is logged. Once
-- all are read the text of their objects and storages is printed, at any end the first bytes of it. Each fault has its cause.
pub record DumpsSlots {S R W : Type 0} (outside : Outside S R W) (folder : List ℕ) (slots : ℕ) (end : ServeEnd)
    (given : Given S R W) (left : Left S R W) : Type 0 where
  pub reads_nothing : (end ≢ ends.ReadFailed) × (left.report.switch ≡ given.report.switch) × (left.report.lines ≡ given.report.lines)
  pub reports : IsIdleReport outside.disks (given.depot.slots folder) slots end left.report
  pub whole : end ≡ ends.Finished
      → PrintsDump outside.disks.told (given.depot.slots folder) reports.named left.report.slots.items
      (WritesAll (outside.sink.taken given.out) (outside.sink.taken left.out))
  pub front : length left.report.slots.items ≡ slots
      → PrintsDump outside.disks.told (given.depot.slots folder) reports.named left.report.slots.items
      (WritesFirstOf (outside.sink.taken given.out) (outside.sink.taken left.out))
  pub opened : IsOpened slots given.input left.input given.out left.out end given.report left.report
  pub unopened : LeavesUnopened outside.disks.told outside.disks.image outside.disks.moment_of outside.disks.left_since
      (given.depot.slots folder) end left.report ⊎ LeavesUnread outside.disks (given.depot.slots folder) reports.named end left.report
  pub causes : HasCause outside.disks.faults_of given.depot.faults left.depot.faults (outside.source.faults_of given.input)
      (outside.source.faults_of left.input) (outside.sink.faults_of given.out) (outside.sink.faults_of left.out) end left.report
  pub asked : AsksSlots given.depot.asked left.depot.asked folder slots left.report

-- `dump` of so many slots of the folder. They end so, and leave the sink so, behind which the line of a bad slot is told.
pub record DumpRun {S R W : Type 0} (outside : Outside S R W) (folder : List ℕ) (slots : ℕ) (given : Given S R W) (left : Left S R W) : Type 0 where
  pub statuses : IsDumpStatus left.status
  pub unread : left.input ≡ given.input
  pub end : ServeEnd
  pub dumped : W
  pub tells : TellsEnd outside.sink.taken outside.sink.faults_of dumped left.out left.status end
  pub dumps : DumpsSlots outside folder slots end given (record left { out = dumped })
