-- Where nothing was the cause of an end, no line tells of one.
use Rattle.std.specs.Prelude.{◌≡◌, ℕ, ℤ, Bool, true, false, List, slice_get, Option, Some}
use Rattle.std.specs.List.{All, Contains}
use Rattle.batch_journal.specs.Moments.{IsTold}
use Rattle.object_messages.specs.Ends.{is_of_end}
use Rattle.timeline.specs.Lines as line
use Rattle.timeline.specs.Logs.{backed}
use Rattle.timeline.specs.Switch.{SwitchLog}
use Rattle.timeline.specs.declared.back_log.Stop.{Stop}
use Rattle.timeline.specs.declared.caller.Cause.{Cause}
use Rattle.timeline.specs.declared.caller.Cause.TheVariants as cause
use Rattle.timeline.specs.declared.caller.Failure.{Failure}
use Rattle.host_core.specs.declared.report.SlotReport.{SlotReport}

-- An incarnation ended by a call of the disk that failed.
abbrev pub is_by_disk : Cause → Bool
is_by_disk (cause.Disk before after) = true
is_by_disk other = false

-- The slot's disk tells its content, no call of it failed, and no incarnation ended by a full journal, by a turn of too many steps, or by a throw
-- of a constructor or out of a block.
pub record IsUnharmed {S : Type 0} (told : S → Option (List ℕ)) (faults_of : S → ℕ) (row : SlotReport S) : Type 0 where
  pub tells : IsTold (told row.store)
  pub steady : faults_of row.store ≡ 0
  pub ends : All (λ (stop : Stop). is_by_disk stop.cause ≡ true) (backed row.back).stops

-- Where this is so of each slot, no line says `Reset` or `Down`.
abbrev pub AreUnended : {S : Type 0} (told : S → Option (List ℕ)) (faults_of : S → ℕ) → SwitchLog → List (SlotReport S) → Type 0
AreUnended {S} told faults_of log rows = ((slot : ℕ) (row : SlotReport S) → slice_get rows slot ≡ Some row → IsUnharmed told faults_of row)
    → (number : ℤ) (f : Failure) → Contains log.lines (line.error number f) → is_of_end f ≡ false
