-- How often calls and fetches of objects are routed, and answers to them posted.
use Rattle.std.specs.Prelude.{◌≡◌, ◌≤◌, ℕ, List, slice_get, Option, Some}
use Rattle.batch_journal.specs.Moments.{IsTold}
use Rattle.mailbox.specs.Posting.{of_slot}
use Rattle.object_core.specs.Drops.{AreAnsweredOnce}
use Rattle.object_messages.specs.Naming.{asked_in, times_of}
use Rattle.timeline.specs.Switch.{SwitchLog}
use Rattle.host_core.specs.Quiet.{RowsTell}
use Rattle.host_core.specs.declared.report.SlotReport.{SlotReport}

-- While a slot's disk tells its content, no call and no fetch of its object was routed twice; and while all disks do, none was posted two answers.
pub record AreAskedOnce {S : Type 0} (told : S → Option (List ℕ)) (log : SwitchLog) (rows : List (SlotReport S)) : Type 0 where
  pub routed : (slot : ℕ) (row : SlotReport S) → slice_get rows slot ≡ Some row → IsTold (told row.store)
      → (asked : ℕ × ℕ) → times_of asked (asked_in (of_slot slot log.routed)) ≤ 1
  pub posted : RowsTell told rows → (slot : ℕ) → AreAnsweredOnce (of_slot slot log.posts)
