-- What the rows tell of the events that objects dropped.
use Rattle.std.specs.Prelude.{◌≡◌, ℕ, List, [], slice_get, Option, Some}
use Rattle.std.specs.List.{All}
use Rattle.batch_journal.specs.Moments.{IsTold}
use Rattle.do_tree.specs.Tree.{Script}
use Rattle.mailbox.specs.Posting.{of_slot}
use Rattle.object_core.specs.Drops.{DropsOnly, IsOfEnded}
use Rattle.object_core.specs.One.{HasItsClass}
use Rattle.placement.specs.Slots.{Slots, object_at}
use Rattle.timeline.specs.Logs.{fronted}
use Rattle.timeline.specs.Switch.{SwitchLog}
use Rattle.host_core.specs.Quiet.{IsOfNoClass, RowsTell}
use Rattle.host_core.specs.declared.report.SlotReport.{SlotReport}

-- Of a slot that had no object at the opening or one of a class that the script has, and whose disk tells its content: no call and no binding that was
-- posted was dropped, a tick or an eviction only where a mounting had failed, and an answer only where its incarnation had ended, or where one to the
-- same call or fetch was delivered. While all disks tell their content there is none such, of any slot: an answer was dropped only where its incarnation had
-- ended; and to a slot with an object of another class nothing was posted.
pub record AreDropsOnly {S : Type 0} (told : S → Option (List ℕ)) (script : Script) (named : Slots) (log : SwitchLog)
    (rows : List (SlotReport S)) : Type 0 where
  pub each : (slot : ℕ) (row : SlotReport S) → slice_get rows slot ≡ Some row
      → HasItsClass script (object_at named slot) → IsTold (told row.store) → DropsOnly (of_slot slot log.posts) (fronted row.front) row.back.downs.items
  pub answers : RowsTell told rows → (slot : ℕ) (row : SlotReport S) → slice_get rows slot ≡ Some row
      → All (IsOfEnded (fronted row.front)) (fronted row.front).dropped
  pub unposted : RowsTell told rows → (slot : ℕ) → IsOfNoClass script (object_at named slot) → of_slot slot log.posts ≡ []
