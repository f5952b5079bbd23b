use Rattle.std.specs.Prelude.{◌≡◌, ◌≤◌, ◌+◌, ◌++◌, ℕ, None, length, vec_len}
use Rattle.std.specs.Vec.{vec_capacity}
use Rattle.placement.specs.Slots.{IsOneEach}
use Rattle.host_core.specs.Opening.{slot_asks}
use Rattle.do_host.specs.Mounted.{AreMounted}
use Rattle.do_host.proofs.mounting.mount_slots.Given as goal

-- the slots below are mounted, and those from this one on are as they were
abbrev pub invariant-loop-slot : goal.invariant-loop-slot
invariant-loop-slot g l = record {
  rows : length l.report.slots.items ≡ l.slot;
  mounted : AreMounted g.P.Store.Disk.told g.P.Store.Disk.left_since (g.P.Depot.slot_at l.fn.depot l.folder) l.directory l.report.slots.items l.storages.items;
  room : (more : ℕ) → l.slot + more ≡ l.slots → vec_len l.report.slots + more ≤ vec_capacity l.report.slots;
  storage_room : (more : ℕ) → l.slot + more ≡ l.slots → vec_len l.storages + more ≤ vec_capacity l.storages;
  slots : length l.directory ≡ l.slots;
  one_each : IsOneEach l.directory;
  asked : g.P.Depot.asked l.depot ≡ g.P.Depot.asked l.fn.depot ++ slot_asks l.folder l.slot;
  later : (slot : ℕ) → l.slot ≤ slot → g.P.Depot.slot_at l.depot l.folder slot ≡ g.P.Depot.slot_at l.fn.depot l.folder slot;
  steady : g.P.Depot.faults_of l.depot ≡ g.P.Depot.faults_of l.fn.depot;
  none_left : l.report.unopened ≡ None;
  switch : l.report.switch ≡ l.fn.report.switch;
  lines : l.report.lines ≡ l.fn.report.lines;
}
