use Rattle.std.specs.Prelude.{◌≡◌, ◌≤◌, ◌++◌, ℕ, None, length, string_bytes, vec_len}
use Rattle.std.specs.Vec.{vec_capacity}
use Rattle.do_tree.specs.Checked.{tree_of}
use Rattle.placement.specs.Slots.{IsOneEach}
use Rattle.host_core.specs.Begun.{AreBegun, AreFreeFrom}
use Rattle.host_core.specs.Opening.{slot_asks}
use Rattle.host_core.proofs.opening.open.Given as goal

-- the slots below are mounted, and those from this one on are as they were
abbrev pub invariant-loop-slot : goal.invariant-loop-slot
invariant-loop-slot g l = record {
  many : length l.slots.items ≡ l.slot;
  begun : AreBegun g.P.Store.Disk.moment_of g.P.Store.Disk.left_since g.P.Store.Disk.told g.P.Store.Disk.image g.P.Store.Disk.faults_of l.settings.journal (tree_of l.checked)
      (g.P.Depot.slot_at l.fn.depot (string_bytes l.settings.folder)) l.directory l.slots.items;
  len : vec_len l.slots ≡ l.slot;
  room : l.settings.slots ≤ vec_capacity l.slots;
  slots : length l.directory ≡ l.settings.slots;
  one_each : IsOneEach l.directory;
  free : AreFreeFrom l.slot l.directory;
  asked : g.P.Depot.asked l.depot ≡ g.P.Depot.asked l.fn.depot ++ slot_asks (string_bytes l.settings.folder) l.slot;
  later : (slot : ℕ) → l.slot ≤ slot → g.P.Depot.slot_at l.depot (string_bytes l.settings.folder) slot ≡ g.P.Depot.slot_at l.fn.depot (string_bytes l.settings.folder) slot;
  steady : g.P.Depot.faults_of l.depot ≡ g.P.Depot.faults_of l.fn.depot;
  none_left : l.unopened ≡ None;
}
