use Rattle.std.proofs.Common.{◌≡◌, ◌<◌, ℕ, List, length, Option}
use Rattle.do_tree.specs.Checked.{tree_of}
use Rattle.placement.specs.Slots.{Slots}
use Rattle.timeline.specs.Switch.{SwitchLog}
use Rattle.host_core.specs.Objects.{AllSlots, ObjectsTell, AreGoing, CanAllRun}
use Rattle.host_core.specs.Slots.{IsResting}
use Rattle.host_core.proofs.settling.run_slots.Given as goal

-- those that were run rest, and all go on
abbrev pub invariant-loop-slot : goal.invariant-loop-slot
invariant-loop-slot g l = record {
  can : CanAllRun g.D.Disk.moment_of g.D.Disk.left_since g.D.Disk.told g.D.Disk.image g.D.Disk.faults_of (tree_of l.checked) l.objects;
  going : (limit : ℕ) (contents : ℕ → Option (List ℕ)) (named : Slots) (log : SwitchLog)
      → AreGoing g.D.Disk.moment_of g.D.Disk.left_since g.D.Disk.told g.D.Disk.image g.D.Disk.faults_of limit (tree_of l.checked) contents named log l.fn.objects
      → AreGoing g.D.Disk.moment_of g.D.Disk.left_since g.D.Disk.told g.D.Disk.image g.D.Disk.faults_of limit (tree_of l.checked) contents named log l.objects;
  tells : ObjectsTell g.D.Disk.told l.objects → ObjectsTell g.D.Disk.told l.fn.objects;
  rest : AllSlots (λ slot core inbox out. slot < l.slot → IsResting (tree_of l.checked) core inbox) l.objects;
  many : length l.objects.cores.items ≡ l.slots;
  same : l.slots ≡ length l.fn.objects.cores.items;
}
