use Rattle.std.proofs.Common.{◌≡◌, ℕ, List, Option, false}
use Rattle.std.specs.Prelude.{Ok, true}
use Rattle.do_tree.specs.Checked.{tree_of}
use Rattle.do_tree.specs.Tree.{Script}
use Rattle.placement.specs.Slots.{Slots}
use Rattle.mailbox.specs.Runs.{log_of}
use Rattle.host_core.specs.Objects.{AreResting}
use Rattle.host_core.specs.Running.{IsServing, Prints}
use Rattle.host_core.proofs.settling.route_all.Given as goal

-- the run serves; as long as nothing was routed, objects rest that rested
abbrev pub invariant-loop : goal.invariant-loop
invariant-loop g l = record {
  can_next : (goal.iterator-loop g).can_next l.iterator';
  there : (limit : ℕ) × (contents : ℕ → Option (List ℕ)) × (named : Slots)
      × IsServing g.D.Disk.moment_of g.D.Disk.left_since g.D.Disk.told g.D.Disk.image g.D.Disk.faults_of limit (tree_of l.checked) contents named l.switch l.objects;
  serving : (limit : ℕ) (contents : ℕ → Option (List ℕ)) (named : Slots)
      → IsServing g.D.Disk.moment_of g.D.Disk.left_since g.D.Disk.told g.D.Disk.image g.D.Disk.faults_of limit (tree_of l.checked) contents named l.fn.switch l.fn.objects
      → IsServing g.D.Disk.moment_of g.D.Disk.left_since g.D.Disk.told g.D.Disk.image g.D.Disk.faults_of limit (tree_of l.checked) contents named l.switch l.objects;
  cores : l.objects.cores.items ≡ l.fn.objects.cores.items;
  resting : l.routed ≡ false → (script : Script) → AreResting script l.fn.objects → AreResting script l.objects;
  accepted : (log_of l.switch).accepted ≡ (log_of l.fn.switch).accepted;
  prints : Prints g.W.Sink.taken g.W.Sink.faults_of l.fn.switch l.switch (Ok true);
  finite : (goal.iterator-loop g).is_finite l.iterator';
}
