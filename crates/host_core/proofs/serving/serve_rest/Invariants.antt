use Rattle.std.proofs.Common.{◌≡◌, ℕ, List, length, Option}
use Rattle.std.specs.Prelude.{Ok}
use Rattle.do_tree.specs.Checked.{tree_of}
use Rattle.placement.specs.Slots.{Slots}
use Rattle.mailbox.specs.Runs.{log_of}
use Rattle.host_core.specs.Objects.{CanAllRun}
use Rattle.host_core.specs.Reading.{with_rest}
use Rattle.host_core.specs.Running.{IsAtRest, IsServing, KeepsServing, Prints}
use Rattle.host_core.proofs.serving.serve_rest.Given as goal

-- the run serves and rests, and the lines that wait stand behind those that it has accepted
abbrev pub invariant-loop-line : goal.invariant-loop-line
invariant-loop-line g l = record {
  some : (limit : ℕ) × (contents : ℕ → Option (List ℕ)) × (named : Slots)
      × IsServing g.D.Disk.moment_of g.D.Disk.left_since g.D.Disk.told g.D.Disk.image g.D.Disk.faults_of limit (tree_of l.checked) contents named l.switch l.objects;
  serves : KeepsServing g.D.Disk.moment_of g.D.Disk.left_since g.D.Disk.told g.D.Disk.image g.D.Disk.faults_of (tree_of l.checked) l.fn.switch l.switch l.fn.objects l.objects;
  again : CanAllRun g.D.Disk.moment_of g.D.Disk.left_since g.D.Disk.told g.D.Disk.image g.D.Disk.faults_of (tree_of l.checked) l.objects;
  rests : IsAtRest (tree_of l.checked) l.objects;
  many : length l.objects.cores.items ≡ length l.fn.objects.cores.items;
  accepted : with_rest (log_of l.switch).accepted l.rest ≡ with_rest (log_of l.fn.switch).accepted l.fn.rest;
  prints : Prints {T = Unit {0}} g.W.Sink.taken g.W.Sink.faults_of l.fn.switch l.switch (Ok tt);
}

abbrev pub decreases-loop-line : goal.decreases-loop-line
decreases-loop-line g l = length l.rest.waiting
