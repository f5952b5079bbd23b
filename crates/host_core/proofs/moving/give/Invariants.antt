use Rattle.std.proofs.Common.{length}
use Rattle.do_tree.specs.Checked.{tree_of}
use Rattle.object_core.specs.One.{CanRun, KeepsOne, TellsNow}
use Rattle.host_core.proofs.Movements.{GaveSoFar}
use Rattle.host_core.proofs.moving.give.Given as goal

abbrev pub invariant-loop-event : goal.invariant-loop-event
invariant-loop-event g l = record {
  can : CanRun g.D.Disk.moment_of g.D.Disk.left_since g.D.Disk.told g.D.Disk.image g.D.Disk.faults_of (tree_of l.checked) l.core;
  one : KeepsOne g.D.Disk.moment_of g.D.Disk.left_since g.D.Disk.told g.D.Disk.image g.D.Disk.faults_of (tree_of l.checked) l.fn.core l.core;
  tells : TellsNow g.D.Disk.told l.core.back → TellsNow g.D.Disk.told l.fn.core.back;
  gave : GaveSoFar l.fn.core l.core l.fn.inbox l.inbox;
}

abbrev pub decreases-loop-event : goal.decreases-loop-event
decreases-loop-event g l = length l.inbox.waiting
