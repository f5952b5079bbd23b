use Rattle.std.proofs.Common.{length}
use Rattle.do_tree.specs.Tree.{Script}
use Rattle.object_core.specs.One.{KeepsOne}
use Rattle.host_core.proofs.Movements.{HandedSoFar}
use Rattle.host_core.proofs.moving.hand_on.Given as goal

abbrev pub invariant-loop-message : goal.invariant-loop-message
invariant-loop-message g l = record {
  one : (script : Script) → KeepsOne g.D.Disk.moment_of g.D.Disk.left_since g.D.Disk.told g.D.Disk.image g.D.Disk.faults_of script l.fn.core l.core;
  handed : HandedSoFar l.fn.core l.core l.fn.out l.out;
}

abbrev pub decreases-loop-message : goal.decreases-loop-message
decreases-loop-message g l = length l.core.out.waiting
