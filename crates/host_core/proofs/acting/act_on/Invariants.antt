use Rattle.do_tree.specs.Checked.{tree_of}
use Rattle.object_core.specs.One.{CanRun, KeepsOne, TellsNow}
use Rattle.host_core.specs.Acting.{Acts}
use Rattle.host_core.proofs.acting.act_on.Given as goal

-- the object is one, and was given nothing
abbrev pub invariant-loop : goal.invariant-loop
invariant-loop g l = record {
  can_next : (goal.iterator-loop g).can_next l.iterator';
  can : CanRun g.D.Disk.moment_of g.D.Disk.left_since g.D.Disk.told g.D.Disk.image g.D.Disk.faults_of (tree_of l.checked) l.core;
  one : KeepsOne g.D.Disk.moment_of g.D.Disk.left_since g.D.Disk.told g.D.Disk.image g.D.Disk.faults_of (tree_of l.checked) l.fn.core l.core;
  tells : TellsNow g.D.Disk.told l.core.back → TellsNow g.D.Disk.told l.fn.core.back;
  acts : Acts l.fn.core l.core;
  finite : (goal.iterator-loop g).is_finite l.iterator';
}
