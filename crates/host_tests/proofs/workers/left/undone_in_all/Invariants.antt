use Rattle.std.specs.List.{All}
use Rattle.do_tree.specs.Checked.{tree_of}
use Rattle.object_core.specs.One.{CanRun}
use Rattle.host_tests.proofs.workers.left.undone_in_all.Given as goal

-- the objects that are left can run on
abbrev pub invariant-loop-core : goal.invariant-loop-core
invariant-loop-core g l = All (CanRun g.D.Disk.moment_of g.D.Disk.left_since g.D.Disk.told g.D.Disk.image g.D.Disk.faults_of (tree_of l.checked)) l.core-iterator.rest.items
