use Rattle.std.specs.List.{All}
use Rattle.do_tree.specs.Checked.{tree_of}
use Rattle.worker_pool.specs.Fresh.{IsFreshSlot}
use Rattle.host_tests.proofs.workers.given.new_slots.Given as goal

-- the halves so far are fresh
abbrev pub invariant-loop-disk : goal.invariant-loop-disk
invariant-loop-disk g l = All (IsFreshSlot g.D.Disk.moment_of g.D.Disk.left_since g.D.Disk.told g.D.Disk.image g.D.Disk.faults_of (tree_of l.checked)) l.slots.items
