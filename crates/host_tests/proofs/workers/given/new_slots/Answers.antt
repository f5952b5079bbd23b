use Rattle.std.proofs.Common.{List, subst, sym}
use Rattle.std.proofs.lemmas.List.Elements.{All-push}
use Rattle.std.specs.List.{All}
use Rattle.do_tree.specs.Checked.{tree_of}
use Rattle.host_workers.specs.declared.joining.Halves.{Halves}
use Rattle.worker_pool.specs.Fresh.{IsFreshSlot}
use Rattle.host_tests.proofs.workers.given.new_slots.Goals as goal

pub loop-disk-preserved : goal.loop-disk-preserved
loop-disk-preserved g c =
    subst (λ (xs : List (Halves g.row.D.Denot)). All (IsFreshSlot g.D.Disk.moment_of g.D.Disk.left_since g.D.Disk.told g.D.Disk.image g.D.Disk.faults_of (tree_of c.args.checked.now)) xs)
    (sym c.in_ok-push.ensures.items)
    (All-push (IsFreshSlot g.D.Disk.moment_of g.D.Disk.left_since g.D.Disk.told g.D.Disk.image g.D.Disk.faults_of (tree_of c.args.checked.now))
    c.loop-disk.slots.items c.in_ok-halves.halves c.loop-disk.invariant c.in_ok-halves.ensures)
