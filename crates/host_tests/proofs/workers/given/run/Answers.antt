use Rattle.do_tree.specs.Checked.{tree_of}
use Rattle.host_tests.proofs.RanAlone.{are_fresh, can_run_on}
use Rattle.host_tests.proofs.workers.given.run.Goals as goal

pub run_workers-requires-clause-slots : goal.run_workers-requires-clause-slots
run_workers-requires-clause-slots g c = λ _ _.
    are_fresh g.D.Disk.moment_of g.D.Disk.left_since g.D.Disk.told g.D.Disk.image g.D.Disk.faults_of (tree_of c.args.checked.now) c.in_ok-slots.slots.items c.in_ok-slots.ensures

pub returns : goal.returns
returns g c =
    can_run_on g.D.Disk.moment_of g.D.Disk.left_since g.D.Disk.told g.D.Disk.image g.D.Disk.faults_of (tree_of c.args.checked.now)
    g.R.Source.left g.R.Source.faults_of g.W.Sink.taken g.W.Sink.faults_of c.in_ok-slots.slots.items c.new-switch.result c.new-lines.result c.run_workers.result
    (are_fresh g.D.Disk.moment_of g.D.Disk.left_since g.D.Disk.told g.D.Disk.image g.D.Disk.faults_of (tree_of c.args.checked.now) c.in_ok-slots.slots.items c.in_ok-slots.ensures)
    c.run_workers.ensures
