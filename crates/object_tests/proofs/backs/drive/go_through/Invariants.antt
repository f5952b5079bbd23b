use Rattle.output_gate.specs.Serving.{CanServe}
use Rattle.object_tests.proofs.backs.drive.go_through.Given as goal

-- the back serves
abbrev pub invariant-loop-at : goal.invariant-loop-at
invariant-loop-at g l = CanServe g.D.Disk.moment_of g.D.Disk.left_since g.D.Disk.told g.D.Disk.image g.D.Disk.faults_of l.back
