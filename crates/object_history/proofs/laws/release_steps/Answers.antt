use Rattle.std.specs.Prelude.{not}
use Rattle.output_gate.specs.Serving.{is_stopped}
use Rattle.object_history.proofs.GateReleasing as gate
use Rattle.object_history.proofs.laws.release_steps.Goals as goal

pub returns : goal.returns
returns g c = λ start opening later m n sent_before sent out_before out known releases alarm.
    gate.release_steps g.D.Disk.moment_of g.D.Disk.left_since g.D.Disk.told g.D.Disk.image g.D.Disk.faults_of start opening (not (is_stopped c.args.back.now)) c.args.back.now later
    m n sent_before sent out_before out known releases alarm
