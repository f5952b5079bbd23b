use Rattle.std.proofs.Common.{not}
use Rattle.output_gate.specs.Serving.{is_stopped}
use Rattle.output_gate.proofs.Telling.{tells_all}
use Rattle.output_gate.proofs.laws.back_tells.Goals as goal

pub returns : goal.returns
returns g c start opening disk at tells b front =
    tells_all g.D.Disk.moment_of g.D.Disk.left_since g.D.Disk.told g.D.Disk.image g.D.Disk.faults_of start opening (not (is_stopped c.args.back.now)) c.args.back.now disk at tells b front
