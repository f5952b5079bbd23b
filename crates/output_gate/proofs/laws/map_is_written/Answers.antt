use Rattle.output_gate.proofs.Noted.{sound_as}
use Rattle.output_gate.proofs.Telling.{map_is}
use Rattle.output_gate.proofs.laws.map_is_written.Goals as goal

pub returns : goal.returns
returns g c start opening disk at tells b on mode front i older is =
    map_is g.D.Disk.moment_of g.D.Disk.left_since g.D.Disk.told g.D.Disk.image g.D.Disk.faults_of start opening c.args.back.now disk at tells (sound_as g.D.Disk.moment_of g.D.Disk.left_since g.D.Disk.told g.D.Disk.image g.D.Disk.faults_of start opening c.args.back.now on b) mode front i older is
