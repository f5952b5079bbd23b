use Rattle.std.proofs.Common.{not}
use Rattle.output_gate.specs.Serving.{is_stopped}
use Rattle.output_gate.proofs.Steps.{has_disk}
use Rattle.output_gate.proofs.back.Back.into_parts.Goals as goal

pub into_disk-requires : goal.into_disk-requires
into_disk-requires g c =
    let r = c.requires in
    has_disk g.D.Disk.moment_of g.D.Disk.left_since g.D.Disk.told g.D.Disk.image g.D.Disk.faults_of r.0 r.1 (not (is_stopped c.args.self)) c.args.self r.2
