use Rattle.std.specs.Prelude.{not}
use Rattle.output_gate.proofs.Written.{written_fresh}
use Rattle.output_gate.specs.Serving.{is_stopped}
use Rattle.output_gate.proofs.laws.fresh_is_written.Goals as goal

pub returns : goal.returns
returns g c start opening limit end known none at =
    written_fresh g.D.Disk.moment_of g.D.Disk.left_since g.D.Disk.told g.D.Disk.image g.D.Disk.faults_of start opening (not (is_stopped c.args.back.now)) c.args.back.now limit end none known at
