use Rattle.std.specs.Prelude.{not}
use Rattle.output_gate.specs.Serving.{is_stopped}
use Rattle.object_history.proofs.GateTaking as gate
use Rattle.object_history.proofs.laws.take_steps.Goals as goal

pub returns : goal.returns
returns g c = λ start opening later m n got_before got sent_before sent known may takes fit_well.
    gate.take_steps g.D.Disk.moment_of g.D.Disk.left_since g.D.Disk.told g.D.Disk.image g.D.Disk.faults_of start opening (not (is_stopped c.args.back.now)) c.args.back.now later known may takes.entry takes.failed takes.enters m n fit_well
