use Rattle.output_gate.proofs.Entered.{on_err, failed_same, took_bind}
use Rattle.output_gate.proofs.back.Back.take_bind.Goals as goal

pub returns-in_err-copy-clause-failed : goal.returns-in_err-copy-clause-failed
returns-in_err-copy-clause-failed g c =
    on_err c.from_residual.result _ (failed_same g.D.Disk.moment_of g.D.Disk.left_since g.D.Disk.told g.D.Disk.image g.D.Disk.faults_of c.args.self.now)

pub returns-clause-took : goal.returns-clause-took
returns-clause-took g c =
    took_bind g.D.Disk.moment_of g.D.Disk.left_since g.D.Disk.told g.D.Disk.image g.D.Disk.faults_of c.args.self.now c.add.new.self c.args.number c.args.identity _
    c.in_ok-copy.ensures c.requires.comes c.requires.goes_on c.requires.fits c.add.ensures.log c.add.ensures.same
