use Rattle.output_gate.proofs.Entered.{on_err, failed_hold, failed_same, took_message}
use Rattle.output_gate.proofs.back.Back.take_message.Goals as goal

pub returns-in_err-copy-clause-failed : goal.returns-in_err-copy-clause-failed
returns-in_err-copy-clause-failed g c =
    on_err c.from_residual.result _ (failed_same g.D.Disk.moment_of g.D.Disk.left_since g.D.Disk.told g.D.Disk.image g.D.Disk.faults_of c.args.self.now)

pub returns-in_err-hold-clause-failed : goal.returns-in_err-hold-clause-failed
returns-in_err-hold-clause-failed g c =
    on_err c.from_residual-in_err-hold.result _ (failed_hold g.D.Disk.moment_of g.D.Disk.left_since g.D.Disk.told g.D.Disk.image g.D.Disk.faults_of c.args.self.now c.hold.new.self c.in_err-hold.ensures.kept c.hold.ensures.same)

pub returns-clause-took : goal.returns-clause-took
returns-clause-took g c =
    took_message g.D.Disk.moment_of g.D.Disk.left_since g.D.Disk.told g.D.Disk.image g.D.Disk.faults_of c.args.self.now c.hold.new.self c.add.new.self c.args.number c.args.message _
    c.in_ok-copy.ensures c.requires.comes c.requires.goes_on c.in_ok-hold.ensures.held c.hold.ensures.same c.add.ensures.log c.add.ensures.same
