use Rattle.output_gate.proofs.Noted.{keeps_noted, mend_noted}
use Rattle.output_gate.proofs.back.Back.mend.Goals as goal

pub returns-clause-back : goal.returns-clause-back
returns-clause-back g c =
    keeps_noted g.D.Disk.moment_of g.D.Disk.left_since g.D.Disk.told g.D.Disk.image g.D.Disk.faults_of c.mend_next-stepped.result c.args.self.now c.mend_next-stepped.new.self c.is_err-self.result
    c.is_err-self.ensures.value c.if-self.false c.mend_next-stepped.ensures.back c.mend_next-stepped.ensures.stopped

pub returns-clause-lost : goal.returns-clause-lost
returns-clause-lost g c =
    mend_noted g.D.Disk.faults_of c.mend_next-stepped.result c.args.self.now c.mend_next-stepped.new.self (g.N.Outlet.sent c.args.notices.now) (g.N.Outlet.sent c.mend_next-stepped.new.notices)
    c.is_err-self.result c.mend_next-stepped.ensures.lost
