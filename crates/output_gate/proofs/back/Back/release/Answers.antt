use Rattle.output_gate.proofs.Gone.{release_disk}
use Rattle.output_gate.proofs.Noted.{keeps_noted}
use Rattle.output_gate.proofs.back.Back.release.Goals as goal

pub returns-clause-back : goal.returns-clause-back
returns-clause-back g c =
    keeps_noted g.D.Disk.moment_of g.D.Disk.left_since g.D.Disk.told g.D.Disk.image g.D.Disk.faults_of c.release_next-stepped.result c.args.self.now c.release_next-stepped.new.self c.is_err-self.result
    c.is_err-self.ensures.value c.if-self.false c.release_next-stepped.ensures.back c.release_next-stepped.ensures.stopped

pub returns-clause-disk : goal.returns-clause-disk
returns-clause-disk g c =
    let e = c.release_next-stepped.ensures in
    release_disk g.D.Disk.moment_of c.release_next-stepped.result c.args.self.now c.release_next-stepped.new.self (g.N.Outlet.sent c.args.notices.now) (g.N.Outlet.sent c.release_next-stepped.new.notices)
    (g.O.Outlet.sent c.args.out.now) (g.O.Outlet.sent c.release_next-stepped.new.out) e.barred e.nothing e.released e.stays
