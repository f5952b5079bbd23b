use Rattle.std.proofs.Common.{refl}
use Rattle.output_gate.proofs.Noted.{keeps_noted, loses_noted, takes_noted}
use Rattle.output_gate.proofs.Stored.{reads_of, still_disk}
use Rattle.output_gate.proofs.back.Back.take.Goals as goal

pub returns-clause-lost : goal.returns-clause-lost
returns-clause-lost g c on =
    loses_noted c.take_next-stepped.result c.args.self.now c.take_next-stepped.new.self (g.L.Inlet.got c.args.line.now) (g.L.Inlet.got c.take_next-stepped.new.line) (g.N.Outlet.sent c.args.notices.now)
    (g.N.Outlet.sent c.take_next-stepped.new.notices) c.is_err-self.result c.take_next-stepped.ensures.lost

pub returns-clause-back : goal.returns-clause-back
returns-clause-back g c =
    keeps_noted g.D.Disk.moment_of g.D.Disk.left_since g.D.Disk.told g.D.Disk.image g.D.Disk.faults_of c.take_next-stepped.result c.args.self.now c.take_next-stepped.new.self c.is_err-self.result
    c.is_err-self.ensures.value c.if-self.false c.take_next-stepped.ensures.back c.take_next-stepped.ensures.stopped

pub returns-clause-took : goal.returns-clause-took
returns-clause-took g c did =
    takes_noted g.D.Disk.told g.D.Disk.image c.args.self.now c.take_next-stepped.new.self (g.L.Inlet.got c.args.line.now) (g.L.Inlet.got c.take_next-stepped.new.line) (g.N.Outlet.sent c.args.notices.now)
    (g.N.Outlet.sent c.take_next-stepped.new.notices) c.is_err-self.result (c.take_next-stepped.ensures.took did)

pub returns-then-self-clause-disk : goal.returns-then-self-clause-disk
returns-then-self-clause-disk g c = let same = c.args.self.now.store in reads_of g.D.Disk.told same same (still_disk same same refl)
