use Rattle.std.proofs.Common.{arith}
use Rattle.batch_journal.specs.Mounting.{IsMarkedOf}
use Rattle.batch_journal.proofs.Opens.{mark_left}
use Rattle.batch_journal.proofs.Runs.{weaker}
use Rattle.batch_journal.proofs.mount.settle.Goals as goal

pub returns-in-Some-clause-any_moment : goal.returns-in-Some-clause-any_moment
returns-in-Some-clause-any_moment g c = λ found read.
    let told = g.D.Disk.told in
    let image = g.D.Disk.image in
    let reading = c.args.reading.now in
    weaker g.D.Disk.moment_of g.D.Disk.left_since c.args.disk.now c.mark.new.disk _ (IsMarkedOf (told c.args.disk.now) (image c.args.disk.now) reading.version found) (c.mark.ensures.any_moment found read)
    (mark_left told image g.D.Disk.moment_of g.D.Disk.left_since c.args.disk.now reading found c.in-Some.end read c.in-One.is (omega (arith, c.in-Some.ensures)) (omega (arith, c.in-Some.ensures)))
