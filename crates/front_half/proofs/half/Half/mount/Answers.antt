use Rattle.std.proofs.Common.{refl}
use Rattle.front_half.proofs.Unmounting.{mounts, mount_stops}
use Rattle.front_half.proofs.half.Half.mount.Goals as goal

pub returns-in_default-clause-stops : goal.returns-in_default-clause-stops
returns-in_default-clause-stops g c = λ script i k. mount_stops g.T.Task.seen script c.args.self.now c.args.call c.args.alarm _ c.requires.stopped refl i k

pub returns-clause-moves : goal.returns-clause-moves
returns-clause-moves g c = λ script i k. mounts g.T.Task.seen script c.args.self.now c.args.call c.args.alarm c.begin.result c.put_due.new.due c.put_due.new.deferred
    c.begin.ensures.object c.begin.ensures.holds c.in-Ok.ensures i k
