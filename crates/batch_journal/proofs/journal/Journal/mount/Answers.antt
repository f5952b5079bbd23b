use Rattle.std.proofs.Common.{refl, subst}
use Rattle.batch_journal.specs.Mounting.{IsOpened, IsOpenedSettled}
use Rattle.batch_journal.proofs.Opens.{opened_mounted}
use Rattle.batch_journal.proofs.journal.Journal.mount.Goals as goal

pub returns-in-Ok-Frames-clause-mounted : goal.returns-in-Ok-Frames-clause-mounted
returns-in-Ok-Frames-clause-mounted g c =
    let is = c.in-Ok-Frames.field-0-is in
    opened_mounted g.D.Disk.told g.D.Disk.image g.D.Disk.moment_of g.D.Disk.left_since c.args.disk _ c.in-Ok-Frames.reading
    (subst (IsOpened g.D.Disk.told g.D.Disk.image g.D.Disk.moment_of g.D.Disk.left_since c.args.disk c.open.new.disk) is c.in-Ok-Frames.ensures.opened)
    (subst IsOpenedSettled is c.in-Ok-Frames.ensures.settled) c.in-Ok-Frames.ensures.durable refl refl refl refl
