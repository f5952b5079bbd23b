use Rattle.batch_journal.specs.Rest.{disk_in}
use Rattle.do_host.proofs.Sums.{leaves_read, number_told}
use Rattle.do_host.proofs.summing.mount_and_read.Goals as goal

pub returns-in-Ok-clause-leaves : goal.returns-in-Ok-clause-leaves
returns-in-Ok-clause-leaves g c =
    let d = g.D.Disk in
    leaves_read d.told d.image d.moment_of d.left_since g.met.D.Disk.counts_now c.args.disk (disk_in c.in-Ok.mounted.journal) c.read_mounted.result.0 _ c.in-Ok.ensures.any_moment c.read_mounted.ensures.reads

pub returns-in-Ok-clause-number : goal.returns-in-Ok-clause-number
returns-in-Ok-clause-number g c =
    let d = g.D.Disk in
    let mount = c.in-Ok.ensures.mounted in
    number_told c.read_mounted.result.1 (d.told c.args.disk) (d.told (disk_in c.in-Ok.mounted.journal)) mount.frames c.in-Ok.ensures.telling mount.recovers
    (λ some. c.read_mounted.ensures.number mount.frames mount.at_rest mount.index some)
