use Rattle.batch_journal.specs.Frames.{batches_in}
use Rattle.do_disk.specs.Disk.{next_count}
use Rattle.object_tests.proofs.backs.drive.drive.Goals as goal

pub go_and_tell-went-requires : goal.go_and_tell-went-requires
go_and_tell-went-requires g c =
    let m = c.in-Ok.ensures.mounted in
    (batches_in m.frames, next_count (g.D.Disk.moment_of c.args.disk), c.in-Ok-new.ensures.back c.args.disk m)
