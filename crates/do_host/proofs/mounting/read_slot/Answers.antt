use Rattle.std.proofs.Common.{◌∙◌, Some, ap}
use Rattle.do_host.proofs.Mounts.{row_read, stops_reading}
use Rattle.do_host.proofs.mounting.read_slot.Goals as goal

pub returns-in-Err-clause-stops : goal.returns-in-Err-clause-stops
returns-in-Err-clause-stops g c = λ limit content named is telling.
    let d = g.D.Disk in
    stops_reading d.moment_of d.left_since d.told d.image limit content named c.args.mounted is telling g.met.D.Disk.counts_now d.faults_of c.args.slot c.read_stored.new.journal c.read_stored.result c.in-Err.fault
    (Some c.into_disk-in-Err.result) c.reading_end.result c.read_stored.ensures.reads c.in-Err.is (ap Some c.into_disk-in-Err.ensures) c.reading_end.ensures

pub returns-in-Ok-clause-row : goal.returns-in-Ok-clause-row
returns-in-Ok-clause-row g c = λ limit content named is telling.
    let d = g.D.Disk in
    let made = c.row_of.ensures in
    row_read d.moment_of d.left_since d.told d.image limit content named c.args.mounted is telling g.met.D.Disk.counts_now c.row_of.result c.in-Ok.stored c.read_stored.new.journal c.read_stored.result d.faults_of
    c.read_stored.ensures.reads (made.store ∙ c.into_disk.ensures) made.identity made.front made.back c.in-Ok.ensures.stored
