use Rattle.std.proofs.Common.{refl}
use Rattle.do_host.proofs.Dumps.{dump_printed, dump_runs, dump_stopped}
use Rattle.do_host.proofs.program.run_dump.Goals as goal

pub returns-in-Err : goal.returns-in-Err
returns-in-Err g c =
    dump_runs _ c.args.folder.now c.args.slots _ _ c.args.out _ c.requires.some c.requires.empty c.end_served-in-Err.ensures.input c.end_served-in-Err.ensures.tells
    (rw c.opening_end.ensures (dump_stopped _ c.args.folder.now c.args.slots _ _ c.in-Err.end c.requires.empty c.end_served-in-Err.ensures.input refl c.mount_slots.ensures.same c.in-Err.ensures.stops c.mount_slots.ensures.asked))

pub returns-in-Ok : goal.returns-in-Ok
returns-in-Ok g c =
    dump_runs _ c.args.folder.now c.args.slots _ _ c.dump_slots-printed.new.out _ c.requires.some c.requires.empty c.end_served.ensures.input c.end_served.ensures.tells
    (rw c.dump_end.ensures (dump_printed _ c.args.folder.now c.args.slots _ _ c.in-Ok.storages.items c.dump_slots-printed.result c.end_served.ensures.input c.mount_slots.ensures.same c.in-Ok.ensures.mounted
    (rw c.as_slice.ensures.value at c.dump_slots-printed.ensures.writes) c.dump_slots-printed.ensures.stop c.dump_slots-printed.ensures.failed c.dump_slots-printed.ensures.steady c.in-Ok.ensures.none_unopened c.in-Ok.ensures.all_asked))
