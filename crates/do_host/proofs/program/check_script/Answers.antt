use Rattle.std.proofs.Common.{refl}
use Rattle.do_host.proofs.Early.{early_checked, told_runs}
use Rattle.do_host.proofs.program.check_script.Goals as goal

pub returns-in-Ok : goal.returns-in-Ok
returns-in-Ok g c = λ report empty.
    told_runs _ _ _ _ _ c.in-Ok.line.items empty (record { input = c.end_with.ensures.input; report = refl }) c.as_slice.ensures.value c.in-Ok.ensures.told c.end_with.ensures.status
    c.end_with.ensures.whole c.end_with.ensures.written c.end_with.ensures.failed c.in-Ok.ensures.whole c.told_script.ensures.asked

pub returns-in-Err : goal.returns-in-Err
returns-in-Err g c = λ report empty.
    let e = c.in-Err.ensures in
    early_checked _ _ _ _ c.in-Err.end e.end c.end_early.ensures.ends e.refused e.refused_whole e.failed c.told_script.ensures.asked
    (record { input = c.end_early.ensures.input; report = refl }) c.end_early.ensures.failed empty
