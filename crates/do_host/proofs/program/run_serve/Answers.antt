use Rattle.std.proofs.Common.{refl}
use Rattle.std.specs.Prelude.{string_bytes}
use Rattle.do_tree.specs.Checked.{tree_of}
use Rattle.do_host.specs.Settings.{serving_in}
use Rattle.do_host.proofs.Early.{early_serve}
use Rattle.do_host.proofs.Served.{serve_read}
use Rattle.do_host.proofs.program.run_serve.Goals as goal

pub returns-in-Err : goal.returns-in-Err
returns-in-Err g c =
    let e = c.in-Err.ensures in
    let told = c.args.told in
    early_serve _ _ _ _ c.in-Err.end e.end c.end_early.ensures.ends e.refused e.refused_whole e.failed c.read_script.ensures.asked
    (record { input = c.end_early.ensures.input; report = refl }) c.end_early.ensures.failed (string_bytes told.script) c.as_str.ensures.value (string_bytes told.folder) told.slots told.workers told.journal c.requires.empty

pub returns-in-Ok : goal.returns-in-Ok
returns-in-Ok g c =
    let told = c.args.told in
    serve_read _ (serving_in told) (tree_of c.in-Ok.checked) _ _ c.args.input c.args.out c.args.report.now _ told.workers
    c.requires.range.some_slot c.read_script.ensures.same_texts c.read_script.ensures.same_slots c.as_str.result.now c.as_str.ensures.value c.in-Ok.ensures.whole c.in-Ok.ensures.steady c.in-Ok.ensures.accepted c.serve_checked.ensures
