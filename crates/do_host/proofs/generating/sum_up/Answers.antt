use Rattle.std.proofs.Common.{◌≡◌, ℕ, ℤ, length, Result, to_z, of_z, w64, refl, ap, ◌∙◌, subst}
use Rattle.std.specs.Prelude.{IfOk}
use Rattle.host_core.specs.declared.opening.OpenEnd.{OpenEnd}
use Rattle.do_host.specs.Sums.{IsSumOf}
use Rattle.do_host.proofs.Sums.{sum_fits}
use Rattle.do_host.specs.GenRuns.{replies_in, summary_line}
use Rattle.do_host.specs.Outside.{disks_of, sink_of}
use Rattle.do_host.proofs.Generated.{printed_line, sum_printed}
use Rattle.do_host.proofs.generating.sum_up.Goals as goal

pub returns-in-Ok : goal.returns-in-Ok
returns-in-Ok g c =
    let d = g.S.Disk in
    let sink = sink_of g.W.Sink.taken g.W.Sink.faults_of in
    let lines = c.args.report.now.switch.lines.items in
    let line = summary_line c.args.count (replies_in lines) c.in-Ok.total in
    let rows = c.args.report.now.slots.items in
    let small : IsSumOf (length rows) c.in-Ok.total = subst (λ (r : Result ℤ OpenEnd). IfOk r (IsSumOf (length rows))) c.in-Ok.is c.sum_slots.ensures.small in
    let fits : to_z w64 (of_z w64 c.in-Ok.total) ≡ c.in-Ok.total = sum_fits (length rows) c.in-Ok.total c.requires small in
    let replies : c.replies_in-replies.result ≡ replies_in lines = c.replies_in-replies.ensures ∙ ap replies_in c.as_slice.ensures.value in
    let made : IfOk c.summary_line.result (λ bytes. bytes.items ≡ line) =
    subst (λ (z : ℤ). IfOk c.summary_line.result (λ bytes. bytes.items ≡ summary_line c.args.count (replies_in lines) z)) fits
    (subst (λ (n : ℕ). IfOk c.summary_line.result (λ bytes. bytes.items ≡ summary_line c.args.count n (to_z w64 (of_z w64 c.in-Ok.total)))) replies c.summary_line.ensures) in
    sum_printed (disks_of d.told d.image d.left_since d.moment_of d.faults_of) sink c.args.count c.args.report.now _ c.args.out.now c.put_line.new.out c.dump_end.result c.sum_slots.result c.in-Ok.total
    (refl, refl, refl) c.sum_slots.ensures.sums c.in-Ok.is
    (printed_line sink line c.args.out.now c.put_line.new.out c.put_line.result c.dump_end.result (c.put_line.ensures.writes line made) c.put_line.ensures.stop c.put_line.ensures.failed c.put_line.ensures.steady c.dump_end.ensures)
