use Rattle.std.proofs.Common.{◌≡◌, ◌∙◌, ap, sym, subst, arith, true, length, ℕ, List, Vec, Global}
use Rattle.do_tree.specs.Checked.{tree_of}
use Rattle.line_server.specs.Lines.{source_of}
use Rattle.mailbox.specs.Runs.{log_of, out_of}
use Rattle.mailbox.specs.Seen.{seen_log}
use Rattle.mailbox.specs.declared.switch_log.SwitchLog.{SwitchLog}
use Rattle.do_disk.specs.Disk.{Rose}
use Rattle.object_core.specs.declared.object.Core.{Core}
use Rattle.host_core.proofs.Closed.{halves_now, none_apart}
use Rattle.host_core.proofs.Ending.{either_way}
use Rattle.host_core.proofs.Reporting.{Ended, accepts_later, all_later, all_served, ends_by, finished_is, no_lines, prints_lines, read_is, read_later, reports, same_posts, write_rose, write_steady}
use Rattle.host_core.proofs.Resuming.{resumed_can}
use Rattle.host_core.proofs.ServedOn.{resumes_of}
use Rattle.host_core.proofs.Servings.{of_ok}
use Rattle.host_core.specs.Closing.{AreSettledUnless}
use Rattle.host_core.specs.Ends.{is_served, serving_end}
use Rattle.host_core.specs.Quiet.{AreLeftIn, AreLetGo, RowsTell}
use Rattle.host_core.specs.Report.{PrintsLines}
use Rattle.host_core.specs.Running.{IsAtRest, IsServing}
use Rattle.host_core.specs.declared.report.Report.{Report}
use Rattle.host_core.specs.declared.report.SlotReport.{SlotReport}
use Rattle.host_core.proofs.folder.serve_ran.Goals as goal

pub serve_on-served-requires : goal.serve_on-served-requires
serve_on-served-requires g c =
    let came = c.requires.came in
    record { resumes = (came.0, came.1, came.2, c.args.ran, resumes_of g.D.Disk.moment_of g.D.Disk.left_since g.D.Disk.told g.D.Disk.image g.D.Disk.faults_of g.R.Source.left g.R.Source.faults_of g.W.Sink.taken g.W.Sink.faults_of came.0 (tree_of c.args.checked.now) came.1 came.2 c.args.ran c.of-objects.result came.3 c.of-objects.ensures.cores c.of-objects.ensures.inboxes c.of-objects.ensures.outs) }

pub close-closed-requires-clause-room : goal.close-closed-requires-clause-room
close-closed-requires-clause-room g c = omega (arith, c.requires.room.0, c.serve_on-served.ensures.many, ap (λ (v : Vec (Core g.row.D.Denot) Global). length v.items) c.of-objects.ensures.cores)

pub close-closed-requires-clause-can : goal.close-closed-requires-clause-can
close-closed-requires-clause-can g c = ((tree_of c.args.checked.now), c.serve_on-served.ensures.again)

pub close-closed-requires-clause-few : goal.close-closed-requires-clause-few
close-closed-requires-clause-few g c =
    let came = c.requires.came.3 in
    omega (arith, came.few, came.ran_so.objects.many, c.serve_on-served.ensures.many, ap (λ (v : Vec (Core g.row.D.Denot) Global). length v.items) c.of-objects.ensures.cores)

pub close_apart-requires-clause-room : goal.close_apart-requires-clause-room
close_apart-requires-clause-room g c =
    omega (
      arith,
      c.requires.room.0,
      c.close-closed.ensures.room,
      c.close-closed.ensures.many,
      c.serve_on-served.ensures.many,
      ap (λ (v : Vec (Core g.row.D.Denot) Global). length v.items) c.of-objects.ensures.cores,
      c.close-closed.new.rows.ok,
      c.args.report.now.slots.ok,
      ap length c.requires.empty,
    )

pub close_apart-requires-clause-can : goal.close_apart-requires-clause-can
close_apart-requires-clause-can g c =
    let came = c.requires.came in
    resumed_can g.D.Disk.moment_of g.D.Disk.left_since g.D.Disk.told g.D.Disk.image g.D.Disk.faults_of g.R.Source.left g.R.Source.faults_of g.W.Sink.taken g.W.Sink.faults_of came.0 (tree_of c.args.checked.now) came.1 came.2 c.args.ran came.3

pub finish-end-requires : goal.finish-end-requires
finish-end-requires g c = λ sure.
    let came = c.requires.came in
    let on = c.serve_on-served.ensures.serves came.0 came.1 came.2 c.args.ran (resumes_of g.D.Disk.moment_of g.D.Disk.left_since g.D.Disk.told g.D.Disk.image g.D.Disk.faults_of g.R.Source.left g.R.Source.faults_of g.W.Sink.taken g.W.Sink.faults_of came.0 (tree_of c.args.checked.now) came.1 came.2 c.args.ran c.of-objects.result came.3 c.of-objects.ensures.cores c.of-objects.ensures.inboxes c.of-objects.ensures.outs) in
    (all_served c.serve_on-served.result _ sure on.serving on.read_serving).goes

pub returns-clause-report : goal.returns-clause-report
returns-clause-report g c = λ limit contents named one_each came.
    let ended : Ended g.W.Sink.taken g.W.Sink.faults_of c.serve_on-served.new.switch c.finish-end.new.switch c.serve_on-served.result c.close-closed.new.left.items c.finish-end.result = record { stops = c.finish-end.ensures.stops; finishes = c.finish-end.ensures.finishes } in
    let on = c.serve_on-served.ensures.serves limit contents named c.args.ran (resumes_of g.D.Disk.moment_of g.D.Disk.left_since g.D.Disk.told g.D.Disk.image g.D.Disk.faults_of g.R.Source.left g.R.Source.faults_of g.W.Sink.taken g.W.Sink.faults_of limit (tree_of c.args.checked.now) contents named c.args.ran c.of-objects.result came c.of-objects.ensures.cores c.of-objects.ensures.inboxes c.of-objects.ensures.outs) in
    let first = c.close-closed.new.rows.items in
    let rows = c.close_apart.new.rows.items in
    let many : length first ≡ length c.args.ran.cores.items =
    c.close-closed.ensures.many ∙ c.serve_on-served.ensures.many ∙ ap (λ (v : Vec (Core g.row.D.Denot) Global). length v.items) c.of-objects.ensures.cores in
    let same : is_served (serving_end c.serve_on-served.result) ≡ true → rows ≡ first = λ sure. c.close_apart.ensures.same
    (none_apart g.D.Disk.moment_of g.D.Disk.left_since g.D.Disk.told g.D.Disk.image g.D.Disk.faults_of limit (tree_of c.args.checked.now) contents named g.R.Source.left g.R.Source.faults_of g.W.Sink.taken g.W.Sink.faults_of c.args.ran came c.serve_on-served.result c.serve_on-served.new.switch c.serve_on-served.ensures.stops sure) in
    let serves : is_served (serving_end c.serve_on-served.result) ≡ true
    → IsServing g.D.Disk.moment_of g.D.Disk.left_since g.D.Disk.told g.D.Disk.image g.D.Disk.faults_of limit (tree_of c.args.checked.now) contents named c.serve_on-served.new.switch c.serve_on-served.new.objects = λ sure. all_served c.serve_on-served.result _ sure on.serving on.read_serving in
    let rests : is_served (serving_end c.serve_on-served.result) ≡ true → IsAtRest (tree_of c.args.checked.now) c.serve_on-served.new.objects = λ sure. all_served c.serve_on-served.result _ sure on.resting on.read_resting in
    reports g.W.Sink.taken g.W.Sink.faults_of came.switch c.serve_on-served.new.switch c.finish-end.new.switch c.serve_on-served.result c.close-closed.new.left.items c.finish-end.result ended
    g.D.Disk.moment_of g.D.Disk.left_since g.D.Disk.told g.D.Disk.image g.D.Disk.faults_of limit (tree_of c.args.checked.now) contents named c.serve_on-served.new.objects _ on.served serves
    (λ sure. subst (λ (all : List (SlotReport g.row.D.Denot)). AreLetGo g.D.Disk.told (tree_of c.args.checked.now) named (log_of c.serve_on-served.new.switch) all) (sym (same sure))
    (c.close-closed.ensures.quiet limit (tree_of c.args.checked.now) contents named (log_of c.serve_on-served.new.switch) (serves sure).slots (rests sure).resting (rests sure).routed))
    (λ sure is. either_way c.close-closed.result _ ⊥ _ c.close-closed.ensures.settled (c.finish-end.ensures.closed sure is)
    (λ settled. subst (λ (all : List (SlotReport g.row.D.Denot)). AreSettledUnless g.D.Disk.told limit (tree_of c.args.checked.now) contents named (log_of c.serve_on-served.new.switch) c.close-closed.new.left.items all) (sym (same sure))
    (settled limit (tree_of c.args.checked.now) contents named (log_of c.serve_on-served.new.switch) (serves sure).slots (rests sure).resting (rests sure).routed))
    (λ never. absurd never))
    (λ sure is. subst (λ (n : ℕ). AreLeftIn n c.close-closed.new.left.items) (sym (ap length (same sure) ∙ c.close-closed.ensures.many))
    (either_way c.close-closed.result _ ⊥ _ c.close-closed.ensures.left_in (c.finish-end.ensures.closed sure is) (λ left_in. left_in) (λ never. absurd never)))
    (λ sure. all_served c.serve_on-served.result _ sure on.order on.read_order)
    (λ sure tell. c.close-closed.ensures.tells (subst (λ (all : List (SlotReport g.row.D.Denot)). RowsTell g.D.Disk.told all) (same sure) tell))
    (ap seen_log c.into_parts-out.ensures.log)
    (c.close_apart.ensures.rows limit (tree_of c.args.checked.now) contents named (log_of c.serve_on-served.new.switch)
    (halves_now g.D.Disk.moment_of g.D.Disk.left_since g.D.Disk.told g.D.Disk.image g.D.Disk.faults_of limit (tree_of c.args.checked.now) contents named g.R.Source.left g.R.Source.faults_of g.W.Sink.taken g.W.Sink.faults_of c.args.ran came c.serve_on-served.result c.serve_on-served.new.switch c.serve_on-served.ensures.stops (length first) many)
    (c.close-closed.ensures.rows limit (tree_of c.args.checked.now) contents named (log_of c.serve_on-served.new.switch) on.served.slots))
    (c.close_apart.ensures.many ∙ omega (arith, many, came.ran_so.objects.many, came.many)) one_each c.finish-end.ensures.late
    (record {
      asked = c.answers_are_asked.ensures;
      order = c.calls_come_in_order.ensures;
      ends = c.ends_are_routed.ensures;
      fit = c.posts_fit.ensures;
      moments = c.moments_are_in_range.ensures;
      calls = c.calls_are_answered_once.ensures;
      asks = c.asks_are_answered_once.ensures;
      few = c.answers_are_no_more_than_asks.ensures;
      alone = c.unknown_is_only_answered.ensures;
      open_fetches = c.fetches_are_open.ensures;
      lines = c.left_has_its_line.ensures;
    })

pub returns-clause-served : goal.returns-clause-served
returns-clause-served g c = λ limit contents named came.
    let ended : Ended g.W.Sink.taken g.W.Sink.faults_of c.serve_on-served.new.switch c.finish-end.new.switch c.serve_on-served.result c.close-closed.new.left.items c.finish-end.result = record { stops = c.finish-end.ensures.stops; finishes = c.finish-end.ensures.finishes } in
    let on = c.serve_on-served.ensures.serves limit contents named c.args.ran (resumes_of g.D.Disk.moment_of g.D.Disk.left_since g.D.Disk.told g.D.Disk.image g.D.Disk.faults_of g.R.Source.left g.R.Source.faults_of g.W.Sink.taken g.W.Sink.faults_of limit (tree_of c.args.checked.now) contents named c.args.ran c.of-objects.result came c.of-objects.ensures.cores c.of-objects.ensures.inboxes c.of-objects.ensures.outs) in
    let by = ends_by g.W.Sink.taken g.W.Sink.faults_of came.switch c.serve_on-served.new.switch c.finish-end.new.switch c.serve_on-served.result c.close-closed.new.left.items c.finish-end.result ended in
    let same = ap (λ (l : SwitchLog). (seen_log l).accepted) c.into_parts-out.ensures.log ∙ (same_posts g.W.Sink.taken g.W.Sink.faults_of came.switch c.serve_on-served.new.switch c.finish-end.new.switch c.serve_on-served.result c.close-closed.new.left.items c.finish-end.result ended).accepted in
    let left = ap g.R.Source.left c.into_source.ensures in
    let report : Report g.row.D.Denot = record { slots = c.close_apart.new.rows; unopened = c.args.report.now.unopened; switch = c.into_parts-out.result.1; lines = c.count-report.result } in
    record {
      lines = record {
        accepted = λ bytes is. accepts_later bytes _ _ _ _ _ _ left same c.count-report.ensures.value (on.accepts bytes is);
        all = λ finished bytes is. all_later bytes _ _ _ _ same c.count-report.ensures.value
            (of_ok c.serve_on-served.result tt _ (finished_is c.serve_on-served.result c.finish-end.result by finished) on.all bytes is);
        all_read = λ failed bytes is. read_later bytes _ _ _ _ _ _ left same c.count-report.ensures.value
            (on.read_all (read_is c.serve_on-served.result c.finish-end.result by failed) bytes is);
        limit = c.count-report.ensures.limit;
      };
      output = subst (λ (w : g.row.W.Denot). PrintsLines (g.W.Sink.taken (out_of came.switch)) (g.W.Sink.taken w) c.finish-end.result report) (sym c.into_parts-out.ensures.sink)
          (prints_lines g.W.Sink.taken g.W.Sink.faults_of came.switch c.serve_on-served.new.switch c.finish-end.new.switch c.serve_on-served.result c.close-closed.new.left.items c.finish-end.result ended on.prints report (no_lines came.switch came.blank) (ap (λ (l : SwitchLog). l.lines.items) c.into_parts-out.ensures.log));
      read_failed = λ failed. subst (λ (r : g.row.R.Denot). Rose (g.R.Source.faults_of (source_of came.lines)) (g.R.Source.faults_of r)) (sym c.into_source.ensures)
          (on.read_failed (read_is c.serve_on-served.result c.finish-end.result by failed));
      write_failed = λ failed. subst (λ (w : g.row.W.Denot). Rose (g.W.Sink.faults_of (out_of came.switch)) (g.W.Sink.faults_of w)) (sym c.into_parts-out.ensures.sink)
          (write_rose g.W.Sink.taken g.W.Sink.faults_of came.switch c.serve_on-served.new.switch c.finish-end.new.switch c.serve_on-served.result c.close-closed.new.left.items c.finish-end.result ended on.prints failed);
      steady = λ unwritten. ap g.W.Sink.faults_of c.into_parts-out.ensures.sink ∙ write_steady g.W.Sink.taken g.W.Sink.faults_of came.switch c.serve_on-served.new.switch c.finish-end.new.switch c.serve_on-served.result c.close-closed.new.left.items c.finish-end.result ended on.prints unwritten;
    }

pub returns-clause-many : goal.returns-clause-many
returns-clause-many g c =
    omega (arith, c.close_apart.ensures.many, c.close-closed.ensures.many, c.serve_on-served.ensures.many, ap (λ (v : Vec (Core g.row.D.Denot) Global). length v.items) c.of-objects.ensures.cores)
