use Rattle.std.proofs.Common.{◌∙◌, ◌++◌, refl, ap, sym, subst}
use Rattle.lane.specs.Lanes.{StartsWith, Taking}
use Rattle.line_server.specs.declared.line.Line.{Line}
use Rattle.mailbox.specs.Runs.{fault_of}
use Rattle.worker_pool.proofs.Ends.{are_by, has_run_by, slots}
use Rattle.worker_pool.proofs.Slots.{are_as, same_some}
use Rattle.worker_pool.proofs.closing.close_all.Goals as goal

pub join_all-room-requires-clause-slots : goal.join_all-room-requires-clause-slots
join_all-room-requires-clause-slots g c =
    let q = c.requires.worked in
    let w = q.4 in
    let p = c.into_parts-switch.ensures in
    let cell = same_some c.args.cells.switch c.unwrap-cell.result w.switch_cell c.unwrap-cell.ensures w.switch_is in (
      slots g.D.Disk.moment_of g.D.Disk.left_since g.D.Disk.told g.D.Disk.image g.D.Disk.faults_of g.R.Source.left g.R.Source.faults_of g.W.Sink.taken
          g.W.Sink.faults_of q.0 q.1 q.2 q.3 c.args.cells w,
      are_as _ _ _ _ _ _ _ _ _ refl refl (ap (λ v. v.items) p.ends.1) (ap (λ v. v.items) p.ends.2)
          (are_by g.D.Disk.moment_of g.D.Disk.left_since g.D.Disk.told g.D.Disk.image g.D.Disk.faults_of g.R.Source.left g.R.Source.faults_of g.W.Sink.taken
          g.W.Sink.faults_of q.0 q.1 q.2 q.3 c.args.cells w c.unwrap-cell.result cell),
    )

pub returns : goal.returns
returns g c script all switch lines w =
    let p = c.into_parts-switch.ensures in
    let l = c.close_lines-lines.ensures in
    let e = c.end_of-end.ensures in
    let cell = same_some c.args.cells.switch c.unwrap-cell.result w.switch_cell c.unwrap-cell.ensures w.switch_is in
    let reader = same_some c.args.cells.lines c.unwrap-reader.result w.lines_cell c.unwrap-reader.ensures w.lines_are in
    has_run_by g.D.Disk.moment_of g.D.Disk.left_since g.D.Disk.told g.D.Disk.image g.D.Disk.faults_of g.R.Source.left g.R.Source.faults_of g.W.Sink.taken
    g.W.Sink.faults_of script all switch lines c.args.cells w c.unwrap-cell.result c.unwrap-reader.result cell reader _ (record {
      switch_is = p.half.0;
      kept_is = p.half.1;
      lines_is = l.lines;
      joined = c.join_all-room.ensures _ (are_as _ _ _ _ _ _ _ _ _ refl refl (ap (λ v. v.items) p.ends.1) (ap (λ v. v.items) p.ends.2)
          (are_by g.D.Disk.moment_of g.D.Disk.left_since g.D.Disk.told g.D.Disk.image g.D.Disk.faults_of g.R.Source.left g.R.Source.faults_of g.W.Sink.taken
          g.W.Sink.faults_of script all switch lines c.args.cells w c.unwrap-cell.result cell));
      first = subst (λ (t : Taking Line). StartsWith c.unwrap-reader.result.send.sent t.got) p.ends.0 l.taken;
      free = λ ok. ap (λ s. fault_of s) (sym p.half.0) ∙ sym c.fault-fault.ensures ∙ (e.goes_on ok).0;
      passed = λ ok. let k = l.passed (e.goes_on ok).1 in (k.0, k.1 ∙ ap (λ (t : Taking Line). t.got ++ c.close_lines-lines.result.1.waiting) p.ends.0);
      whole = λ ok. c.whole-joined.ensures (e.goes_on ok).2;
      failed = λ bad. ap (λ s. fault_of s) (sym p.half.0) ∙ sym c.fault-fault.ensures ∙ e.write_failed bad;
      fails = λ bad. e.failed_write (c.fault-fault.ensures ∙ ap (λ s. fault_of s) p.half.0 ∙ bad);
    })
