use Rattle.std.proofs.Common.{◌≡◌, ◌<◌, ◌∙◌, ap, sym, subst, refl, arith, Some, ℕ, List, length, string_bytes}
use Rattle.std.specs.Prelude.{IfSome, slice_get}
use Rattle.do_tree.specs.Checked.{tree_of}
use Rattle.timeline.specs.Switch.{SwitchLog, no_log}
use Rattle.host_core.proofs.Ending.{at_fault}
use Rattle.host_core.proofs.Reporting.{accepts_later, accepts_nothing, if_fault, is_early, less_is_not, none_there, not_served, not_written, prints_nothing, reports_none, reports_opened, was_bad, was_failed}
use Rattle.host_core.proofs.Resuming.{begun_can, begun_halves}
use Rattle.host_core.specs.Closing.{AreHalves}
use Rattle.host_core.specs.Opening.{IsBad, LeavesFile, LeavesHanded}
use Rattle.host_core.specs.Report.{IsReport, is_opening_end}
use Rattle.host_core.specs.declared.report.Report.{Report}
use Rattle.host_core.specs.declared.report.SlotReport.{SlotReport}
use Rattle.host_core.specs.declared.settings.ServeEnd.{ServeEnd}
use Rattle.host_core.specs.declared.settings.Served.{Served}
use Rattle.host_core.proofs.folder.serve.Goals as goal

pub returns-in_default-clause-report : goal.returns-in_default-clause-report
returns-in_default-clause-report g c =
    let report : Report g.row.P-Store.Denot = record { slots = c.of.new.rows; unopened = c.args.report.now.unopened; switch = c.args.report.now.switch; lines = c.args.report.now.lines } in
    subst (λ (s : Served g.row.R.Denot g.row.W.Denot). IsReport g.P.Store.Disk.moment_of g.P.Store.Disk.left_since g.P.Store.Disk.told g.P.Store.Disk.faults_of c.args.settings.now.journal (tree_of c.args.checked.now) (g.P.Depot.slot_at c.args.depot.now (string_bytes c.args.settings.now.folder)) c.args.settings.now.slots s.end report) (sym c.without_memory.ensures)
    (reports_none g.P.Store.Disk.moment_of g.P.Store.Disk.left_since g.P.Store.Disk.told g.P.Store.Disk.faults_of c.args.settings.now.journal (tree_of c.args.checked.now) (g.P.Depot.slot_at c.args.depot.now (string_bytes c.args.settings.now.folder)) c.args.settings.now.slots report (c.of.ensures.same ∙ c.requires.empty.slots) c.requires.empty.switch)

pub serve_slots-requires-clause-begun : goal.serve_slots-requires-clause-begun
serve_slots-requires-clause-begun g c = λ _ _.
    (c.args.settings.now.journal, g.P.Depot.slot_at c.args.depot.now (string_bytes c.args.settings.now.folder), c.open.ensures.begun)

pub close_apart-requires-clause-room : goal.close_apart-requires-clause-room
close_apart-requires-clause-room g c =
    omega (arith, at_fault c.open.result c.in-Err.end _ c.in-Err.is c.open.ensures.some, c.in-Ok.ensures.rows)

pub close_apart-requires-clause-can : goal.close_apart-requires-clause-can
close_apart-requires-clause-can g c =
    begun_can g.P.Store.Disk.moment_of g.P.Store.Disk.left_since g.P.Store.Disk.told g.P.Store.Disk.image g.P.Store.Disk.faults_of c.args.settings.now.journal (tree_of c.args.checked.now) (g.P.Depot.slot_at c.args.depot.now (string_bytes c.args.settings.now.folder)) c.open.new.directory c.open.new.slots.items c.open.ensures.begun

pub returns-in-Err-clause-report : goal.returns-in-Err-clause-report
returns-in-Err-clause-report g c =
    let none = c.of.ensures.same ∙ c.requires.empty.slots in
    let many : length c.close_apart.new.rows.items ≡ length c.open.new.slots.items = omega (arith, c.close_apart.ensures.many, ap length none) in
    let few = subst (λ (n : ℕ). n < c.args.settings.now.slots) (sym many) (at_fault c.open.result c.in-Err.end _ c.in-Err.is c.open.ensures.some) in
    let stop = (if_fault c.open.result c.in-Err.end _ c.in-Err.is c.open.ensures.stop) in
    let report : Report g.row.P-Store.Denot = record { slots = c.close_apart.new.rows; unopened = c.open.new.unopened; switch = c.args.report.now.switch; lines = c.args.report.now.lines } in
    subst (λ (e : ServeEnd). IsReport g.P.Store.Disk.moment_of g.P.Store.Disk.left_since g.P.Store.Disk.told g.P.Store.Disk.faults_of c.args.settings.now.journal (tree_of c.args.checked.now) (g.P.Depot.slot_at c.args.depot.now (string_bytes c.args.settings.now.folder)) c.args.settings.now.slots e report) (sym c.opening_end.ensures)
    (reports_opened g.P.Store.Disk.moment_of g.P.Store.Disk.left_since g.P.Store.Disk.told g.P.Store.Disk.faults_of c.args.settings.now.journal (tree_of c.args.checked.now) (g.P.Depot.slot_at c.args.depot.now (string_bytes c.args.settings.now.folder)) c.open.new.directory c.args.settings.now.slots c.in-Err.end report c.requires.empty.switch
    (c.close_apart.ensures.rows c.args.settings.now.journal (tree_of c.args.checked.now) (g.P.Depot.slot_at c.args.depot.now (string_bytes c.args.settings.now.folder)) c.open.new.directory no_log
    (subst (λ (n : ℕ). AreHalves g.P.Store.Disk.moment_of g.P.Store.Disk.left_since g.P.Store.Disk.told g.P.Store.Disk.image g.P.Store.Disk.faults_of c.args.settings.now.journal (tree_of c.args.checked.now) (g.P.Depot.slot_at c.args.depot.now (string_bytes c.args.settings.now.folder)) c.open.new.directory no_log n c.open.new.slots.items) (sym (ap length none))
    (begun_halves g.P.Store.Disk.moment_of g.P.Store.Disk.left_since g.P.Store.Disk.told g.P.Store.Disk.image g.P.Store.Disk.faults_of c.args.settings.now.journal (tree_of c.args.checked.now) c.fresh_are_one.ensures (g.P.Depot.slot_at c.args.depot.now (string_bytes c.args.settings.now.folder)) c.open.new.directory c.open.new.slots.items c.open.ensures.begun))
    (λ slot row is. none_there slot row _ (subst (λ (rows : List (SlotReport g.row.P-Store.Denot)). slice_get rows slot ≡ Some row) none is)))
    c.open.ensures.many c.open.ensures.one_each few
    (λ bad is. subst (λ (n : ℕ). IsBad (g.P.Depot.slot_at c.args.depot.now (string_bytes c.args.settings.now.folder)) c.open.new.directory n bad) (sym many) (stop.bad bad is).0))

pub returns-in-Err-clause-lines : goal.returns-in-Err-clause-lines
returns-in-Err-clause-lines g c =
    let none = ap (λ (l : SwitchLog). l.accepted) c.requires.empty.switch in
    record {
      accepted = λ bytes is. accepts_later bytes _ _ _ _ _ _ refl none c.requires.empty.lines (accepts_nothing (g.R.Source.left c.args.input) bytes is);
      all = λ is. absurd (not_served c.in-Err.end _ refl (sym c.opening_end.ensures ∙ is));
      all_read = λ is. absurd (not_served c.in-Err.end _ refl (sym c.opening_end.ensures ∙ is));
      limit = omega (arith, c.requires.empty.lines);
    }

pub returns-in-Err-clause-output : goal.returns-in-Err-clause-output
returns-in-Err-clause-output g c = prints_nothing (g.W.Sink.taken c.args.out) c.opening_end.result _ c.requires.empty.switch

pub returns-in-Err-clause-opened : goal.returns-in-Err-clause-opened
returns-in-Err-clause-opened g c =
    let many : length c.close_apart.new.rows.items ≡ length c.open.new.slots.items = omega (arith, c.close_apart.ensures.many, ap length (c.of.ensures.same ∙ c.requires.empty.slots)) in
    let few = (subst (λ (n : ℕ). n < c.args.settings.now.slots) (sym many) (at_fault c.open.result c.in-Err.end _ c.in-Err.is c.open.ensures.some)) in
    let stop = (if_fault c.open.result c.in-Err.end _ c.in-Err.is c.open.ensures.stop) in
    record {
      all = λ none. absurd (none (subst is_opening_end (sym c.opening_end.ensures) (is_early c.in-Err.end)));
      none_unopened = λ all. absurd (less_is_not few all);
      unread = λ _. (refl, refl, refl, c.requires.empty.lines);
      early = λ _. few;
      kept = λ bad is. (stop.bad bad (was_bad c.in-Err.end bad (sym c.opening_end.ensures ∙ is))).1;
    }

pub returns-in-Err-clause-unopened : goal.returns-in-Err-clause-unopened
returns-in-Err-clause-unopened g c =
    let many : length c.close_apart.new.rows.items ≡ length c.open.new.slots.items = omega (arith, c.close_apart.ensures.many, ap length (c.of.ensures.same ∙ c.requires.empty.slots)) in
    let stop = (if_fault c.open.result c.in-Err.end _ c.in-Err.is c.open.ensures.stop) in
    record {
      handed = subst (λ (n : ℕ). IfSome c.open.new.unopened (LeavesHanded g.P.Store.Disk.told g.P.Store.Disk.image g.P.Store.Disk.moment_of g.P.Store.Disk.left_since ((g.P.Depot.slot_at c.args.depot.now (string_bytes c.args.settings.now.folder)) n)))
          (sym many) stop.handed;
      untouched = λ bad is refused. subst (λ (n : ℕ). IfSome c.open.new.unopened (LeavesFile g.P.Store.Disk.left_since ((g.P.Depot.slot_at c.args.depot.now (string_bytes c.args.settings.now.folder)) n)))
          (sym many) (stop.untouched bad (was_bad c.in-Err.end bad (sym c.opening_end.ensures ∙ is)) refused);
    }

pub returns-in-Err-clause-causes : goal.returns-in-Err-clause-causes
returns-in-Err-clause-causes g c =
    let stop = (if_fault c.open.result c.in-Err.end _ c.in-Err.is c.open.ensures.stop) in
    record {
      open_failed = λ is. stop.failed (was_failed c.in-Err.end (sym c.opening_end.ensures ∙ is));
      read_failed = λ is. absurd (not_served c.in-Err.end _ refl (sym c.opening_end.ensures ∙ is));
      write_failed = λ is. absurd (not_written c.in-Err.end (sym c.opening_end.ensures ∙ is));
      sink_steady = λ _. refl;
    }

pub returns-in-Err-clause-asked : goal.returns-in-Err-clause-asked
returns-in-Err-clause-asked g c =
    let many : length c.close_apart.new.rows.items ≡ length c.open.new.slots.items = omega (arith, c.close_apart.ensures.many, ap length (c.of.ensures.same ∙ c.requires.empty.slots)) in
    let few = (subst (λ (n : ℕ). n < c.args.settings.now.slots) (sym many) (at_fault c.open.result c.in-Err.end _ c.in-Err.is c.open.ensures.some)) in
    record { first = c.open.ensures.asked; mounted = λ all. absurd (less_is_not few all) }
