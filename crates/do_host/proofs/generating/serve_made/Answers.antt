use Rattle.std.proofs.Common.{◌≢◌, List, ℕ, refl, ◌∙◌, subst}
use Rattle.std.specs.Prelude.{string_bytes}
use Rattle.do_disk.specs.declared.memory_sink.VoidSink.{VoidSink}
use Rattle.do_tree.specs.Checked.{tree_of}
use Rattle.host_core.specs.declared.settings.ServeEnd.TheVariants as ends
use Rattle.do_host.specs.GenRuns.{generating, given_lines, over_lines}
use Rattle.do_host.specs.Outside.{Given, Left, Outside, depot_of, disks_of, given_of, left_of, outside_of, sink_of, source_of}
use Rattle.do_host.specs.ServeRuns.{ServesTree}
use Rattle.do_host.specs.Status.{status_of}
use Rattle.do_host.proofs.Generated.{goes_read, none_rose, tells_void}
use Rattle.do_host.proofs.Served.{dump_known, shows_end}
use Rattle.do_host.proofs.generating.serve_made.Goals as goal

pub returns : goal.returns
returns g c = λ seed lines_are accepted.
    let e = c.serve-end.ensures in
    let d = g.P.Store.Disk in
    let p = g.P.Depot in
    let end = c.serve-end.result.end in
    let tree = tree_of c.args.checked.now in
    let folder = string_bytes c.args.folder in
    let outside : Outside g.row.P-Store.Denot g.row.R.Denot g.row.W.Denot =
    outside_of (disks_of d.told d.image d.left_since d.moment_of d.faults_of) (source_of g.R.Source.left g.R.Source.faults_of) (sink_of g.W.Sink.taken g.W.Sink.faults_of) in
    let given : Given g.row.P-Store.Denot g.row.R.Denot g.row.W.Denot = given_of (depot_of p.text_at p.slot_at p.asked p.faults_of c.args.depot.now) c.args.input c.args.out c.args.report.now in
    let void : VoidSink = record {} in
    let served : Left g.row.P-Store.Denot (List ℕ) VoidSink =
    left_of (depot_of p.text_at p.slot_at p.asked p.faults_of c.serve-end.new.depot) c.serve-end.result.input c.serve-end.result.out c.serve-end.new.report (status_of end) in
    let serves : ServesTree (over_lines outside) tree (generating folder) (given_lines c.new.result void given) served =
    record {
      end = end;
      served = c.serve-end.result.out;
      tells = tells_void c.serve-end.result.out end;
      reports = e.report;
      lines = e.lines;
      output = e.output;
      opened = e.opened;
      unopened = e.unopened;
      causes = e.causes;
      asked = e.asked;
    } in
    let unread : end ≢ ends.ReadFailed = λ read. none_rose (e.causes.read_failed read) in
    let shown = shows_end outside.sink.faults_of outside.sink.taken c.go_on-end.new.out c.end_served.result.out c.end_served.result.status c.go_on-end.result c.end_served.ensures.tells in
    record {
      statuses = dump_known outside.sink.faults_of outside.sink.taken c.go_on-end.new.out c.end_served.result.out c.end_served.result.status c.go_on-end.result
          (goes_read outside.disks outside.sink c.args.count c.serve-end.new.report c.args.out c.go_on-end.new.out c.go_on-end.result c.go_on-end.new.report end unread c.go_on-end.ensures) shown;
      unread = c.end_served.ensures.input;
      tree = tree;
      accepted = accepted;
      void = void;
      served = served;
      serves = subst (λ (l : List ℕ). ServesTree (over_lines outside) tree (generating folder) (given_lines l void given) served) (c.new.ensures ∙ lines_are) serves;
      depot = refl;
      end = c.go_on-end.result;
      summed = c.go_on-end.new.out;
      goes_on = c.go_on-end.ensures;
      tells = c.end_served.ensures.tells;
    }
