use Rattle.std.proofs.Common.{◌∙◌, ap, sym, subst, Err, Result}
use Rattle.std.proofs.lemmas.Result.{err_from_is_err_and}
use Rattle.do_tree.specs.Checked.{tree_of}
use Rattle.mailbox.specs.Runs.{log_of}
use Rattle.host_core.proofs.Routings.{standing_can}
use Rattle.host_core.proofs.ServedOn.{at_err, at_no_err, below_now, goes_on, kept_there, order_now, resumes_as, serves_now, stands_now, stops_at_fault, stops_unkept}
use Rattle.host_core.specs.Resuming.{ServesOn}
use Rattle.host_core.specs.declared.serving.Stop.{Stop}
use Rattle.host_core.proofs.folder.serve_on.Goals as goal

pub returns-in_err-end-clause-serves : goal.returns-in_err-end-clause-serves
returns-in_err-end-clause-serves g c = λ limit contents named ran resumes.
    let p = err_from_is_err_and c.from_residual.result c.from_residual.ensures.1 in
    subst (λ (r : Result (Unit {0}) Stop). ServesOn g.D.Disk.moment_of g.D.Disk.left_since g.D.Disk.told g.D.Disk.image g.D.Disk.faults_of g.R.Source.left g.R.Source.faults_of g.W.Sink.taken g.W.Sink.faults_of limit (tree_of c.args.checked.now) contents named
    resumes.came.switch resumes.came.lines c.args.lines.now c.args.switch.now c.args.objects.now r) (sym (p.1 ∙ ap Err p.2))
    (stops_at_fault g.D.Disk.moment_of g.D.Disk.left_since g.D.Disk.told g.D.Disk.image g.D.Disk.faults_of g.R.Source.left g.R.Source.faults_of g.W.Sink.taken g.W.Sink.faults_of limit (tree_of c.args.checked.now) contents named ran c.args.end c.args.kept c.args.rest c.args.lines.now c.args.switch.now c.args.objects.now resumes
    c.in_err-end.field-0.0 c.in_err-end.was)

pub returns-in_err-end-clause-again : goal.returns-in_err-end-clause-again
returns-in_err-end-clause-again g c =
    let r = c.requires.resumes in
    standing_can g.D.Disk.moment_of g.D.Disk.left_since g.D.Disk.told g.D.Disk.image g.D.Disk.faults_of r.0 (tree_of c.args.checked.now) r.1 r.2 (log_of c.args.switch.now) c.args.objects.now
    (stands_now g.D.Disk.moment_of g.D.Disk.left_since g.D.Disk.told g.D.Disk.image g.D.Disk.faults_of g.R.Source.left g.R.Source.faults_of g.W.Sink.taken g.W.Sink.faults_of r.0 (tree_of c.args.checked.now) r.1 r.2 r.3 c.args.end c.args.kept c.args.rest c.args.lines.now c.args.switch.now c.args.objects.now r.4).slots

pub keep-requires : goal.keep-requires
keep-requires g c =
    let r = c.requires.resumes in
    record { there = kept_there g.D.Disk.moment_of g.D.Disk.left_since g.D.Disk.told g.D.Disk.image g.D.Disk.faults_of g.R.Source.left g.R.Source.faults_of g.W.Sink.taken g.W.Sink.faults_of r.0 (tree_of c.args.checked.now) r.1 r.2 r.3 c.args.end c.args.kept c.args.rest c.args.lines.now c.args.switch.now c.args.objects.now r.4 c.in_ok-end.was }

pub returns-then-is_err-clause-serves : goal.returns-then-is_err-clause-serves
returns-then-is_err-clause-serves g c = λ limit contents named ran resumes.
    stops_unkept g.D.Disk.moment_of g.D.Disk.left_since g.D.Disk.told g.D.Disk.image g.D.Disk.faults_of g.R.Source.left g.R.Source.faults_of g.W.Sink.taken g.W.Sink.faults_of limit (tree_of c.args.checked.now) contents named ran c.args.end c.args.kept c.args.rest c.args.lines.now c.args.switch.now c.keep.new.self
    (resumes_as g.D.Disk.moment_of g.D.Disk.left_since g.D.Disk.told g.D.Disk.image g.D.Disk.faults_of g.R.Source.left g.R.Source.faults_of g.W.Sink.taken g.W.Sink.faults_of limit (tree_of c.args.checked.now) contents named ran c.args.end c.args.kept c.args.rest c.args.lines.now c.args.switch.now c.args.objects.now c.keep.new.self resumes
    c.keep.ensures.cores.0 c.keep.ensures.cores.1 (at_err c.keep.result _ (sym c.is_err.ensures.value ∙ c.if-is_err.true) c.keep.ensures.same)) c.in_ok-end.was

pub returns-then-is_err-clause-again : goal.returns-then-is_err-clause-again
returns-then-is_err-clause-again g c =
    let r = c.requires.resumes in
    standing_can g.D.Disk.moment_of g.D.Disk.left_since g.D.Disk.told g.D.Disk.image g.D.Disk.faults_of r.0 (tree_of c.args.checked.now) r.1 r.2 (log_of c.args.switch.now) c.keep.new.self
    (stands_now g.D.Disk.moment_of g.D.Disk.left_since g.D.Disk.told g.D.Disk.image g.D.Disk.faults_of g.R.Source.left g.R.Source.faults_of g.W.Sink.taken g.W.Sink.faults_of r.0 (tree_of c.args.checked.now) r.1 r.2 r.3 c.args.end c.args.kept c.args.rest c.args.lines.now c.args.switch.now c.keep.new.self
    (resumes_as g.D.Disk.moment_of g.D.Disk.left_since g.D.Disk.told g.D.Disk.image g.D.Disk.faults_of g.R.Source.left g.R.Source.faults_of g.W.Sink.taken g.W.Sink.faults_of r.0 (tree_of c.args.checked.now) r.1 r.2 r.3 c.args.end c.args.kept c.args.rest c.args.lines.now c.args.switch.now c.args.objects.now c.keep.new.self r.4
    c.keep.ensures.cores.0 c.keep.ensures.cores.1 (at_err c.keep.result _ (sym c.is_err.ensures.value ∙ c.if-is_err.true) c.keep.ensures.same))).slots

pub serve_lines-requires-clause-serving : goal.serve_lines-requires-clause-serving
serve_lines-requires-clause-serving g c =
    let r = c.requires.resumes in (
      r.0,
      r.1,
      r.2,
      serves_now g.D.Disk.moment_of g.D.Disk.left_since g.D.Disk.told g.D.Disk.image g.D.Disk.faults_of g.R.Source.left g.R.Source.faults_of g.W.Sink.taken g.W.Sink.faults_of r.0 (tree_of c.args.checked.now) r.1 r.2 r.3 c.args.end c.args.kept c.args.rest c.args.lines.now c.args.switch.now c.args.objects.now r.4 c.keep.new.self c.in_ok-end.was c.keep.ensures.cores.0 c.keep.ensures.cores.1 (at_no_err c.keep.result _ (sym c.is_err.ensures.value ∙ c.if-is_err.false) c.keep.ensures.kept),
    )

pub serve_lines-requires-clause-order : goal.serve_lines-requires-clause-order
serve_lines-requires-clause-order g c =
    let r = c.requires.resumes in
    order_now g.D.Disk.moment_of g.D.Disk.left_since g.D.Disk.told g.D.Disk.image g.D.Disk.faults_of g.R.Source.left g.R.Source.faults_of g.W.Sink.taken g.W.Sink.faults_of r.0 (tree_of c.args.checked.now) r.1 r.2 r.3 c.args.end c.args.kept c.args.rest c.args.lines.now c.args.switch.now c.args.objects.now r.4 c.in_ok-end.was

pub serve_lines-requires-clause-below : goal.serve_lines-requires-clause-below
serve_lines-requires-clause-below g c =
    let r = c.requires.resumes in
    below_now g.D.Disk.moment_of g.D.Disk.left_since g.D.Disk.told g.D.Disk.image g.D.Disk.faults_of g.R.Source.left g.R.Source.faults_of g.W.Sink.taken g.W.Sink.faults_of r.0 (tree_of c.args.checked.now) r.1 r.2 r.3 c.args.end c.args.kept c.args.rest c.args.lines.now c.args.switch.now c.args.objects.now r.4 c.in_ok-end.was

pub returns-clause-serves : goal.returns-clause-serves
returns-clause-serves g c = λ limit contents named ran resumes.
    let e = c.serve_lines.ensures in
    goes_on g.D.Disk.moment_of g.D.Disk.left_since g.D.Disk.told g.D.Disk.image g.D.Disk.faults_of g.R.Source.left g.R.Source.faults_of g.W.Sink.taken g.W.Sink.faults_of limit (tree_of c.args.checked.now) contents named ran c.args.end c.args.kept c.args.rest c.args.lines.now c.args.switch.now c.args.objects.now resumes c.keep.new.self c.serve_lines.new.lines c.serve_lines.new.switch c.serve_lines.new.objects c.serve_lines.result c.in_ok-end.was
    (serves_now g.D.Disk.moment_of g.D.Disk.left_since g.D.Disk.told g.D.Disk.image g.D.Disk.faults_of g.R.Source.left g.R.Source.faults_of g.W.Sink.taken g.W.Sink.faults_of limit (tree_of c.args.checked.now) contents named ran c.args.end c.args.kept c.args.rest c.args.lines.now c.args.switch.now c.args.objects.now resumes c.keep.new.self c.in_ok-end.was c.keep.ensures.cores.0 c.keep.ensures.cores.1 (at_no_err c.keep.result _ (sym c.is_err.ensures.value ∙ c.if-is_err.false) c.keep.ensures.kept))
    (record {
      serving = e.serving;
      read_serving = e.read_serving;
      served = e.served;
      resting = e.resting;
      read_resting = e.read_resting;
      order = e.order;
      read_order = e.read_order;
      accepts = e.accepts;
      all = e.all;
      read_all = e.read_all;
      prints = e.prints;
      read_failed = e.read_failed;
    })
