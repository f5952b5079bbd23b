use Rattle.std.proofs.Common.{◌∙◌, ap, subst, arith, length}
use Rattle.do_disk.specs.Disk.{Rose}
use Rattle.do_tree.specs.Checked.{tree_of}
use Rattle.timeline.specs.Switch as timeline
use Rattle.worker_pool.specs.Fresh.{IsFreshReader, IsFreshSwitch}
use Rattle.host_core.proofs.Closed.{begun_fresh, came_from}
use Rattle.host_core.specs.Report.{PrintsLines, ReadsLines}
use Rattle.host_core.proofs.folder.serve_slots.Goals as goal

pub run_workers-ran-requires-clause-slots : goal.run_workers-ran-requires-clause-slots
run_workers-ran-requires-clause-slots g c = λ _ _.
    let begun = c.requires.begun in
    begun_fresh g.D.Disk.moment_of g.D.Disk.left_since g.D.Disk.told g.D.Disk.image g.D.Disk.faults_of begun.0 (tree_of c.args.checked.now) begun.1 c.args.directory
    c.args.slots.items begun.2

pub run_workers-ran-requires-clause-switch : goal.run_workers-ran-requires-clause-switch
run_workers-ran-requires-clause-switch g c = λ _ _.
    let fresh : IsFreshSwitch (length c.args.slots.items) c.new-switch.result = record {
      log = c.new-switch.ensures.log;
      free = c.new-switch.ensures.fault;
      many = ap (λ (s : timeline.Switch). length s.objects) c.new-switch.ensures.state ∙ c.requires.many;
    } in fresh

pub run_workers-ran-requires-clause-lines : goal.run_workers-ran-requires-clause-lines
run_workers-ran-requires-clause-lines g c = λ _ _.
    let fresh : IsFreshReader c.new-lines.result = record { free = c.new-lines.ensures.fault; none_read = c.new-lines.ensures.count } in fresh

pub serve_ran-requires-clause-room : goal.serve_ran-requires-clause-room
serve_ran-requires-clause-room g c =
    let many = c.run_workers-ran.ensures.objects.many in
    let room = c.requires.room in
    (omega (arith, room.0, many), record { inboxes = omega (arith, room.1.inboxes, many); outs = omega (arith, room.1.outs, many) })

pub serve_ran-requires-clause-came : goal.serve_ran-requires-clause-came
serve_ran-requires-clause-came g c =
    let begun = c.requires.begun in (
      begun.0,
      begun.1,
      c.args.directory,
      came_from g.D.Disk.moment_of g.D.Disk.left_since g.D.Disk.told g.D.Disk.image g.D.Disk.faults_of begun.0 (tree_of c.args.checked.now) begun.1 c.args.directory
          g.R.Source.left g.R.Source.faults_of g.W.Sink.taken g.W.Sink.faults_of c.run_workers-ran.result c.args.slots.items c.new-switch.result c.new-lines.result c.args.input
          begun.2 c.requires.many c.requires.few c.new-switch.ensures.state c.new-switch.ensures.log c.new-lines.ensures.source c.new-lines.ensures.reading c.run_workers-ran.ensures,
    )

pub returns-clause-report : goal.returns-clause-report
returns-clause-report g c = λ limit contents one_each begun.
    c.serve_ran.ensures.report limit contents c.args.directory one_each
    (came_from g.D.Disk.moment_of g.D.Disk.left_since g.D.Disk.told g.D.Disk.image g.D.Disk.faults_of limit (tree_of c.args.checked.now) contents c.args.directory
    g.R.Source.left g.R.Source.faults_of g.W.Sink.taken g.W.Sink.faults_of c.run_workers-ran.result c.args.slots.items c.new-switch.result c.new-lines.result c.args.input
    begun c.requires.many c.requires.few c.new-switch.ensures.state c.new-switch.ensures.log c.new-lines.ensures.source c.new-lines.ensures.reading c.run_workers-ran.ensures)

pub returns-clause-many : goal.returns-clause-many
returns-clause-many g c = c.serve_ran.ensures.many ∙ c.run_workers-ran.ensures.objects.many

pub returns-clause-lines : goal.returns-clause-lines
returns-clause-lines g c =
    let begun = c.requires.begun in
    let from = c.serve_ran.ensures.served begun.0 begun.1 c.args.directory
    (came_from g.D.Disk.moment_of g.D.Disk.left_since g.D.Disk.told g.D.Disk.image g.D.Disk.faults_of begun.0 (tree_of c.args.checked.now) begun.1 c.args.directory
    g.R.Source.left g.R.Source.faults_of g.W.Sink.taken g.W.Sink.faults_of c.run_workers-ran.result c.args.slots.items c.new-switch.result c.new-lines.result c.args.input
    begun.2 c.requires.many c.requires.few c.new-switch.ensures.state c.new-switch.ensures.log c.new-lines.ensures.source c.new-lines.ensures.reading c.run_workers-ran.ensures) in
    subst (λ (r : g.row.R.Denot). ReadsLines (g.R.Source.left r) (g.R.Source.left c.serve_ran.result.input) c.serve_ran.result.end c.serve_ran.new.report) c.new-lines.ensures.source from.lines

pub returns-clause-output : goal.returns-clause-output
returns-clause-output g c =
    let begun = c.requires.begun in
    let from = c.serve_ran.ensures.served begun.0 begun.1 c.args.directory
    (came_from g.D.Disk.moment_of g.D.Disk.left_since g.D.Disk.told g.D.Disk.image g.D.Disk.faults_of begun.0 (tree_of c.args.checked.now) begun.1 c.args.directory
    g.R.Source.left g.R.Source.faults_of g.W.Sink.taken g.W.Sink.faults_of c.run_workers-ran.result c.args.slots.items c.new-switch.result c.new-lines.result c.args.input
    begun.2 c.requires.many c.requires.few c.new-switch.ensures.state c.new-switch.ensures.log c.new-lines.ensures.source c.new-lines.ensures.reading c.run_workers-ran.ensures) in
    subst (λ (w : g.row.W.Denot). PrintsLines (g.W.Sink.taken w) (g.W.Sink.taken c.serve_ran.result.out) c.serve_ran.result.end c.serve_ran.new.report) c.new-switch.ensures.out from.output

pub returns-clause-read_failed : goal.returns-clause-read_failed
returns-clause-read_failed g c = λ failed.
    let begun = c.requires.begun in
    let from = c.serve_ran.ensures.served begun.0 begun.1 c.args.directory
    (came_from g.D.Disk.moment_of g.D.Disk.left_since g.D.Disk.told g.D.Disk.image g.D.Disk.faults_of begun.0 (tree_of c.args.checked.now) begun.1 c.args.directory
    g.R.Source.left g.R.Source.faults_of g.W.Sink.taken g.W.Sink.faults_of c.run_workers-ran.result c.args.slots.items c.new-switch.result c.new-lines.result c.args.input
    begun.2 c.requires.many c.requires.few c.new-switch.ensures.state c.new-switch.ensures.log c.new-lines.ensures.source c.new-lines.ensures.reading c.run_workers-ran.ensures) in
    subst (λ (r : g.row.R.Denot). Rose (g.R.Source.faults_of r) (g.R.Source.faults_of c.serve_ran.result.input)) c.new-lines.ensures.source (from.read_failed failed)

pub returns-clause-write_failed : goal.returns-clause-write_failed
returns-clause-write_failed g c = λ failed.
    let begun = c.requires.begun in
    let from = c.serve_ran.ensures.served begun.0 begun.1 c.args.directory
    (came_from g.D.Disk.moment_of g.D.Disk.left_since g.D.Disk.told g.D.Disk.image g.D.Disk.faults_of begun.0 (tree_of c.args.checked.now) begun.1 c.args.directory
    g.R.Source.left g.R.Source.faults_of g.W.Sink.taken g.W.Sink.faults_of c.run_workers-ran.result c.args.slots.items c.new-switch.result c.new-lines.result c.args.input
    begun.2 c.requires.many c.requires.few c.new-switch.ensures.state c.new-switch.ensures.log c.new-lines.ensures.source c.new-lines.ensures.reading c.run_workers-ran.ensures) in
    subst (λ (w : g.row.W.Denot). Rose (g.W.Sink.faults_of w) (g.W.Sink.faults_of c.serve_ran.result.out)) c.new-switch.ensures.out (from.write_failed failed)

pub returns-clause-steady : goal.returns-clause-steady
returns-clause-steady g c = λ unwritten.
    let begun = c.requires.begun in
    let from = c.serve_ran.ensures.served begun.0 begun.1 c.args.directory
    (came_from g.D.Disk.moment_of g.D.Disk.left_since g.D.Disk.told g.D.Disk.image g.D.Disk.faults_of begun.0 (tree_of c.args.checked.now) begun.1 c.args.directory
    g.R.Source.left g.R.Source.faults_of g.W.Sink.taken g.W.Sink.faults_of c.run_workers-ran.result c.args.slots.items c.new-switch.result c.new-lines.result c.args.input
    begun.2 c.requires.many c.requires.few c.new-switch.ensures.state c.new-switch.ensures.log c.new-lines.ensures.source c.new-lines.ensures.reading c.run_workers-ran.ensures) in
    from.steady unwritten ∙ ap g.W.Sink.faults_of c.new-switch.ensures.out
