use Rattle.std.proofs.Common.{◌≡◌, ◌∙◌, [], arith, subst, sym}
use Rattle.do_tree.specs.Checked.{tree_of}
use Rattle.line_server.specs.Lines.{IsReading, source_of}
use Rattle.line_server.specs.declared.lines.Lines.{Lines}
use Rattle.mailbox.specs.Runs.{out_of, state_of}
use Rattle.mailbox.specs.declared.switch.Switch.{Switch}
use Rattle.host_workers.specs.Lines.{HasCounted}
use Rattle.host_workers.specs.Switches.{HasPrinted, IsSwitchCell}
use Rattle.worker_pool.proofs.Beginning.{are_cells, begins_with, many_fronts, no_event, no_message, none_missing}
use Rattle.worker_pool.proofs.Ending.{has_worked}
use Rattle.worker_pool.proofs.Unmade.{begins_counted}
use Rattle.worker_pool.proofs.running.run_prepared.Goals as goal

pub make_all-fronts-requires-clause-fresh : goal.make_all-fronts-requires-clause-fresh
make_all-fronts-requires-clause-fresh g c = λ slot halves at. (c.requires.slots slot halves at).fresh

pub new-requires-clause-unused : goal.new-requires-clause-unused
new-requires-clause-unused g c =
    let made = c.make_all-fronts.ensures in (
      c.requires.prepared.lines.2,
      λ slot. (
        no_message g.D.Disk.moment_of g.D.Disk.left_since g.D.Disk.told g.D.Disk.image g.D.Disk.faults_of (tree_of c.args.checked.now) c.args.run.slots.items
            c.make_all-fronts.result made slot,
        no_event g.D.Disk.moment_of g.D.Disk.left_since g.D.Disk.told g.D.Disk.image g.D.Disk.faults_of (tree_of c.args.checked.now) c.args.run.slots.items
            c.make_all-fronts.result made slot,
      ),
    )

-- the cells that were made are those of the run that they name
pub run_named-end-requires-clause-cells : goal.run_named-end-requires-clause-cells
run_named-end-requires-clause-cells g c κs within =
    let sc = c.new.ensures in
    let lc = c.new-2.ensures in
    let take : c.new.result.lines.lane ≡ c.args.prepared.take.lane = λ i. (sc.ends.0 i).lane in
    let send : c.new-2.result.send.lane ≡ c.args.prepared.send.lane = λ i. (lc.parts.1 i).lane in
    let lane = take ∙ sym c.requires.prepared.lines.0 ∙ sym send in
    let outs : c.new.result.outs.items ≡ c.make_all-fronts.result.outs.items = λ i. (sc.ends.1 i).items in
    let inboxes : c.new.result.inboxes.items ≡ c.make_all-fronts.result.inboxes.items = λ i. (sc.ends.2 i).items in
    let switch = subst (λ (s : Switch g.row.W.Denot). IsSwitchCell (state_of s) c.new.result) (sym sc.half.0) sc.cell in
    let printed = subst (λ (s : Switch g.row.W.Denot). HasPrinted g.W.Sink.taken g.W.Sink.faults_of (g.W.Sink.taken (out_of s)) (g.W.Sink.faults_of (out_of s)) s)
    (sym sc.half.0) sc.printed in
    let counted = subst (λ (l : Lines g.row.R.Denot). HasCounted g.R.Source.faults_of (g.R.Source.faults_of (source_of l)) l) (sym lc.parts.0)
    (begins_counted g.R.Source.faults_of c.args.run.lines c.requires.lines.free) in
    are_cells g.D.Disk.moment_of g.D.Disk.left_since g.D.Disk.told g.D.Disk.image g.D.Disk.faults_of g.R.Source.left g.R.Source.faults_of g.W.Sink.taken g.W.Sink.faults_of
    (tree_of c.args.checked.now) c.args.run.slots.items c.make_all-fronts.result c.new.result c.new-2.result c.make_all-fronts.ensures
    c.requires.few sc.half.2 c.requires.slots lane outs inboxes switch printed
    (λ whole reading. lc.cell whole (subst (λ (l : Lines g.row.R.Denot). IsReading g.R.Source.left whole [] l) lc.parts.0 reading)) counted lc.numbered

pub run_named-end-requires-clause-full : goal.run_named-end-requires-clause-full
run_named-end-requires-clause-full g c κs within =
    none_missing g.D.Disk.moment_of g.D.Disk.left_since g.D.Disk.told g.D.Disk.image g.D.Disk.faults_of g.R.Source.left g.R.Source.faults_of g.W.Sink.taken g.W.Sink.faults_of
    (tree_of c.args.checked.now) c.args.run.slots.items c.make_all-fronts.result c.new.result c.new-2.result c.make_all-fronts.ensures

-- there is room for what is left of each slot
pub close_all-requires-clause-room : goal.close_all-requires-clause-room
close_all-requires-clause-room g c =
    let many = many_fronts g.D.Disk.moment_of g.D.Disk.left_since g.D.Disk.told g.D.Disk.image g.D.Disk.faults_of g.R.Source.left g.R.Source.faults_of g.W.Sink.taken g.W.Sink.faults_of
    (tree_of c.args.checked.now) c.args.run.slots.items c.make_all-fronts.result c.new.result c.new-2.result c.make_all-fronts.ensures in
    let all = c.run_named-end.ensures.cells.each_front ∙ many in
    (omega (arith, all, c.requires.prepared.cores.1), omega (arith, all, c.requires.prepared.apart.1))

-- the cells that the workers left are those of the run that began so
pub close_all-requires-clause-worked : goal.close_all-requires-clause-worked
close_all-requires-clause-worked g c =
    let begins = begins_with g.D.Disk.moment_of g.D.Disk.left_since g.D.Disk.told g.D.Disk.image g.D.Disk.faults_of g.R.Source.left g.R.Source.faults_of g.W.Sink.taken g.W.Sink.faults_of
    (tree_of c.args.checked.now) c.args.run.slots.items c.make_all-fronts.result c.new.result c.new-2.result c.make_all-fronts.ensures c.args.run.switch c.args.run.lines
    c.requires.few c.new.ensures.half.2 c.new.ensures.half.0 c.new-2.ensures.parts.0 in (
      tree_of c.args.checked.now,
      c.args.run.slots.items,
      c.args.run.switch,
      c.args.run.lines,
      has_worked g.D.Disk.moment_of g.D.Disk.left_since g.D.Disk.told g.D.Disk.image g.D.Disk.faults_of g.R.Source.left g.R.Source.faults_of g.W.Sink.taken g.W.Sink.faults_of
          (tree_of c.args.checked.now) _ c.args.run.slots.items c.args.run.switch c.args.run.lines begins c.run_named-end.result.1 c.run_named-end.ensures.cells c.run_named-end.ensures.full,
    )

pub returns : goal.returns
returns g c =
    let begins = begins_with g.D.Disk.moment_of g.D.Disk.left_since g.D.Disk.told g.D.Disk.image g.D.Disk.faults_of g.R.Source.left g.R.Source.faults_of g.W.Sink.taken g.W.Sink.faults_of
    (tree_of c.args.checked.now) c.args.run.slots.items c.make_all-fronts.result c.new.result c.new-2.result c.make_all-fronts.ensures c.args.run.switch c.args.run.lines
    c.requires.few c.new.ensures.half.2 c.new.ensures.half.0 c.new-2.ensures.parts.0 in
    c.close_all.ensures (tree_of c.args.checked.now) c.args.run.slots.items c.args.run.switch c.args.run.lines
    (has_worked g.D.Disk.moment_of g.D.Disk.left_since g.D.Disk.told g.D.Disk.image g.D.Disk.faults_of g.R.Source.left g.R.Source.faults_of g.W.Sink.taken g.W.Sink.faults_of
    (tree_of c.args.checked.now) _ c.args.run.slots.items c.args.run.switch c.args.run.lines begins c.run_named-end.result.1 c.run_named-end.ensures.cells c.run_named-end.ensures.full)
