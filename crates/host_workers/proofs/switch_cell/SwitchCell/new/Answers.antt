use Rattle.do_tree.specs.Checked.{tree_of}
use Rattle.host_workers.proofs.Printing.{begins_printed}
use Rattle.host_workers.proofs.Switching.{begins_switch}
use Rattle.host_workers.proofs.switch_cell.SwitchCell.new.Goals as goal

pub returns-clause-cell : goal.returns-clause-cell
returns-clause-cell g c =
    let r = c.requires in
    begins_switch (tree_of c.args.checked.now) c.args.switch c.args.outs.items c.args.inboxes.items c.args.lines.got r.fresh.0 r.slots.0 r.slots.1 r.unused.0 r.unused.1

pub returns-clause-printed : goal.returns-clause-printed
returns-clause-printed g c = begins_printed g.W.Sink.taken g.W.Sink.faults_of c.args.switch c.requires.fresh.0 c.requires.fresh.1
