use Rattle.do_tree.specs.Checked.{tree_of}
use Rattle.host_workers.proofs.Turning.{begins_front}
use Rattle.host_workers.proofs.front_cell.FrontCell.new.Goals as goal

pub returns-clause-cell : goal.returns-clause-cell
returns-clause-cell g c class alarm stands =
    let r = c.requires in
    begins_front (tree_of c.args.checked.now) class alarm c.events_come.ensures c.args.front.half r.fresh stands
    c.args.inbox.got c.args.notices.got c.args.line.sent r.unused.0 r.unused.1 r.unused.2
