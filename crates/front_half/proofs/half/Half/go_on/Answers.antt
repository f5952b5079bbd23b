use Rattle.do_tree.specs.Checked.{tree_of as script_in}
use Rattle.front_half.proofs.Noticed.{wait_knows}
use Rattle.front_half.proofs.half.Half.go_on.Goals as goal

pub unreachable-requires : goal.unreachable-requires
unreachable-requires g c =
    let r = c.requires.half in
    wait_knows g.T.Task.seen (script_in c.args.checked.now) c.args.self.now c.args.object c.args.running c.args.task r.0 r.1 r.2 c.in-None.is
