use Rattle.std.proofs.Common.{subst, sym}
use Rattle.do_tree.specs.Checked.{tree_of}
use Rattle.object_front.specs.declared.front.Front.{Front}
use Rattle.host_workers.specs.Fronts.{IsFrontOver}
use Rattle.host_workers.proofs.Turning.{can_turn, turn_keeps}
use Rattle.host_workers.proofs.front_cell.FrontCell.turn.Goals as goal

pub turn-requires : goal.turn-requires
turn-requires g c =
    let r = c.requires in
    let s = c.args.self.now in
    let front = c.get_mut.result.now in
    let was = subst (λ (f : Front). IsFrontOver (tree_of s.checked.now) r.0 r.1 f.half s.inbox.got s.notices.got s.line.sent) (sym c.get_mut.ensures.value) r.2 in
    can_turn (tree_of s.checked.now) r.0 r.1 front.half front.half s.inbox.got s.inbox.got s.notices.got s.notices.got s.notices.told s.line.sent s.line.sent was

pub returns-clause-cell : goal.returns-clause-cell
returns-clause-cell g c first alarm one =
    let e = c.turn.ensures in
    let s = c.args.self.now in
    let front = c.get_mut.result.now in
    let was = subst (λ (f : Front). IsFrontOver (tree_of s.checked.now) first alarm f.half s.inbox.got s.notices.got s.line.sent) (sym c.get_mut.ensures.value) one in
    turn_keeps (tree_of s.checked.now) first alarm front.half c.turn.new.self.half s.inbox.got c.turn.new.inbox.got s.notices.got c.turn.new.notices.got s.notices.told
    s.line.sent c.turn.new.line.sent was c.turn_steps.ensures c.events_come.ensures c.class_comes.ensures c.turn.result
    (record { stopped = e.stopped; still = e.still; ran = e.ran; lost = e.lost; too = e.too })
