use Rattle.std.proofs.Common.{ℕ, ◌<◌, refl, ap, subst}
use Rattle.script_state.specs.declared.state.State.{State}
use Rattle.script_eval.proofs.Applied.{inside_moved, then_moved}
use Rattle.script_eval.proofs.Led.{exceed_leads}
use Rattle.script_eval.proofs.Stepped.{put_leads, stops_on}
use Rattle.script_eval.proofs.machine.Machine.apply_move.Goals as goal
use Rattle.script_eval.specs.declared.act.Act.TheVariants as act
use Rattle.script_eval.specs.declared.machine.Stop.TheVariants as stop

pub returns-then-not-charge : goal.returns-then-not-charge
returns-then-not-charge c =
    let refused = c.charge.ensures.refused c.if-not-charge.true in
    let none = subst (λ (n : ℕ). c.args.self.now.state.left < n) c.cost_of.ensures refused.0 in
    let same = ap (λ (s : State). record c.args.self.now { state = s }) refused.1 in
    stops_on (act.Moves c.args.m) c.args.self.now _ stop.Exceeded c.stop_at.result c.args.focus.now c.stop_at.ensures
    (exceed_leads c.args.self.now _ c.args.m c.requires none same)

pub returns-in-Then : goal.returns-in-Then
returns-in-Then c =
    put_leads (act.Moves c.args.m) c.args.self.now _ c.in-Then.next c.put_next.new.focus c.put_next.ensures
    (then_moved c.args.self.now c.charge.new.self c.args.m c.cost_of.result _ c.in-Then.next c.requires c.in-Then.is c.cost_of.ensures (c.if-not-charge.ensures.charged refl))

pub returns-in_ok-push-in-Inside : goal.returns-in_ok-push-in-Inside
returns-in_ok-push-in-Inside c =
    put_leads (act.Moves c.args.m) c.args.self.now _ c.in-Inside.next c.put_next-in-Inside.new.focus c.put_next-in-Inside.ensures
    (inside_moved c.args.self.now c.push.new.self c.charge.new.self c.args.m c.cost_of.result _ c.in-Inside.frame c.in-Inside.next c.requires c.in-Inside.is c.cost_of.ensures
    (c.if-not-charge.ensures.charged refl) c.in_ok-push-in-Inside.ensures)
