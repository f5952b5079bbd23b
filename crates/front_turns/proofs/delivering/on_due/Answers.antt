use Rattle.std.proofs.Common.{◌∙◌, sym, subst}
use Rattle.std.specs.Prelude.{ℕ, Option}
use Rattle.do_tree.specs.Checked.{tree_of as script_in}
use Rattle.timeline.specs.Steps as steps
use Rattle.front_turns.specs.Held.{life_in, object_of, Says}
use Rattle.timeline.specs.Object.{Step}
use Rattle.front_turns.proofs.Stating.{clears}
use Rattle.front_turns.proofs.delivering.on_due.Goals as goal

pub returns-in_ok-state-in-None : goal.returns-in_ok-state-in-None
returns-in_ok-state-in-None g c = λ ts held.
    let l = life_in (script_in c.args.checked.now) c.args.class c.args.incarnation in
    let o = object_of c.args.object ts in
    subst (λ (k : Option ℕ). Says g.T.Task.seen l c.args.says.now.items c.handled.new.says.items c.in_ok-state-in-None.state
    (steps.handles_due l o c.args.event c.args.object.alarm k))
    (sym c.in-None.is ∙ c.alarm.ensures) (subst (λ (s : Step). Says g.T.Task.seen l c.args.says.now.items c.handled.new.says.items c.in_ok-state-in-None.state s)
    (sym (clears l o c.args.event c.args.object.alarm)) (c.in_ok-state-in-None.ensures l ts held))

pub returns-in_ok-state-in-Some : goal.returns-in_ok-state-in-Some
returns-in_ok-state-in-Some g c = λ ts held.
    let l = life_in (script_in c.args.checked.now) c.args.class c.args.incarnation in
    let o = object_of c.args.object ts in
    subst (λ (k : Option ℕ). Says g.T.Task.seen l c.args.says.now.items c.on_alarm.new.says.items c.in_ok-state-in-Some.state
    (steps.handles_due l o c.args.event c.args.object.alarm k))
    (sym c.in-Some.is ∙ c.alarm.ensures) (c.in_ok-state-in-Some.ensures c.in-Some.method ts held)
