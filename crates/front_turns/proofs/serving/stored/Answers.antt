use Rattle.std.proofs.Common.{subst}
use Rattle.do_tree.specs.Checked.{tree_of as script_in}
use Rattle.script_mean.specs.declared.answer.Answer.{Answer}
use Rattle.timeline.specs.Steps as steps
use Rattle.front_turns.specs.Held.{life_in, object_of, Says}
use Rattle.front_turns.proofs.serving.stored.Goals as goal

pub returns : goal.returns
returns g c = λ ts t held paused.
    let l = life_in (script_in c.args.checked.now) c.args.class c.args.incarnation in
    let o = object_of c.args.object ts in
    subst (λ (a : Answer). Says g.T.Task.seen l c.args.says.now.items c.goes_on.new.says.items c.in_ok-state.state (steps.then_parked l t.purpose (steps.goes_on l o (steps.resumed o t a))))
    c.hidden-answer.ensures (c.in_ok-state.ensures ts t held paused)
