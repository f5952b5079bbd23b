use Rattle.std.proofs.Common.{subst, sym}
use Rattle.do_tree.specs.Checked.{tree_of as script_in}
use Rattle.timeline.specs.Object as seen
use Rattle.timeline.specs.Steps as steps
use Rattle.front_turns.specs.Held.{life_in, object_of, Says}
use Rattle.front_turns.proofs.serving.goes_on.Goals as goal

pub then_parked-requires-clause-state : goal.then_parked-requires-clause-state
then_parked-requires-clause-state g c =
    let h = c.requires.held in
    (_, (c.in_ok-state.ensures h.0 h.1 h.2 h.3).state)

pub returns : goal.returns
returns g c = λ ts t held paused.
    let l = life_in (script_in c.args.checked.now) c.args.class c.args.incarnation in
    let o = object_of c.args.object ts in
    subst (λ (p : seen.Purpose). Says g.T.Task.seen l c.args.says.now.items c.then_parked.new.says.items c.in_ok-state-2.state (steps.then_parked l p (steps.goes_on l o (steps.resumed o t c.args.answer))))
    (sym paused.running.purpose) (c.in_ok-state-2.ensures _ _ (c.in_ok-state.ensures ts t held paused))
