use Rattle.std.proofs.Common.{sym, subst}
use Rattle.std.specs.Prelude.{Bool}
use Rattle.do_tree.specs.Checked.{tree_of as script_in}
use Rattle.timeline.specs.Steps as steps
use Rattle.front_turns.specs.Held.{life_in, object_of, Says}
use Rattle.front_turns.specs.declared.object.State.TheVariants as state
use Rattle.front_turns.proofs.Saying.{idle_says}
use Rattle.front_turns.proofs.serving.begins_parked.Goals as goal

pub returns-then-object : goal.returns-then-object
returns-then-object g c = λ ts held.
    let l = life_in (script_in c.args.checked.now) c.args.class c.args.incarnation in
    subst (λ (b : Bool). Says g.T.Task.seen l c.args.says.now.items c.begins_waiting.new.says.items c.in_ok-state.state (steps.begins_parked l (object_of c.args.object ts) b c.args.object.parked))
    (sym c.if-object.true) (c.in_ok-state.ensures ts held)

pub returns : goal.returns
returns g c = λ ts held.
    let l = life_in (script_in c.args.checked.now) c.args.class c.args.incarnation in
    subst (λ (b : Bool). Says g.T.Task.seen l c.args.says.now.items c.args.says.now.items (state.Idle c.args.object) (steps.begins_parked l (object_of c.args.object ts) b c.args.object.parked))
    (sym c.if-object.false) (idle_says ts held)
