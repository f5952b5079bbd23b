use Rattle.std.proofs.Common.{sym, subst}
use Rattle.std.specs.Prelude.{ℕ, ℤ, Option, Some}
use Rattle.do_tree.specs.Checked.{tree_of as script_in}
use Rattle.timeline.specs.Steps as steps
use Rattle.front_turns.specs.Held.{life_in, object_of, Says}
use Rattle.front_turns.specs.declared.object.State.TheVariants as state
use Rattle.front_turns.proofs.Saying.{idle_says}
use Rattle.front_turns.proofs.delivering.on_alarm.Goals as goal

pub returns-in-None : goal.returns-in-None
returns-in-None g c = λ method ts held.
    let l = life_in (script_in c.args.checked.now) c.args.class c.args.incarnation in
    subst (λ (a : Option (ℤ × ℕ)). Says g.T.Task.seen l c.args.says.now.items c.args.says.now.items (state.Idle c.args.object)
    (steps.handles_due l (object_of c.args.object ts) c.args.event a (Some method)))
    (sym c.in-None.is) (idle_says ts held)

pub returns-in_ok-state-in-Some : goal.returns-in_ok-state-in-Some
returns-in_ok-state-in-Some g c = λ method ts held.
    let l = life_in (script_in c.args.checked.now) c.args.class c.args.incarnation in
    subst (λ (a : Option (ℤ × ℕ)). Says g.T.Task.seen l c.args.says.now.items c.handles.new.says.items c.in_ok-state-in-Some.state
    (steps.handles_due l (object_of c.args.object ts) c.args.event a (Some method)))
    (sym c.in-Some.is) (c.in_ok-state-in-Some.ensures ts held)
