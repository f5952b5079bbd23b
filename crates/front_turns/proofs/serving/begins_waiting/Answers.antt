use Rattle.std.proofs.Common.{◌∙◌, sym, subst}
use Rattle.std.specs.Prelude.{Option, true}
use Rattle.do_tree.specs.Checked.{tree_of as script_in}
use Rattle.timeline.specs.Steps as steps
use Rattle.front_turns.specs.Held.{life_in, object_of, Says}
use Rattle.front_turns.specs.declared.object.State.TheVariants as state
use Rattle.front_turns.proofs.Saying.{rests_says}
use Rattle.std.proofs.Common.{refl}
use Rattle.timeline.specs.Object as seen
use Rattle.timeline.specs.declared.event.Event.{Event}
use Rattle.front_turns.proofs.Stating.{parked_of, nothing_parked}
use Rattle.front_turns.proofs.serving.begins_waiting.Goals as goal

pub begins-requires-clause-method : goal.begins-requires-clause-method
begins-requires-clause-method g c =
    parked_of (life_in (script_in c.args.checked.now) c.args.class c.args.incarnation) c.args.object.parked c.in-Some.event (sym c.take_parked-object.ensures.parked ∙ c.in-Some.is) c.requires.held.1.parked

pub begins-requires-clause-held : goal.begins-requires-clause-held
begins-requires-clause-held g c = (c.requires.held.0, c.take_parked-object.ensures.holds _ c.requires.held.0 c.requires.held.1)

pub returns-in-None : goal.returns-in-None
returns-in-None g c = λ ts held.
    let l = life_in (script_in c.args.checked.now) c.args.class c.args.incarnation in
    let none = sym (sym c.take_parked-object.ensures.parked ∙ c.in-None.is) in
    subst (λ (p : Option Event). Says g.T.Task.seen l c.args.says.now.items c.args.says.now.items (state.Idle c.take_parked-object.result.0) (steps.begins_parked l (object_of c.args.object ts) true p))
    none (rests_says {o = c.take_parked-object.result.0} ts (object_of c.args.object ts) (c.take_parked-object.ensures.holds l ts held) (nothing_parked _ _ (c.take_parked-object.ensures.object ts) none) refl)

pub returns-in_ok-state-in-Some : goal.returns-in_ok-state-in-Some
returns-in_ok-state-in-Some g c = λ ts held.
    let l = life_in (script_in c.args.checked.now) c.args.class c.args.incarnation in
    let some = sym (sym c.take_parked-object.ensures.parked ∙ c.in-Some.is) in
    subst (λ (p : Option Event). Says g.T.Task.seen l c.args.says.now.items c.begins.new.says.items c.in_ok-state-in-Some.state (steps.begins_parked l (object_of c.args.object ts) true p))
    some (subst (λ (o : seen.Object). Says g.T.Task.seen l c.args.says.now.items c.begins.new.says.items c.in_ok-state-in-Some.state (steps.begins l o c.in-Some.event))
    (c.take_parked-object.ensures.object ts) (c.in_ok-state-in-Some.ensures ts (c.take_parked-object.ensures.holds l ts held)))
