use Rattle.std.proofs.Common.{◌∙◌, sym, subst}
use Rattle.std.specs.Prelude.{ℕ, Option}
use Rattle.do_tree.specs.Checked.{tree_of as script_in}
use Rattle.timeline.specs.Steps as steps
use Rattle.front_turns.specs.Held.{life_in, object_of, retry_of, Says}
use Rattle.front_turns.specs.declared.object.State.TheVariants as state
use Rattle.front_turns.proofs.Saying.{idle_says}
use Rattle.front_turns.proofs.Methods.{has_alarm}
use Rattle.front_turns.proofs.serving.begins_handler.Goals as goal

pub begins_due-requires-clause-method : goal.begins_due-requires-clause-method
begins_due-requires-clause-method g c = has_alarm (script_in c.args.checked.now) c.args.class c.in-Some.method c.requires.class (sym c.alarm.ensures ∙ c.in-Some.is)

pub returns-in-None : goal.returns-in-None
returns-in-None g c = λ ts held.
    let l = life_in (script_in c.args.checked.now) c.args.class c.args.incarnation in
    subst (λ (a : Option ℕ). Says g.T.Task.seen l c.args.says.now.items c.args.says.now.items (state.Idle c.args.object) (steps.begins_handler l (object_of c.args.object ts) a (retry_of c.args.object.handler)))
    (sym c.in-None.is ∙ c.alarm.ensures) (idle_says ts held)

pub returns-in_ok-state-in-Some : goal.returns-in_ok-state-in-Some
returns-in_ok-state-in-Some g c = λ ts held.
    let l = life_in (script_in c.args.checked.now) c.args.class c.args.incarnation in
    subst (λ (a : Option ℕ). Says g.T.Task.seen l c.args.says.now.items c.begins_due.new.says.items c.in_ok-state-in-Some.state (steps.begins_handler l (object_of c.args.object ts) a (retry_of c.args.object.handler)))
    (sym c.in-Some.is ∙ c.alarm.ensures) (c.in_ok-state-in-Some.ensures ts held)
