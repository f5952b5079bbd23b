use Rattle.std.proofs.Common.{◌∙◌, ap, subst, arith}
use Rattle.std.proofs.lemmas.Int.{ints, to_z-of_z}
use mir.Syntax.{w64}
use Rattle.std.specs.Prelude.{ℤ}
use Rattle.std.specs.Int.{int_max}
use Rattle.do_tree.specs.Checked.{tree_of as script_in}
use Rattle.timeline.specs.Object as seen
use Rattle.timeline.specs.Steps as steps
use Rattle.front_turns.specs.Held.{life_in, object_of, Says}
use Rattle.front_turns.proofs.delivering.deliver.Goals as goal

pub on_event-requires-clause-held : goal.on_event-requires-clause-held
on_event-requires-clause-held g c = (c.requires.held.0, c.clocked-object.ensures.holds _ c.requires.held.0 c.requires.held.1)

pub returns : goal.returns
returns g c = λ ts held.
    let l = life_in (script_in c.args.checked.now) c.args.class c.args.incarnation in
    let moment = to_z-of_z w64 c.moment_of.result (record { sfits = omega (arith, ints, c.requires.moment.positive, c.requires.moment.small, c.moment_of.ensures) }) in
    subst (λ (o : seen.Object). Says g.T.Task.seen l c.args.says.now.items c.on_event.new.says.items c.in_ok-state.state (steps.on_event l o c.args.event))
    (c.clocked-object.ensures.object ts ∙ ap (λ (z : ℤ). record (object_of c.args.object ts) { clock = int_max c.args.object.clock z }) (moment ∙ c.moment_of.ensures))
    (c.in_ok-state.ensures ts (c.clocked-object.ensures.holds l ts held))
