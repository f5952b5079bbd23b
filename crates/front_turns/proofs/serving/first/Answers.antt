use Rattle.std.proofs.Common.{◌∙◌, refl, arith}
use Rattle.std.proofs.lemmas.Int.{ints, to_z-of_z}
use mir.Syntax.{w64}
use Rattle.do_tree.specs.Checked.{tree_of as script_in}
use Rattle.front_turns.specs.Held.{life_in, object_of}
use Rattle.front_turns.proofs.Turning.{runs_first_as}
use Rattle.front_turns.proofs.serving.first.Goals as goal

pub returns : goal.returns
returns g c = λ incarnation ts.
    let moment = to_z-of_z w64 c.get-now.result (record { sfits = omega (arith, ints, c.get-now.ensures.in_range, c.get-now.ensures.value) }) in
    runs_first_as g.T.Task.seen (life_in (script_in c.args.checked.now) c.args.class incarnation) (object_of c.args.object.now ts) c.args.running.now c.args.method c.in_ok-outcome.outcome
    c.args.values.items c.args.values.items c.in_ok-fields.fields _ g.met.T.Task.stays c.requires.made
    refl c.in_ok-fields.ensures (moment ∙ c.get-now.ensures.value) c.in_ok-outcome.ensures.meaning c.in_ok-outcome.ensures.class
