use Rattle.std.proofs.Common.{◌∙◌, arith}
use Rattle.std.proofs.lemmas.Int.{ints, to_z-of_z}
use mir.Syntax.{w64}
use Rattle.front_turns.specs.Held.{life_in, object_of}
use Rattle.do_tree.specs.Checked.{tree_of as script_in}
use Rattle.front_turns.proofs.Turning.{runs_on_as}
use Rattle.front_turns.proofs.turns.go_on.Goals as goal

pub returns : goal.returns
returns g c = λ class incarnation ts t running paused.
    let moment = to_z-of_z w64 c.get-now.result (record { sfits = omega (arith, ints, c.get-now.ensures.in_range, c.get-now.ensures.value) }) in
    runs_on_as g.T.Task.seen (life_in (script_in c.args.checked.now) class incarnation) (object_of c.args.object.now ts) t c.args.answer c.args.task c.in_ok-outcome.outcome running
    c.in_ok-fields.fields _ g.met.T.Task.stays paused c.in_ok-fields.ensures (moment ∙ c.get-now.ensures.value) c.in_ok-outcome.ensures.rest c.in_ok-outcome.ensures.class
