use Rattle.front_turns.specs.Held.{object_of}
use Rattle.front_turns.proofs.Turning.{threw_says}
use Rattle.front_turns.proofs.turns.after_throw.Goals as goal

pub returns : goal.returns
returns g c = λ l ts t again held running.
    threw_says g.T.Task.seen l _ _ _ _ again (object_of c.args.object ts) (object_of c.wrote-object.result ts) t _ c.args.batches.items c.args.fields _
    (c.wrote-object.ensures.object ts) running.purpose c.in_ok-say_batches.ensures (c.in_ok-state.ensures l ts (c.wrote-object.ensures.holds l ts held))
