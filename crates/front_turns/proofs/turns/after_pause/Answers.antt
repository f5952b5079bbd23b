use Rattle.front_turns.specs.Held.{object_of}
use Rattle.front_turns.proofs.Turning.{asked_goes}
use Rattle.front_turns.proofs.turns.after_pause.Goals as goal

pub returns : goal.returns
returns g c = λ l ts t again same held paused asked.
    asked_goes g.T.Task.seen l _ _ _ again (object_of c.args.object ts) (object_of c.wrote-object.result ts) t c.args.batches.items c.args.fields c.args.ask _
    (c.wrote-object.ensures.object ts) (c.in_ok-went.ensures l ts (record t { block = (g.T.Task.seen c.args.task).block }) again same (c.wrote-object.ensures.holds l ts held) paused
    (record { batches = asked.batches; fields = asked.fields; block = asked.block; turn = asked.turn }))
