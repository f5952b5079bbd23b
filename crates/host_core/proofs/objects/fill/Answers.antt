use Rattle.std.proofs.Common.{◌∙◌, [], ◌∷◌, ◌++◌, List, ap, length, arith}
use Rattle.std.proofs.lemmas.List.{replicate_more}
use Rattle.lane.specs.Lanes.{Both}
use Rattle.object_core.specs.One.{unused}
use Rattle.host_core.proofs.objects.fill.Goals as goal

pub loop-init : goal.loop-init
loop-init g c = record {
  items = c.requires.none;
  len = omega (arith, c.args.none.ok.0, ap length c.requires.none);
  room = omega (arith, c.requires.room);
}

pub push_queue-requires : goal.push_queue-requires
push_queue-requires g c = omega (arith, c.loop-test.true, c.loop.invariant.len, c.loop.invariant.room)

pub loop-preserved : goal.loop-preserved
loop-preserved g c =
    let i = c.loop.invariant in
    record {
      items = c.push_queue.ensures.items ∙ ap (λ (xs : List (Both g.row.T.Denot)). xs ++ unused ∷ []) i.items ∙ replicate_more c.loop.counter unused;
      len = omega (arith, c.push_queue.ensures.len, i.len);
      room = omega (arith, c.push_queue.ensures.room, i.room);
    }
