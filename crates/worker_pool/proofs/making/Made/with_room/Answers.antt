use Rattle.std.proofs.Common.{arith}
use Rattle.worker_pool.proofs.making.Made.with_room.Goals as goal

pub returns-clause-empty : goal.returns-clause-empty
returns-clause-empty g c = record {
  fronts = c.in_ok-fronts.ensures.none.0;
  backs = c.in_ok-backs.ensures.none.0;
  outs = c.in_ok-outs.ensures.none.0;
  inboxes = c.in_ok-inboxes.ensures.none.0;
}

pub returns-clause-room : goal.returns-clause-room
returns-clause-room g c = record {
  fronts = omega (arith, c.in_ok-fronts.ensures.none.1, c.in_ok-fronts.ensures.room);
  backs = omega (arith, c.in_ok-backs.ensures.none.1, c.in_ok-backs.ensures.room);
  outs = omega (arith, c.in_ok-outs.ensures.none.1, c.in_ok-outs.ensures.room);
  inboxes = omega (arith, c.in_ok-inboxes.ensures.none.1, c.in_ok-inboxes.ensures.room);
}
