use Rattle.worker_pool.proofs.running.prepare.Goals as goal

pub returns : goal.returns
returns g c = record {
  lines = (c.in_ok-send.ensures.lane, c.in_ok-send.ensures.sent, c.in_ok-send.ensures.got.0);
  ends = (c.in_ok-ends.ensures.many, c.in_ok-ends.ensures.new);
  made = (c.in_ok-made.ensures.empty, c.in_ok-made.ensures.room);
  cores = (c.in_ok-cores.ensures.none.0, c.in_ok-cores.ensures.room);
  apart = (c.in_ok-apart.ensures.none.0, c.in_ok-apart.ensures.room);
}
