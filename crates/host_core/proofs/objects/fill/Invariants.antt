use Rattle.std.specs.Prelude.{◌≡◌, ◌≤◌, replicate, vec_len}
use Rattle.std.specs.Vec.{vec_capacity}
use Rattle.object_core.specs.One.{unused}
use Rattle.host_core.proofs.objects.fill.Given as goal

-- so many queues are there, with room for all
abbrev pub invariant-loop : goal.invariant-loop
invariant-loop g l = record {
  items : l.queues.items ≡ replicate l.counter unused;
  len : vec_len l.queues ≡ l.counter;
  room : l.count ≤ vec_capacity l.queues;
}
