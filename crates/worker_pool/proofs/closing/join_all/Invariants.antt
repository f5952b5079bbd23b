use Rattle.std.specs.Prelude.{◌≤◌, List, length}
use Rattle.std.specs.Vec.{vec_capacity}
use Rattle.std.specs.Vec.Iter.{into_iter_items}
use Rattle.worker_pool.specs.Joined.{AreOf, Slot}
use Rattle.worker_pool.proofs.Slots.{IsSoFar}
use Rattle.worker_pool.proofs.closing.join_all.Given as goal

-- the slots so far are joined, the cells of the others are left, and there is room for them
abbrev pub invariant-loop-front : goal.invariant-loop-front
invariant-loop-front g l = record {
  so_far : (slots : List (Slot g.row.D.Denot g.row.T.Denot)) → AreOf slots l.fn.fronts.items l.fn.backs.items l.fn.outs.items l.fn.inboxes.items
      → IsSoFar g.D.Disk.moment_of g.D.Disk.left_since g.D.Disk.told g.D.Disk.image g.D.Disk.faults_of slots (into_iter_items l.front-iterator)
      (into_iter_items l.backs) (into_iter_items l.outs) (into_iter_items l.inboxes) l.room;
  cores : length l.fn.fronts.items ≤ vec_capacity l.room.cores;
  apart : length l.fn.fronts.items ≤ vec_capacity l.room.apart;
}
