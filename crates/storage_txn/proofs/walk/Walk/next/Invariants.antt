use Rattle.std.proofs.Common.{◌≡◌}
use Rattle.storage_txn.specs.Walked.{IsWalk, left_of, most_left}
use Rattle.storage_txn.proofs.walk.Walk.next.Given as goal

-- the keys that were passed had no pair to be lent
abbrev pub invariant-loop-key : goal.invariant-loop-key
invariant-loop-key l = record {
  same : left_of l.self ≡ left_of l.fn.self;
  walk : IsWalk l.self;
}

abbrev pub decreases-loop-key : goal.decreases-loop-key
decreases-loop-key l = most_left l.self
