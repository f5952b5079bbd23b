use Rattle.std.proofs.Common.{◌≡◌}
use Rattle.host_workers.proofs.shared.Shared.next.Given as goal

abbrev pub invariant-loop : goal.invariant-loop
invariant-loop g l =
    (goal.iterator-loop g).can_next l.iterator' × (l.share.parts ≡ l.fn.share.parts) × (l.share.amount ≡ 0) × (goal.iterator-loop g).is_finite l.iterator'
