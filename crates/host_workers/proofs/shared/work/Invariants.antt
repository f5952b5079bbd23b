use Rattle.std.proofs.Common.{◌≡◌}
use Rattle.std.specs.Prelude.{IfSome, MatchOption}
use Rattle.host_workers.specs.Board.{IsHeld, held_count}
use Rattle.host_workers.proofs.shared.work.Given as goal

abbrev pub invariant-loop : goal.invariant-loop
invariant-loop g l =
    (goal.iterator-loop g).can_next l.iterator' × (l.share.parts ≡ l.fn.share.parts)
    × IfSome l.done (λ put. IsHeld g.L.Names.names g.D.Disk.moment_of g.D.Disk.left_since g.D.Disk.told g.D.Disk.image g.D.Disk.faults_of g.R.Source.left g.R.Source.faults_of g.W.Sink.taken g.W.Sink.faults_of put.0)
    × MatchOption l.done (l.share.amount ≡ 0) (λ put. l.share.amount ≡ held_count put.0)
    × (goal.iterator-loop g).is_finite l.iterator'
