use Rattle.std.proofs.Common.{◌≡◌}
use Rattle.std.specs.List.{All}
use Rattle.host_tests.proofs.given.disks_for.Given as goal

-- each disk is before its first call
abbrev pub invariant-loop-slot : goal.invariant-loop-slot
invariant-loop-slot l = All (λ disk. disk.moment ≡ 0) l.disks.items
