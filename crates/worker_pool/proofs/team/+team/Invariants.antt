use Prim.Native.Nat.{◌+◌, ◌*◌}
use Rattle.worker_pool.proofs.team.+team.Given as goal

abbrev pub decreases-work_together : goal.decreases-work_together
decreases-work_together g l = 2 * l.count

abbrev pub decreases-one : goal.decreases-one
decreases-one g l = 2 * l.half + 1

abbrev pub decreases-other : goal.decreases-other
decreases-other g l = 2 * l.rest + 1
