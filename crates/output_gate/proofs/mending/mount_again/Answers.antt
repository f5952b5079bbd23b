use Rattle.output_gate.proofs.Mends.{found_with}
use Rattle.output_gate.proofs.mending.mount_again.Goals as goal

pub returns-in-Ok-clause-found : goal.returns-in-Ok-clause-found
returns-in-Ok-clause-found g c =
    found_with g.D.Disk.moment_of g.D.Disk.left_since g.D.Disk.told g.D.Disk.image c.args.disk c.in-Ok.mounted c.with_cache.result c.with_cache.ensures
    (c.in-Ok.ensures.mounted, c.in-Ok.ensures.nothing_staged, c.in-Ok.ensures.any_moment, c.in-Ok.ensures.telling)
