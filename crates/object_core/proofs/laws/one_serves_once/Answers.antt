use Rattle.object_core.proofs.Once.{one_serves}
use Rattle.object_core.proofs.laws.one_serves_once.Goals as goal

pub returns : goal.returns
returns g c script origin tells one has goes nothing none_left none_dropped =
    one_serves g.D.Disk.moment_of g.D.Disk.left_since g.D.Disk.told g.D.Disk.image g.D.Disk.faults_of c.args.core.now script origin one c.halves_are_whole.ensures tells has goes nothing
    none_left none_dropped
