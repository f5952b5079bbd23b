use Rattle.object_core.proofs.Beginning.{begins_one}
use Rattle.object_core.proofs.laws.fresh_are_one.Goals as goal

pub returns : goal.returns
returns g c script start opening front back known are =
    begins_one g.D.Disk.moment_of g.D.Disk.left_since g.D.Disk.told g.D.Disk.image g.D.Disk.faults_of c.front_begins.ensures c.events_come.ensures script start opening front back known are
