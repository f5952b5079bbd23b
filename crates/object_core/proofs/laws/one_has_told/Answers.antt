use Rattle.object_core.proofs.Telling.{has_told}
use Rattle.object_core.proofs.laws.one_has_told.Goals as goal

pub returns : goal.returns
returns g c script origin disk at tells one =
    has_told g.D.Disk.moment_of g.D.Disk.left_since g.D.Disk.told g.D.Disk.image g.D.Disk.faults_of c.args.core.now script origin one disk at tells
