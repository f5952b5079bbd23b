use Rattle.object_core.proofs.Telling.{is_history}
use Rattle.object_core.proofs.laws.one_is_history.Goals as goal

pub returns : goal.returns
returns g c script origin tells one class is =
    is_history g.D.Disk.moment_of g.D.Disk.left_since g.D.Disk.told g.D.Disk.image g.D.Disk.faults_of c.args.core.now script origin one c.halves_are_said.ensures tells class is
