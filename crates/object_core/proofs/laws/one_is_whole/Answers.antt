use Rattle.object_core.proofs.Telling.{is_whole}
use Rattle.object_core.proofs.laws.one_is_whole.Goals as goal

pub returns : goal.returns
returns g c script origin tells one class is on below at =
    is_whole g.D.Disk.moment_of g.D.Disk.left_since g.D.Disk.told g.D.Disk.image g.D.Disk.faults_of c.args.core.now script origin one c.halves_are_whole.ensures tells class is on below at
