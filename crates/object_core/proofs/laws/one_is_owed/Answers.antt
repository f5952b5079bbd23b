use Rattle.object_core.proofs.Owing.{is_owed}
use Rattle.object_core.proofs.laws.one_is_owed.Goals as goal

pub returns : goal.returns
returns g c script origin tells one =
    is_owed g.D.Disk.moment_of g.D.Disk.left_since g.D.Disk.told g.D.Disk.image g.D.Disk.faults_of c.args.core.now script origin one c.replies_are_owed.ensures c.passed_is_taken.ensures
    c.halves_are_said.ensures tells
