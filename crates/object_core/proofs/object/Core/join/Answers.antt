use Rattle.object_core.proofs.Alone.{are_one}
use Rattle.object_core.proofs.object.Core.join.Goals as goal

pub returns-clause-apart : goal.returns-clause-apart
returns-clause-apart g c script origin are =
    are_one g.D.Disk.moment_of g.D.Disk.left_since g.D.Disk.told g.D.Disk.image g.D.Disk.faults_of c.halves_meet.ensures script origin _ _ _ _ _ _ are
