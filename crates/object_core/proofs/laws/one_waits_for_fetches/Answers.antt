use Rattle.object_core.proofs.Fetches.{waits_for_fetches}
use Rattle.object_core.proofs.laws.one_waits_for_fetches.Goals as goal

pub returns : goal.returns
returns g c script origin tells one has goes idle none fit =
    waits_for_fetches g.D.Disk.moment_of g.D.Disk.left_since g.D.Disk.told g.D.Disk.image g.D.Disk.faults_of c.args.core.now script origin one c.halves_are_whole.ensures tells has goes
    idle none fit
