use Rattle.object_core.proofs.Quiet.{leaves}
use Rattle.object_core.proofs.laws.one_leaves.Goals as goal

pub returns : goal.returns
returns g c script origin tells one class is has goes idle =
    leaves g.D.Disk.moment_of g.D.Disk.left_since g.D.Disk.told g.D.Disk.image g.D.Disk.faults_of c.args.core.now script origin one tells class is has goes.front goes.back idle
    c.halves_are_whole.ensures goes.fits
