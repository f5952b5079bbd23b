use Rattle.host_workers.proofs.RanApart.{cells_apart}
use Rattle.host_workers.proofs.apart.cells_are_apart.Goals as goal

pub returns : goal.returns
returns g c origin alarm inbox line notices out are =
    cells_apart g.D.Disk.moment_of g.D.Disk.left_since g.D.Disk.told g.D.Disk.image g.D.Disk.faults_of origin alarm c.args.front.now c.args.back.now inbox line notices out are
