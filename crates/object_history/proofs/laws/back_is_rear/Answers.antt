use Rattle.object_history.proofs.BeingRear.{is_rear}
use Rattle.object_history.proofs.laws.back_is_rear.Goals as goal

pub returns : goal.returns
returns g c = λ start opening m known due.
    is_rear g.D.Disk.moment_of g.D.Disk.left_since g.D.Disk.told g.D.Disk.image g.D.Disk.faults_of start opening c.args.back.now m known due
