use Rattle.object_core.proofs.Alike.{class_for}
use Rattle.object_core.proofs.Quiet.{has_let_go}
use Rattle.object_core.proofs.laws.one_has_let_go.Goals as goal

pub returns : goal.returns
returns g c script origin tells one has front_goes back_goes idle none =
    let known = class_for one.st.class in
    has_let_go g.D.Disk.moment_of g.D.Disk.left_since g.D.Disk.told g.D.Disk.image g.D.Disk.faults_of c.args.core.now script origin one tells known.0 known.1 has front_goes back_goes idle
    none
