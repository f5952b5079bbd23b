use Rattle.object_core.proofs.Unended.{tells_no_end}
use Rattle.object_core.proofs.laws.one_tells_no_end.Goals as goal

pub returns : goal.returns
returns g c script origin tells one =
    tells_no_end g.D.Disk.moment_of g.D.Disk.left_since g.D.Disk.told g.D.Disk.image g.D.Disk.faults_of c.args.core.now script origin one c.ends_are_needed.ensures
    c.unended_pass_as_taken.ensures c.halves_are_said.ensures tells
