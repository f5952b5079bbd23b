use Rattle.object_core.proofs.Owing.{is_owed}
use Rattle.object_core.proofs.Unmoved.{says_nothing}
use Rattle.object_core.proofs.laws.all_are_owed.Goals as goal

pub returns-clause-owed : goal.returns-clause-owed
returns-clause-owed g c core script origin tells one =
    is_owed g.D.Disk.moment_of g.D.Disk.left_since g.D.Disk.told g.D.Disk.image g.D.Disk.faults_of core script origin one c.replies_are_owed.ensures c.passed_is_taken.ensures
    c.halves_are_said.ensures tells

pub returns-clause-nothing : goal.returns-clause-nothing
returns-clause-nothing g c core script origin tells one none =
    says_nothing g.D.Disk.moment_of g.D.Disk.left_since g.D.Disk.told g.D.Disk.image g.D.Disk.faults_of core script origin one c.unmoved_says_nothing.ensures tells none
