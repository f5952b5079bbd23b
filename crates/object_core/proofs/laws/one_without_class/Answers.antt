use Rattle.object_core.proofs.Classless.{has_done_nothing, is_unmoved, says_no_message}
use Rattle.object_core.proofs.laws.one_without_class.Goals as goal

pub returns : goal.returns
returns g c script origin tells one = record {
  unbound = has_done_nothing g.D.Disk.moment_of g.D.Disk.left_since g.D.Disk.told g.D.Disk.image g.D.Disk.faults_of c.args.core.now script origin one tells;
  asks = λ none. says_no_message g.D.Disk.moment_of g.D.Disk.left_since g.D.Disk.told g.D.Disk.image g.D.Disk.faults_of c.args.core.now script origin one tells;
  rests = λ none. is_unmoved g.D.Disk.moment_of g.D.Disk.left_since g.D.Disk.told g.D.Disk.image g.D.Disk.faults_of c.args.core.now script origin one tells none;
}
