use Rattle.object_core.proofs.Collects.{still_sent, collect_keeps}
use Rattle.object_core.proofs.object.Core.collect.Goals as goal

pub returns-clause-one : goal.returns-clause-one
returns-clause-one g c script origin one =
    collect_keeps g.D.Disk.moment_of g.D.Disk.left_since g.D.Disk.told g.D.Disk.image g.D.Disk.faults_of script origin c.args.self.now.front.half c.args.self.now.inbox c.args.self.now.back c.args.self.now.line c.args.self.now.notices c.args.self.now.out c.take.new.self
    (still_sent c.args.self.now.out c.take.new.self c.take.result c.take.ensures.none c.take.ensures.some) one
