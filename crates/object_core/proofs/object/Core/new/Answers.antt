use Rattle.object_core.proofs.Beginning.{begins_over}
use Rattle.object_core.proofs.Rebuilding.{same_queue}
use Rattle.object_core.specs.One.{unused}
use Rattle.object_core.proofs.object.Core.new.Goals as goal

pub returns-clause-one : goal.returns-clause-one
returns-clause-one g c script start opening known are =
    begins_over g.D.Disk.moment_of g.D.Disk.left_since g.D.Disk.told g.D.Disk.image g.D.Disk.faults_of c.front_begins.ensures c.events_come.ensures script start opening c.args.front.half c.args.back known are
    c.new.result c.new-2.result c.new-3.result c.new-4.result
    (same_queue unused c.new.result c.new.ensures.got c.new.ensures.waiting) (same_queue unused c.new-2.result c.new-2.ensures.got c.new-2.ensures.waiting)
    (same_queue unused c.new-3.result c.new-3.ensures.got c.new-3.ensures.waiting) (same_queue unused c.new-4.result c.new-4.ensures.got c.new-4.ensures.waiting)
