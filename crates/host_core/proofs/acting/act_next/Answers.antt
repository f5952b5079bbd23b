use Rattle.do_tree.specs.Checked.{tree_of}
use Rattle.host_core.proofs.Tells.{told_by}
use Rattle.host_core.proofs.acting.act_next.Goals as goal

pub returns-in-Ok-false-clause-tells : goal.returns-in-Ok-false-clause-tells
returns-in-Ok-false-clause-tells g c =
    told_by g.D.Disk.moment_of g.D.Disk.left_since g.D.Disk.told g.D.Disk.image g.D.Disk.faults_of (tree_of c.args.checked.now) c.args.core.now c.step.new.self
    c.requires.can c.step.ensures.tells
