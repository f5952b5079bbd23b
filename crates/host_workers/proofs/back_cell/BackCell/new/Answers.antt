use Rattle.host_workers.proofs.Opening.{begins_back}
use Rattle.host_workers.proofs.Alone.{begins_alone}
use Rattle.host_workers.proofs.back_cell.BackCell.new.Goals as goal

pub returns-clause-cell : goal.returns-clause-cell
returns-clause-cell g c start opening known =
    let r = c.requires in
    begins_back g.D.Disk.moment_of g.D.Disk.left_since g.D.Disk.told g.D.Disk.image g.D.Disk.faults_of start opening c.args.back r.fresh known
    c.args.line.got c.args.notices.sent c.args.out.sent r.unused.0 r.unused.1 r.unused.2

pub returns-clause-alone : goal.returns-clause-alone
returns-clause-alone g c start opening known has =
    let r = c.requires in
    begins_alone g.D.Disk.moment_of g.D.Disk.left_since g.D.Disk.told g.D.Disk.image g.D.Disk.faults_of start opening c.args.back r.fresh known has
    c.args.line.got c.args.notices.sent c.args.out.sent r.unused.0 r.unused.1 r.unused.2
