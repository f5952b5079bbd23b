use Rattle.std.proofs.Common.{refl, subst, sym}
use Rattle.object_core.specs.Alone.{IsBackAlone}
use Rattle.output_gate.specs.Serving.{IsBack}
use Rattle.output_gate.specs.declared.back.Back.{Back}
use Rattle.host_workers.specs.Backs.{IsBackOver}
use Rattle.host_workers.proofs.Backing.{take_keeps}
use Rattle.host_workers.proofs.Alone.{take_alone}
use Rattle.host_workers.proofs.back_cell.BackCell.take.Goals as goal

pub take-requires : goal.take-requires
take-requires g c = let r = c.requires in (
  r.0,
  r.1,
  subst (λ (b : Back g.row.D.Denot). IsBack g.D.Disk.moment_of g.D.Disk.left_since g.D.Disk.told g.D.Disk.image g.D.Disk.faults_of r.0 r.1 b) (sym c.get_mut.ensures.value) r.2.stands,
)

pub returns-clause-cell : goal.returns-clause-cell
returns-clause-cell g c start opening one =
    let was = subst (λ (b : Back g.row.D.Denot). IsBackOver g.D.Disk.moment_of g.D.Disk.left_since g.D.Disk.told g.D.Disk.image g.D.Disk.faults_of start opening b
    c.args.self.now.line.got c.args.self.now.notices.sent c.args.self.now.out.sent) (sym c.get_mut.ensures.value) one in
    let e = c.take.ensures in
    take_keeps g.D.Disk.moment_of g.D.Disk.left_since g.D.Disk.told g.D.Disk.image g.D.Disk.faults_of start opening c.get_mut.result.now c.take.new.self
    c.args.self.now.line.got c.take.new.line.got c.args.self.now.notices.sent c.take.new.notices.sent c.args.self.now.out.sent c.args.self.now.out.sent was c.take.result
    (record { stopped = e.stopped; barred = e.barred; nothing = e.nothing; took = e.took; lost = e.lost; stops = e.stops; disk = e.disk; back = e.back; same_out = refl })

pub returns-clause-alone : goal.returns-clause-alone
returns-clause-alone g c start opening object limit alarm one =
    let was = subst (λ (b : Back g.row.D.Denot). IsBackAlone g.D.Disk.moment_of g.D.Disk.left_since g.D.Disk.told g.D.Disk.image g.D.Disk.faults_of start opening object limit alarm b
    c.args.self.now.line.got c.args.self.now.notices.sent c.args.self.now.out.sent) (sym c.get_mut.ensures.value) one in
    let e = c.take.ensures in
    take_alone g.D.Disk.moment_of g.D.Disk.left_since g.D.Disk.told g.D.Disk.image g.D.Disk.faults_of start opening object limit alarm c.get_mut.result.now c.take.new.self
    c.args.self.now.line.got c.take.new.line.got c.args.self.now.notices.sent c.take.new.notices.sent c.args.self.now.out.sent c.args.self.now.out.sent was c.take.result
    (record { stopped = e.stopped; barred = e.barred; nothing = e.nothing; took = e.took; lost = e.lost; stops = e.stops; disk = e.disk; back = e.back; same_out = refl })
