use Rattle.std.proofs.Common.{refl, subst, sym}
use Rattle.object_core.specs.Alone.{IsBackAlone}
use Rattle.output_gate.specs.Serving.{IsBack}
use Rattle.output_gate.specs.declared.back.Back.{Back}
use Rattle.host_workers.specs.Backs.{IsBackOver}
use Rattle.host_workers.proofs.Backing.{release_keeps}
use Rattle.host_workers.proofs.Alone.{release_alone}
use Rattle.host_workers.proofs.back_cell.BackCell.release.Goals as goal

pub release-requires : goal.release-requires
release-requires g c = let r = c.requires in (
  r.0,
  r.1,
  subst (λ (b : Back g.row.D.Denot). IsBack g.D.Disk.moment_of g.D.Disk.left_since g.D.Disk.told g.D.Disk.image g.D.Disk.faults_of r.0 r.1 b) (sym c.get_mut.ensures.value) r.2.stands,
)

pub returns-clause-cell : goal.returns-clause-cell
returns-clause-cell g c start opening one =
    let was = subst (λ (b : Back g.row.D.Denot). IsBackOver g.D.Disk.moment_of g.D.Disk.left_since g.D.Disk.told g.D.Disk.image g.D.Disk.faults_of start opening b
    c.args.self.now.line.got c.args.self.now.notices.sent c.args.self.now.out.sent) (sym c.get_mut.ensures.value) one in
    let e = c.release.ensures in
    release_keeps g.D.Disk.moment_of g.D.Disk.left_since g.D.Disk.told g.D.Disk.image g.D.Disk.faults_of start opening c.get_mut.result.now c.release.new.self
    c.args.self.now.line.got c.args.self.now.line.got c.args.self.now.notices.sent c.release.new.notices.sent c.args.self.now.out.sent c.release.new.out.sent was c.release.result
    (record { stopped = e.stopped; barred = e.barred; nothing = e.nothing; released = e.released; stays = e.stays; stops = e.stops; disk = e.disk; back = e.back; line = refl })

pub returns-clause-alone : goal.returns-clause-alone
returns-clause-alone g c start opening object limit alarm one =
    let was = subst (λ (b : Back g.row.D.Denot). IsBackAlone g.D.Disk.moment_of g.D.Disk.left_since g.D.Disk.told g.D.Disk.image g.D.Disk.faults_of start opening object limit alarm b
    c.args.self.now.line.got c.args.self.now.notices.sent c.args.self.now.out.sent) (sym c.get_mut.ensures.value) one in
    let e = c.release.ensures in
    release_alone g.D.Disk.moment_of g.D.Disk.left_since g.D.Disk.told g.D.Disk.image g.D.Disk.faults_of start opening object limit alarm c.get_mut.result.now c.release.new.self
    c.args.self.now.line.got c.args.self.now.line.got c.args.self.now.notices.sent c.release.new.notices.sent c.args.self.now.out.sent c.release.new.out.sent was c.release.result
    (record { stopped = e.stopped; barred = e.barred; nothing = e.nothing; released = e.released; stays = e.stays; stops = e.stops; disk = e.disk; back = e.back; line = refl })
