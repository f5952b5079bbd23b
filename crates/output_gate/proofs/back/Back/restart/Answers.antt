use Rattle.std.proofs.Common.{◌∙◌, ◌∷◌, ◌++◌, [], ap, sym, refl, ◌+◌}
use Rattle.timeline.specs.declared.notice.Notice.TheVariants as notice
use Rattle.output_gate.proofs.Entered.{on_err}
use Rattle.output_gate.proofs.Gone.{stays_put, halt_goes}
use Rattle.output_gate.proofs.back.Back.restart.Goals as goal

pub returns-in_err-halt_room-clause-stays : goal.returns-in_err-halt_room-clause-stays
returns-in_err-halt_room-clause-stays g c =
    on_err c.from_residual.result _ (λ out. stays_put g.D.Disk.moment_of g.D.Disk.left_since g.D.Disk.told g.D.Disk.image g.D.Disk.faults_of g.met.D.Disk.only_now g.met.D.Disk.reads_an_image c.args.self.now c.halt_room.new.log _ _ out out c.halt_room.ensures.same refl refl)

pub returns-in_err-send-clause-stays : goal.returns-in_err-send-clause-stays
returns-in_err-send-clause-stays g c =
    on_err c.from_residual-in_err-send.result _ (λ out. stays_put g.D.Disk.moment_of g.D.Disk.left_since g.D.Disk.told g.D.Disk.image g.D.Disk.faults_of g.met.D.Disk.only_now g.met.D.Disk.reads_an_image c.args.self.now c.halt_room.new.log _ _ out out c.halt_room.ensures.same c.in_err-send.ensures.same refl)

pub returns-clause-went : goal.returns-clause-went
returns-clause-went g c out =
    let r = c.requires in
    halt_goes g.D.Disk.moment_of g.D.Disk.left_since g.D.Disk.told g.D.Disk.image g.D.Disk.faults_of g.met.D.Disk.only_now g.met.D.Disk.reads_an_image c.args.self.now c.halt_room.new.log c.log_halt.new.log c.drop_first.new.held r.first c.args.cause c.halt_room.ensures.same
    (r.held ∙ ap (λ rest. r.first ∷ rest) (sym (c.drop_first.ensures r.first r.rest r.held))) r.body r.ready c.log_halt.ensures _ _ out
    (c.in_ok-send.ensures.sent ∙ ap (λ (alarm : _). g.N.Outlet.sent c.args.notices.now ++ notice.Fresh (c.args.self.now.number + 1) alarm c.args.cause ∷ []) c.alarm-alarm.ensures)
