use Rattle.std.proofs.Common.{◌≡◌, ◌∙◌, ap, sym, refl, true, arith}
use Rattle.output_gate.specs.declared.held.Held.{Held}
use Rattle.output_gate.proofs.Stored.{head_same}
use Rattle.output_gate.proofs.Entered.{on_err}
use Rattle.output_gate.proofs.Gone.{stays_put, message_goes}
use Rattle.output_gate.proofs.Steps.{has_disk}
use Rattle.output_gate.proofs.back.Back.release_message.Goals as goal

pub moment-moment-requires : goal.moment-moment-requires
moment-moment-requires g c =
    let r = c.requires in
    has_disk g.D.Disk.moment_of g.D.Disk.left_since g.D.Disk.told g.D.Disk.image g.D.Disk.faults_of r.start r.opening true c.args.self.now r.back

pub take_first-held-requires : goal.take_first-held-requires
take_first-held-requires g c = (c.requires.first, c.requires.rest, c.requires.held)

pub returns-in_err-release_room-clause-stays : goal.returns-in_err-release_room-clause-stays
returns-in_err-release_room-clause-stays g c =
    on_err c.from_residual.result _ (λ sent. stays_put g.D.Disk.moment_of g.D.Disk.left_since g.D.Disk.told g.D.Disk.image g.D.Disk.faults_of g.met.D.Disk.only_now g.met.D.Disk.reads_an_image c.args.self.now c.release_room.new.log sent sent _ _ c.release_room.ensures.same refl refl)

pub returns-in_err-send-clause-stays : goal.returns-in_err-send-clause-stays
returns-in_err-send-clause-stays g c =
    on_err c.from_residual-in_err-send.result _ (λ sent. stays_put g.D.Disk.moment_of g.D.Disk.left_since g.D.Disk.told g.D.Disk.image g.D.Disk.faults_of g.met.D.Disk.only_now g.met.D.Disk.reads_an_image c.args.self.now c.release_room.new.log sent sent _ _ c.release_room.ensures.same refl c.in_err-send.ensures.same)

pub returns-clause-went : goal.returns-clause-went
returns-clause-went g c sent =
    let r = c.requires in
    let h = c.take_first-held.result in
    let same : h ≡ r.first = head_same h r.first c.take_first-held.new.held.items r.rest (sym c.take_first-held.ensures ∙ r.held) in
    let body = ap (λ (x : Held). x.body) same ∙ r.body in
    message_goes g.D.Disk.moment_of g.D.Disk.left_since g.D.Disk.told g.D.Disk.image g.D.Disk.faults_of g.met.D.Disk.only_now g.met.D.Disk.reads_an_image c.args.self.now c.release_room.new.log c.log_release.new.log c.take_first-held.new.held h c.args.copy c.moment-moment.result
    c.release_room.ensures.same c.take_first-held.ensures body (omega (arith, r.ready, ap (λ (x : Held). x.needs) same)) c.moment-moment.ensures (c.log_release.ensures c.args.copy body) sent _ _ c.in_ok-send.ensures.sent
