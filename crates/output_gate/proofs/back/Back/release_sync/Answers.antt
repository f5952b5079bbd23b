use Rattle.std.proofs.Common.{◌∙◌, ◌∷◌, ap, sym, refl}
use Rattle.output_gate.proofs.Entered.{on_err}
use Rattle.output_gate.proofs.Gone.{stays_put, sync_goes}
use Rattle.output_gate.proofs.Logged.{no_change}
use Rattle.output_gate.proofs.back.Back.release_sync.Goals as goal

pub returns-in_err-send-clause-stays : goal.returns-in_err-send-clause-stays
returns-in_err-send-clause-stays g c =
    on_err c.from_residual.result _ (λ out. stays_put g.D.Disk.moment_of g.D.Disk.left_since g.D.Disk.told g.D.Disk.image g.D.Disk.faults_of g.met.D.Disk.only_now g.met.D.Disk.reads_an_image c.args.self.now c.args.self.now.log _ _ out out (no_change c.args.self.now.log) c.in_err-send.ensures.same refl)

pub returns-clause-went : goal.returns-clause-went
returns-clause-went g c out =
    let r = c.requires in
    sync_goes g.D.Disk.moment_of g.D.Disk.left_since g.D.Disk.told g.D.Disk.image g.D.Disk.faults_of g.met.D.Disk.only_now g.met.D.Disk.reads_an_image c.args.self.now c.drop_first.new.held r.first c.args.number (r.held ∙ ap (λ rest. r.first ∷ rest) (sym (c.drop_first.ensures r.first r.rest r.held))) r.body r.ready _ _ out c.in_ok-send.ensures.sent
