use Rattle.std.proofs.Common.{refl, ap, sym, ◌∙◌}
use Rattle.std.specs.Prelude.{true}
use Rattle.output_gate.specs.Entering.{notice_as}
use Rattle.output_gate.specs.declared.fit.Fit.{Fit}
use Rattle.output_gate.proofs.Stored.{reads_of, still_disk}
use Rattle.output_gate.proofs.Enter.{entered_unread, unfit_enters}
use Rattle.output_gate.proofs.Gone.{back_stuck}
use Rattle.output_gate.proofs.back.Back.take_entry.Goals as goal

pub returns-in-Unfit-clause-back : goal.returns-in-Unfit-clause-back
returns-in-Unfit-clause-back g c start opening b = back_stuck g.D.Disk.moment_of g.D.Disk.left_since g.D.Disk.told g.D.Disk.image g.D.Disk.faults_of start opening c.args.self.now b

pub returns-in-Unfit-clause-took : goal.returns-in-Unfit-clause-took
returns-in-Unfit-clause-took g c =
    let is = sym c.fit_of.ensures ∙ c.in-Unfit.is in
    entered_unread g.D.Disk.told g.D.Disk.image c.args.self.now (record c.args.self.now { stuck = true }) c.args.entry (unfit_enters c.args.self.now c.args.entry is)
    (λ m. ap (λ (x : Fit). notice_as x c.args.entry m) is)

pub returns-in-Unfit-clause-disk : goal.returns-in-Unfit-clause-disk
returns-in-Unfit-clause-disk g c = let same = c.args.self.now.store in reads_of g.D.Disk.told same same (still_disk same same refl)
