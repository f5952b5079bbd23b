use Rattle.std.proofs.Common.{refl, sym, subst}
use Rattle.timeline.specs.declared.entry.Body.{Body}
use Rattle.output_gate.specs.Entering.{TakesDown}
use Rattle.output_gate.proofs.Entered.{on_err, failed_down, took_mend, took_down}
use Rattle.output_gate.proofs.back.Back.take_down.Goals as goal

pub returns-in_err-copy-in-Message-clause-failed : goal.returns-in_err-copy-in-Message-clause-failed
returns-in_err-copy-in-Message-clause-failed g c =
    on_err c.from_residual.result _ (failed_down g.D.Disk.moment_of g.D.Disk.left_since g.D.Disk.told g.D.Disk.image g.D.Disk.faults_of c.args.self.now c.args.self.now refl refl)

pub returns-in_err-hold-in-Message-clause-failed : goal.returns-in_err-hold-in-Message-clause-failed
returns-in_err-hold-in-Message-clause-failed g c =
    on_err c.from_residual-in_err-hold-in-Message.result _ (failed_down g.D.Disk.moment_of g.D.Disk.left_since g.D.Disk.told g.D.Disk.image g.D.Disk.faults_of c.args.self.now c.hold.new.self c.in_err-hold-in-Message.ensures.kept c.hold.ensures.same)

pub returns-in-Mend-clause-took : goal.returns-in-Mend-clause-took
returns-in-Mend-clause-took g c =
    subst (λ (b : Body). TakesDown g.D.Disk.moment_of g.D.Disk.left_since g.D.Disk.told g.D.Disk.image g.D.Disk.faults_of c.args.self.now c.add.new.self c.args.number b) (sym c.in-Mend.is)
    (took_mend g.D.Disk.moment_of g.D.Disk.left_since g.D.Disk.told g.D.Disk.image g.D.Disk.faults_of c.args.self.now c.want.new.self c.add.new.self c.args.number c.requires.ending c.requires.down
    (c.want.ensures c.requires.ending c.requires.down) c.add.ensures.log c.add.ensures.same)

pub returns-in_ok-hold-in-Message-clause-took : goal.returns-in_ok-hold-in-Message-clause-took
returns-in_ok-hold-in-Message-clause-took g c =
    subst (λ (b : Body). TakesDown g.D.Disk.moment_of g.D.Disk.left_since g.D.Disk.told g.D.Disk.image g.D.Disk.faults_of c.args.self.now c.add-in-Message.new.self c.args.number b) (sym c.in-Message.is)
    (took_down g.D.Disk.moment_of g.D.Disk.left_since g.D.Disk.told g.D.Disk.image g.D.Disk.faults_of c.args.self.now c.hold.new.self c.add-in-Message.new.self c.args.number c.in-Message.message _ c.requires.ending c.requires.down
    c.in_ok-copy-in-Message.ensures c.in_ok-hold-in-Message.ensures.held c.hold.ensures.same c.add-in-Message.ensures.log c.add-in-Message.ensures.same)
