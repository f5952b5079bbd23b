use Rattle.std.proofs.Common.{refl}
use Rattle.timeline.specs.declared.entry.Body.TheVariants as body
use Rattle.output_gate.specs.declared.held.HeldBody.TheVariants as held_body
use Rattle.output_gate.proofs.Entered.{on_err, failed_hold, took_silent}
use Rattle.output_gate.proofs.Reading.{halting_unread, halting_well}
use Rattle.output_gate.proofs.back.Back.take_halt.Goals as goal

pub returns-in_err-hold-clause-failed : goal.returns-in_err-hold-clause-failed
returns-in_err-hold-clause-failed g c =
    on_err c.from_residual.result _ (failed_hold g.D.Disk.moment_of g.D.Disk.left_since g.D.Disk.told g.D.Disk.image g.D.Disk.faults_of c.args.self.now c.hold.new.self c.in_err-hold.ensures.kept c.hold.ensures.same)

pub returns-clause-took : goal.returns-clause-took
returns-clause-took g c =
    took_silent g.D.Disk.moment_of g.D.Disk.left_since g.D.Disk.told g.D.Disk.image g.D.Disk.faults_of c.args.self.now c.hold.new.self c.add.new.self c.args.number (body.Halt c.args.cause)
    (held_body.Halt c.args.cause) c.requires.comes c.requires.goes_on (λ disk at tells m has. refl) (halting_unread c.args.cause c.requires.fits) refl (λ n k. refl) refl (λ n s. refl) (λ yes. halting_well c.args.cause c.requires.fits) refl c.in_ok-hold.ensures.held c.hold.ensures.same c.add.ensures.log c.add.ensures.same refl refl refl
