use Rattle.std.proofs.Common.{◌∙◌, ap, arith}
use Rattle.std.proofs.lemmas.Int.{ints, to_z-of_z}
use mir.Syntax.{w64}
use Rattle.std.specs.Prelude.{ℤ, Bool}
use Rattle.alarm_core.specs.AlarmRule as alarms
use Rattle.timeline.specs.Steps.{moment_of}
use Rattle.front_turns.proofs.Stating.{handler_there}
use Rattle.front_turns.proofs.delivering.is_due.Goals as goal

pub returns : goal.returns
returns g c = λ ts.
    let moment = to_z-of_z w64 c.moment_of.result (record { sfits = omega (arith, ints, c.requires.positive, c.requires.small, c.moment_of.ensures) }) in
    c.due.ensures
    ∙ ap (λ (z : ℤ). alarms.is_due c.args.object.now.alarm c.is_some.result z) (moment ∙ c.moment_of.ensures)
    ∙ ap (λ (b : Bool). alarms.is_due c.args.object.now.alarm b (moment_of c.args.event.now)) (c.is_some.ensures ∙ handler_there c.args.object.now.handler)
