use Rattle.std.proofs.Common.{◌∙◌, ap, arith}
use Rattle.std.proofs.lemmas.Int.{ints, to_z-of_z}
use mir.Syntax.{w64}
use Rattle.std.specs.Prelude.{ℤ, ℕ}
use Rattle.alarm_core.specs.AlarmRule.{after_failure}
use Rattle.front_turns.proofs.Ending.{failure_op, written_on_alarm}
use Rattle.front_turns.proofs.ends.after_throw.Goals as goal

pub returns-clause-written : goal.returns-clause-written
returns-clause-written g c = λ positive.
    let moment = to_z-of_z w64 c.time_of.result (record { sfits = omega (arith, ints, c.time_of.ensures.time) }) in
    c.after_failure.ensures.written
    ∙ ap (λ (z : ℤ). after_failure c.retry.result c.args.object.now.touched z) moment
    ∙ ap (λ (n : ℕ). after_failure n c.args.object.now.touched c.time_of.result) c.retry.ensures.retry
    ∙ ap (λ (z : ℤ). after_failure c.args.alarm.1 c.args.object.now.touched z) (c.time_of.ensures.same positive)

pub returns-clause-op : goal.returns-clause-op
returns-clause-op g c =
    let moment = to_z-of_z w64 c.time_of.result (record { sfits = omega (arith, ints, c.time_of.ensures.time) }) in
    failure_op c.after_failure.result c.retry.result c.args.object.now.touched c.time_of.result c.after_failure.ensures.op
    (written_on_alarm c.after_failure.result c.retry.result c.args.object.now.touched c.time_of.result
    (c.after_failure.ensures.written ∙ ap (λ (z : ℤ). after_failure c.retry.result c.args.object.now.touched z) moment))
