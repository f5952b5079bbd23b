use Rattle.std.proofs.Common.{ap, refl}
use Rattle.timeline.specs.declared.event.Event.{Event}
use Rattle.input_gate.specs.Doors.{staying, bind, answer, lets_through}
use Rattle.input_gate.proofs.Entered.{answer_leaves}
use Rattle.input_gate.proofs.doors.Doors.leave.Goals as goal

pub returns-in-Answer : goal.returns-in-Answer
returns-in-Answer c =
    answer_leaves c.args.number c.in-Answer.answered c.args.event.now c.args.self.now
    (record { staying = c.remove-in-Answer.new.self; binds = c.args.self.now.binds; answers = c.remove-in-Answer-2.new.self })
    (ap (λ (e : Event). lets_through staying e) c.in-Answer.is) (ap (λ (e : Event). lets_through bind e) c.in-Answer.is)
    (λ n. ap (λ (e : Event). lets_through (answer n) e) c.in-Answer.is)
    c.remove-in-Answer.ensures.updates refl c.remove-in-Answer-2.ensures.updates
