use Rattle.std.proofs.Common.{ap, refl}
use Rattle.timeline.specs.declared.event.Event.{Event}
use Rattle.input_gate.specs.Doors.{staying, bind, answer, lets_through}
use Rattle.input_gate.proofs.Entered.{answer_stands}
use Rattle.input_gate.proofs.Least.{on_both}
use Rattle.input_gate.proofs.doors.Doors.stand.Goals as goal

pub insert_both-requires : goal.insert_both-requires
insert_both-requires c = c.requires staying

pub insert_both-requires-in-Answer : goal.insert_both-requires-in-Answer
insert_both-requires-in-Answer c = c.requires staying

pub returns-in-Answer-clause-too : goal.returns-in-Answer-clause-too
returns-in-Answer-clause-too c =
    on_both c.insert_both-in-Answer.result c.insert_both-in-Answer.ensures.number c.insert_both-in-Answer.ensures.key
    (λ s a. answer_stands c.args.number c.in-Answer.answered c.args.event.now c.args.self.now
    (record { staying = c.insert_both-in-Answer.new.numbers; binds = c.args.self.now.binds; answers = c.insert_both-in-Answer.new.keys })
    (ap (λ (e : Event). lets_through staying e) c.in-Answer.is) (ap (λ (e : Event). lets_through bind e) c.in-Answer.is)
    (λ n. ap (λ (e : Event). lets_through (answer n) e) c.in-Answer.is) s refl a)
