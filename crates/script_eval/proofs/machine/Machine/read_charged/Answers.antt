use Rattle.std.proofs.Common.{refl}
use Rattle.script_state.specs.declared.done.Done.TheVariants as done
use Rattle.script_steps.proofs.Begun.{if_ok}
use Rattle.script_eval.proofs.Doings.{reads_acts, reads_exceeds}
use Rattle.script_eval.proofs.Stepped.{changes_at, ended_applies}
use Rattle.script_eval.specs.Machines.{leads_of}
use Rattle.script_eval.specs.declared.act.Act.TheVariants as act
use Rattle.script_eval.proofs.machine.Machine.read_charged.Goals as goal

pub returns-then-not-charge : goal.returns-then-not-charge
returns-then-not-charge c =
    let old = c.args.self.now in
    let now = c.charge.new.self in
    if_ok c.finish.result
    (λ p led f reads. changes_at f (act.Does done.Exceeded) old (record old { state = now }) c.finish.new.self now (leads_of p c.finish.new.focus) refl
    (reads_exceeds f c.args.name.now old.state now reads (c.if-not-charge.ensures.refused refl).0 (c.if-not-charge.ensures.refused refl).1) led)
    c.finish.ensures

pub returns : goal.returns
returns c =
    let old = c.args.self.now in
    let now = c.charge.new.self in
    let o = c.in_ok-outcome.outcome in
    let mid = record old { state = now } in
    if_ok c.end_part.result
    (λ p led f reads. changes_at f (act.Does (done.Ended o)) old mid c.end_part.new.self now (leads_of p c.end_part.new.focus) refl
    (reads_acts f c.args.name.now old.state now o reads (c.if-not-charge.ensures.charged refl).0 (c.if-not-charge.ensures.charged refl).1 c.in_ok-outcome.ensures)
    (λ class. ended_applies class o mid c.end_part.new.self (leads_of p c.end_part.new.focus) (led class)))
    c.end_part.ensures
