use Rattle.std.proofs.Common.{refl}
use Rattle.script_state.specs.declared.done.Done.TheVariants as done
use Rattle.script_steps.proofs.Begun.{if_ok}
use Rattle.do_value.specs.declared.value.Value.TheVariants.{Num}
use Rattle.script_steps.specs.declared.focus.Outcome.TheVariants as ending
use Rattle.script_steps.specs.declared.focus.Focus.TheVariants as focus
use Rattle.script_eval.proofs.AtOnce.{charged_ends, charged_steps, finishes_from}
use Rattle.script_eval.proofs.Stepped.{changes_at}
use Rattle.script_eval.specs.Machines.{leads_of}
use Rattle.script_eval.specs.declared.act.Act.TheVariants as act
use Rattle.script_eval.proofs.machine.Machine.give_number.Goals as goal

pub returns-then-not-charge : goal.returns-then-not-charge
returns-then-not-charge c =
    let old = c.args.self.now in
    let now = c.charge.new.self in
    if_ok c.finish.result
    (λ p led f charges. changes_at f (act.Does done.Exceeded) old (record old { state = now }) c.finish.new.self now (leads_of p c.finish.new.focus) refl
    (charged_ends f (focus.Ended (ending.Gave (Num c.args.number))) old.state now charges (c.if-not-charge.ensures.refused refl).0 (c.if-not-charge.ensures.refused refl).1) led)
    c.finish.ensures

pub returns : goal.returns
returns c =
    let old = c.args.self.now in
    let now = c.charge.new.self in
    let o = ending.Gave (Num c.args.number) in
    if_ok c.end_part.result
    (λ p led f charges. charged_steps f (focus.Ended o) old c.end_part.new.self now (leads_of p c.end_part.new.focus) charges
    (c.if-not-charge.ensures.charged refl).0 (c.if-not-charge.ensures.charged refl).1
    (finishes_from o (record old { state = now }) c.end_part.new.self (leads_of p c.end_part.new.focus) led))
    c.end_part.ensures
