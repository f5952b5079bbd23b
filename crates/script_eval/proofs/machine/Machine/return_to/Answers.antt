use Rattle.std.proofs.Common.{refl}
use Rattle.script_steps.specs.declared.focus.Focus.TheVariants as focus
use Rattle.script_eval.proofs.Stepped.{ends_on}
use Rattle.script_eval.proofs.Doings.{back_acts}
use Rattle.script_eval.proofs.machine.Machine.return_to.Goals as goal

pub returns : goal.returns
returns c =
    let old = c.args.self.now in
    let now = c.return_to.new.self in
    ends_on (focus.Return c.args.awaited c.args.caller c.args.ended) c.in_ok-outcome.outcome old (record old { state = now }) c.end_part.new.self now c.end_part.result c.end_part.new.focus refl
    (back_acts c.args.awaited c.args.caller c.args.ended old.state now c.in_ok-outcome.outcome c.in_ok-outcome.ensures)
    c.end_part.ensures
