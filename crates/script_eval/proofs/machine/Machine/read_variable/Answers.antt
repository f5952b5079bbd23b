use Rattle.std.proofs.Common.{sym, ap}
use Rattle.do_tree.specs.Seen.{expr_of}
use Rattle.script_state.specs.declared.done.Done.TheVariants as done
use Rattle.script_steps.specs.Parts.{name_of}
use Rattle.script_steps.specs.Seen.{variable_of}
use Rattle.script_steps.specs.declared.focus.Focus.TheVariants as focus
use Rattle.script_eval.proofs.Stepped.{reads_on}
use Rattle.script_eval.proofs.Doings.{does_so, variable_acts}
use Rattle.script_eval.proofs.machine.Machine.read_variable.Goals as goal

pub returns : goal.returns
returns c =
    let old = c.args.self.now in
    reads_on (focus.Variable c.args.expr.now) c.in_ok-outcome.outcome old c.end_part.new.self c.end_part.result c.end_part.new.focus
    (variable_acts c.args.expr.now old.state c.in_ok-outcome.outcome
    (does_so _ _ old.state old.state (done.Ended c.in_ok-outcome.outcome)
    (ap (λ e. variable_of (name_of (expr_of e))) (sym c.deref.ensures))
    c.in_ok-outcome.ensures))
    c.end_part.ensures
