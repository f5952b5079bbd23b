use Rattle.std.proofs.Common.{refl}
use Rattle.script_steps.specs.declared.focus.Focus.TheVariants as focus
use Rattle.script_eval.proofs.Stepped.{ends_on}
use Rattle.script_eval.proofs.Entered.{leave_acts}
use Rattle.script_eval.proofs.machine.Machine.leave_block.Goals as goal

pub returns : goal.returns
returns c =
    let old = c.args.self.now in
    let now = record old.state { vars = c.leave.new.self } in
    ends_on (focus.Leave c.args.ended) c.args.ended old (record old { state = now }) c.end_layer.new.self now c.end_layer.result c.end_layer.new.focus refl
    (leave_acts c.args.ended old.state now c.leave.new.self refl c.leave.ensures)
    c.end_layer.ensures
