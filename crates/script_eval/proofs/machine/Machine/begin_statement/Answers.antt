use Rattle.script_steps.specs.declared.focus.Focus.TheVariants as focus
use Rattle.script_eval.proofs.Moved.{move_acts}
use Rattle.script_eval.proofs.Stepped.{unfolds_on}
use Rattle.script_eval.specs.declared.act.Act.TheVariants as act
use Rattle.script_eval.proofs.machine.Machine.begin_statement.Goals as goal

pub returns : goal.returns
returns c =
    unfolds_on (focus.Run c.args.stmt.now) (act.Moves c.in_ok-m.m) c.args.self.now c.apply_move.new.self c.apply_move.result c.apply_move.new.focus
    (move_acts (focus.Run c.args.stmt.now) c.args.self.now.state c.in_ok-m.m c.in_ok-m.ensures.moves c.in_ok-m.ensures.less)
    c.apply_move.ensures
