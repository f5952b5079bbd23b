use Rattle.std.proofs.Common.{refl}
use Rattle.script_steps.specs.declared.focus.Focus.TheVariants as focus
use Rattle.script_steps.specs.declared.focus.Move.TheVariants as move
use Rattle.script_steps.specs.declared.frame.Frame.TheVariants as frame
use Rattle.script_eval.proofs.Stepped.{changes_on}
use Rattle.script_eval.specs.declared.act.Act.TheVariants as act
use Rattle.script_eval.proofs.Entered.{block_acts}
use Rattle.script_eval.proofs.machine.Machine.enter_names.Goals as goal

pub returns : goal.returns
returns c =
    let old = c.args.self.now in
    changes_on (focus.Block c.args.block) (act.Moves (move.Inside 0 frame.Leave (focus.Body c.args.block 0))) old (record old { state = record old.state { vars = c.enter.new.self } }) c.apply_move.new.self
    (record old.state { vars = c.enter.new.self }) c.apply_move.result c.apply_move.new.focus refl
    (block_acts c.args.block old.state (record old.state { vars = c.enter.new.self }) c.enter.new.self refl c.in_ok-enter.ensures.entered)
    c.apply_move.ensures
