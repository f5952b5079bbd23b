use Rattle.std.proofs.Common.{refl}
use Rattle.script_steps.specs.declared.focus.Focus.TheVariants as focus
use Rattle.script_eval.proofs.Stepped.{changes_on}
use Rattle.script_eval.proofs.Doings.{unblock_acts}
use Rattle.script_eval.specs.declared.act.Act.TheVariants as act
use Rattle.script_eval.proofs.machine.Machine.unblock.Goals as goal

pub returns : goal.returns
returns c =
    let old = c.args.self.now in
    let now = c.end_block.new.self in
    changes_on (focus.Unblock c.args.awaited c.args.ended) (act.Does c.in_ok-done.done) old (record old { state = now }) c.finish.new.self now c.finish.result c.finish.new.focus refl
    (unblock_acts c.args.awaited c.args.ended old.state now c.in_ok-done.done c.in_ok-done.ensures.same c.in_ok-done.ensures.ready)
    c.finish.ensures
