use Rattle.std.proofs.Common.{refl, sym, ap}
use Rattle.do_tree.specs.Nodes.{block_in}
use Rattle.do_value.specs.Seen.{tree_of}
use Rattle.script_mean.specs.Turn.{declare}
use Rattle.script_state.specs.declared.done.Done.TheVariants as done
use Rattle.script_steps.specs.Parts.{declared_in, items_from}
use Rattle.script_steps.specs.declared.focus.Focus.TheVariants as focus
use Rattle.script_eval.proofs.Stepped.{ends_on}
use Rattle.script_eval.proofs.Doings.{declare_acts, does_so}
use Rattle.script_eval.proofs.machine.Machine.declare.Goals as goal

pub returns : goal.returns
returns c =
    let old = c.args.self.now in
    let now = c.declare.new.self in
    ends_on (focus.Declare c.args.block.now c.args.place c.args.value) c.in_ok-outcome.outcome old (record old { state = now }) c.end_part.new.self now c.end_part.result c.end_part.new.focus refl
    (declare_acts c.args.block.now c.args.place c.args.value old.state now c.in_ok-outcome.outcome
    (does_so _ _ old.state now (done.Ended c.in_ok-outcome.outcome)
    (ap (λ b. declare (declared_in (items_from c.args.place (block_in b))) (tree_of c.args.value)) (sym c.deref.ensures))
    c.in_ok-outcome.ensures.same))
    c.end_part.ensures
