use Rattle.std.proofs.Common.{refl, sym, ap}
use Rattle.do_value.specs.Seen.{tree_of}
use Rattle.script_mean.specs.Places.{put, write}
use Rattle.script_places.specs.Steps.{steps_in}
use Rattle.script_state.specs.declared.done.Done.TheVariants as done
use Rattle.script_steps.specs.Paths.{root_of}
use Rattle.script_steps.specs.declared.focus.Focus.TheVariants as focus
use Rattle.script_eval.proofs.Stepped.{ends_on}
use Rattle.script_eval.proofs.Doings.{assign_acts, does_so}
use Rattle.script_eval.proofs.machine.Machine.assign.Goals as goal

pub returns : goal.returns
returns c =
    let old = c.args.self.now in
    let now = c.assign.new.self in
    ends_on (focus.Assign c.args.root.now c.args.steps.now c.args.value) c.in_ok-outcome.outcome old (record old { state = now }) c.end_part.new.self now c.end_part.result c.end_part.new.focus refl
    (assign_acts c.args.root.now c.args.steps.now c.args.value old.state now c.in_ok-outcome.outcome
    (does_so _ _ old.state now (done.Ended c.in_ok-outcome.outcome)
    (ap (λ ss. write (root_of c.args.root.now) (steps_in ss) (put (tree_of c.args.value))) (sym c.deref.ensures.value))
    c.in_ok-outcome.ensures))
    c.end_part.ensures
