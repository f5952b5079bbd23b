use Rattle.std.proofs.Common.{sym, ap}
use Rattle.do_value.specs.Seen.{trees_in}
use Rattle.script_mean.specs.Calls.{push_to}
use Rattle.script_places.specs.Steps.{steps_in}
use Rattle.script_steps.specs.Paths.{root_of}
use Rattle.script_eval.proofs.Called.{push_acts}
use Rattle.script_eval.proofs.Doings.{does_so}
use Rattle.script_state.specs.declared.done.Done.TheVariants as done
use Rattle.script_eval.proofs.calls.push.Goals as goal

pub returns : goal.returns
returns c =
    push_acts c.args.root c.args.steps c.args.got c.args.state.now c.push.new.self c.in_ok-push.field-0
    (does_so _ _ c.args.state.now c.push.new.self (done.Ended c.in_ok-push.field-0)
    (ap (λ ss. push_to (root_of c.args.root) (steps_in ss) (trees_in c.args.got.items)) (sym c.deref.ensures.value))
    c.in_ok-push.ensures)
