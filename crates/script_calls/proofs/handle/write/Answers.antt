use Rattle.std.proofs.Common.{ap, ◌∙◌}
use Rattle.script_asks.specs.Requests.{completed_of}
use Rattle.script_calls.proofs.Ended.{does_as, goes_as}
use Rattle.script_calls.proofs.Handles.{write_unawaited}
use Rattle.script_mean.specs.Calls.{extend, handle_write, writes_of}
use Rattle.script_steps.specs.Paths.{is_present}
use Rattle.script_calls.proofs.handle.write.Goals as goal

pub returns-in-Present-clause-same : goal.returns-in-Present-clause-same
returns-in-Present-clause-same c =
    does_as _ _ c.args.state.now c.write_awaited.new.state c.write_awaited.result (ap (λ a. handle_write (is_present a) (writes_of c.args.state.now.transaction) c.args.ops.items (completed_of c.args.gives)) c.in-Present.is) c.write_awaited.ensures.same

pub returns-in_ok-extend-in-Absent-clause-same : goal.returns-in_ok-extend-in-Absent-clause-same
returns-in_ok-extend-in-Absent-clause-same c =
    goes_as (handle_write (is_present c.args.awaited) (writes_of c.args.state.now.transaction) c.args.ops.items (completed_of c.args.gives)) (extend (writes_of c.args.state.now.transaction) c.args.ops.items)
    c.args.state.now c.extend.new.state c.in_ok-extend-in-Absent.field-0
    (ap (λ a. handle_write (is_present a) (writes_of c.args.state.now.transaction) c.args.ops.items (completed_of c.args.gives)) c.in-Absent.is
    ∙ write_unawaited (writes_of c.args.state.now.transaction) c.args.ops.items (completed_of c.args.gives)) c.in_ok-extend-in-Absent.ensures.same
