use Rattle.std.proofs.Common.{not, ap}
use Rattle.script_asks.specs.Requests.{completed_of}
use Rattle.script_calls.proofs.Ended.{does_as, goes_as}
use Rattle.script_mean.specs.Calls.{do_request}
use Rattle.script_mean.specs.Storing.{writes}
use Rattle.script_mean.specs.Turn.{join}
use Rattle.script_steps.specs.Paths.{is_present}
use Rattle.script_calls.proofs.storage.do_write.Goals as goal

pub returns-in-Present-clause-same : goal.returns-in-Present-clause-same
returns-in-Present-clause-same c =
    does_as _ _ c.args.state.now c.write_awaited.new.state c.write_awaited.result
    (ap (λ a. do_request c.args.may (is_present a) (writes c.args.ops.items (completed_of c.args.gives))) c.in-Present.is) c.write_awaited.ensures.same

pub returns-in_ok-join-in-Absent-clause-same : goal.returns-in_ok-join-in-Absent-clause-same
returns-in_ok-join-in-Absent-clause-same c =
    goes_as (do_request c.args.may (is_present c.args.awaited) (writes c.args.ops.items (completed_of c.args.gives)))
    (join (not c.args.may.unconfirmed) c.args.ops.items) c.args.state.now c.join.new.self c.in_ok-join-in-Absent.field-0
    (ap (λ a. do_request c.args.may (is_present a) (writes c.args.ops.items (completed_of c.args.gives))) c.in-Absent.is) c.in_ok-join-in-Absent.ensures
