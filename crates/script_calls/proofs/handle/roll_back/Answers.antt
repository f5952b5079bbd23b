use Rattle.do_value.specs.Seen.{trees_in}
use Rattle.script_calls.proofs.Ended.{throws_so}
use Rattle.script_calls.proofs.Handles.{dropped_twice}
use Rattle.script_mean.specs.Errors.{rolled_back}
use Rattle.script_steps.specs.Paths.{is_present}
use Rattle.script_calls.proofs.handle.roll_back.Goals as goal

pub returns-in_ok-thrown-in-Err-clause-same : goal.returns-in_ok-thrown-in-Err-clause-same
returns-in_ok-thrown-in-Err-clause-same c =
    dropped_twice (is_present c.args.awaited) (trees_in c.args.args.now) _ c.rollback.new.self c.args.state.now c.in_ok-thrown-in-Err.field-0 c.in-Some.is c.in-Err.ensures.fault.1 c.rollback.ensures.none (throws_so rolled_back c.throw.result c.in_ok-thrown-in-Err.field-0 c.throw.ensures c.in_ok-thrown-in-Err.ensures)
