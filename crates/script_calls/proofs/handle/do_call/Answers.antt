use Rattle.std.proofs.Common.{ap}
use Rattle.do_value.specs.Seen.{trees_in}
use Rattle.script_calls.proofs.Ended.{does_as}
use Rattle.script_mean.specs.Calls.{handle_call}
use Rattle.script_steps.specs.Paths.{is_present}
use Rattle.script_calls.proofs.handle.do_call.Goals as goal

pub returns-in-Rollback-clause-same : goal.returns-in-Rollback-clause-same
returns-in-Rollback-clause-same c = does_as _ _ c.args.state.now c.roll_back.new.state c.roll_back.result (ap (λ k. handle_call (is_present c.args.awaited) k (trees_in c.args.args.now)) c.in-Rollback.is) c.roll_back.ensures.same
