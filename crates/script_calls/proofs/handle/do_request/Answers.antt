use Rattle.std.proofs.Common.{ap, ◌∙◌, sym}
use Rattle.script_asks.specs.Requests.{request_of}
use Rattle.script_calls.proofs.Ended.{does_as, over_at_once}
use Rattle.script_mean.specs.Calls.{handle_request, writes_of}
use Rattle.script_mean.specs.Turn.{ends}
use Rattle.script_steps.specs.Paths.{is_present}
use Rattle.script_calls.proofs.handle.do_request.Goals as goal

pub returns-in-Reads-clause-same : goal.returns-in-Reads-clause-same
returns-in-Reads-clause-same c = does_as _ _ c.args.state.now c.read.new.state c.read.result (ap (λ q. handle_request (is_present c.args.awaited) (writes_of c.args.state.now.transaction) (request_of q)) c.in-Reads.is) c.read.ensures.same

pub returns-in-Syncs-clause-same : goal.returns-in-Syncs-clause-same
returns-in-Syncs-clause-same c = over_at_once _ c.args.state.now c.nowhere.result (ap (λ q. handle_request (is_present c.args.awaited) (writes_of c.args.state.now.transaction) (request_of q)) c.in-Syncs.is ∙ ap ends (sym c.nowhere.ensures))

pub returns-in-Writes-clause-same : goal.returns-in-Writes-clause-same
returns-in-Writes-clause-same c = does_as _ _ c.args.state.now c.write.new.state c.write.result (ap (λ q. handle_request (is_present c.args.awaited) (writes_of c.args.state.now.transaction) (request_of q)) c.in-Writes.is) c.write.ensures.same
