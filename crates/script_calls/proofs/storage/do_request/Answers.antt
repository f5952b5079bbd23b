use Rattle.std.proofs.Common.{ap, sym, ◌∙◌}
use Rattle.script_asks.specs.Requests.{request_of}
use Rattle.script_calls.proofs.Ended.{does_as}
use Rattle.script_mean.specs.Calls.{do_request}
use Rattle.script_mean.specs.Task as task
use Rattle.script_mean.specs.Turn.{ask_storage}
use Rattle.script_steps.specs.Paths.{is_present}
use Rattle.script_calls.proofs.storage.do_request.Goals as goal

pub returns-in-Reads-clause-same : goal.returns-in-Reads-clause-same
returns-in-Reads-clause-same c =
    does_as _ _ c.args.state.now c.ask_storage.new.self c.ask_storage.result
    (ap (λ q. do_request c.args.may (is_present c.args.awaited) (request_of q)) c.in-Reads.is ∙ ap (λ a. ask_storage a task.reads) (sym c.read_ask.ensures))
    c.ask_storage.ensures.same

pub returns-in-Syncs-clause-same : goal.returns-in-Syncs-clause-same
returns-in-Syncs-clause-same c =
    does_as _ _ c.args.state.now c.ask_storage-in-Syncs.new.self c.ask_storage-in-Syncs.result
    (ap (λ q. do_request c.args.may (is_present c.args.awaited) (request_of q)) c.in-Syncs.is) c.ask_storage-in-Syncs.ensures.same

pub returns-in-Writes-clause-same : goal.returns-in-Writes-clause-same
returns-in-Writes-clause-same c =
    does_as _ _ c.args.state.now c.do_write.new.state c.do_write.result
    (ap (λ q. do_request c.args.may (is_present c.args.awaited) (request_of q)) c.in-Writes.is) c.do_write.ensures.same
