use Rattle.std.proofs.Common.{IfOk, refl, sym, ap, subst, ◌∙◌}
use Rattle.do_value.specs.Seen.{trees_in}
use Rattle.script_calls.proofs.Ended.{does_as, over_at_once, refused}
use Rattle.script_calls.proofs.Requests.{request_short}
use Rattle.script_calls.specs.Requests.{IsShort}
use Rattle.script_mean.specs.Calls.{try_request}
use Rattle.script_mean.specs.Storing.{request, allowed}
use Rattle.script_steps.specs.Paths.{is_present}
use Rattle.script_calls.proofs.storage.store_call.Goals as goal

pub do_request-requires-clause-short : goal.do_request-requires-clause-short
do_request-requires-clause-short c = subst (λ w. IfOk w IsShort) c.in-Ok.ensures.request (request_short c.args.has_handler c.args.call (trees_in c.args.args.now))

pub returns-in-Ok-clause-same : goal.returns-in-Ok-clause-same
returns-in-Ok-clause-same c =
    does_as _ _ c.args.state.now c.do_request.new.state c.do_request.result
    (ap (λ m. try_request m (is_present c.args.awaited) (request c.args.has_handler c.args.call (trees_in c.args.args.now))) (sym c.allowed-may.ensures)
    ∙ ap (try_request c.allowed-may.result (is_present c.args.awaited)) c.in-Ok.ensures.request)
    c.do_request.ensures.same

pub returns-in_ok-thrown-in-Err-clause-same : goal.returns-in_ok-thrown-in-Err-clause-same
returns-in_ok-thrown-in-Err-clause-same c =
    over_at_once _ c.args.state.now c.in_ok-thrown-in-Err.field-0
    (refused (try_request (allowed c.args.call (trees_in c.args.args.now)) (is_present c.args.awaited)) (λ e. refl)
    (request c.args.has_handler c.args.call (trees_in c.args.args.now)) c.in-Err.fault c.in_ok-thrown-in-Err.field-0 c.in-Err.ensures.request
    c.in_ok-thrown-in-Err.ensures)
