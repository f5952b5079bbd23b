use Rattle.std.proofs.Common.{IfOk, subst}
use Rattle.do_value.specs.Seen.{trees_in}
use Rattle.script_calls.proofs.Handles.{call_goes, call_throws, is_made}
use Rattle.script_calls.proofs.Requests.{wants_keyed, wants_short}
use Rattle.script_calls.specs.Requests.{AreKeyed, IsShort}
use Rattle.script_steps.specs.Paths.{is_present}
use Rattle.script_calls.proofs.handle.do_other.Goals as goal

pub do_request-requires-clause-short : goal.do_request-requires-clause-short
do_request-requires-clause-short c = subst (λ w. IfOk w IsShort) c.in-Ok.ensures.request (wants_short c.is_rolled_back.result c.args.call (trees_in c.args.args.now))

pub do_request-requires-clause-keyed : goal.do_request-requires-clause-keyed
do_request-requires-clause-keyed c = subst (λ w. IfOk w AreKeyed) c.in-Ok.ensures.request (wants_keyed c.is_rolled_back.result c.args.call (trees_in c.args.args.now))

pub do_request-requires-clause-made : goal.do_request-requires-clause-made
do_request-requires-clause-made c = is_made _ _ c.is_rolled_back.result c.args.call (trees_in c.args.args.now) _ c.in-Some.is c.requires.other c.is_rolled_back.ensures c.in-Ok.ensures.request

pub returns-in-Ok-clause-same : goal.returns-in-Ok-clause-same
returns-in-Ok-clause-same c = call_goes (is_present c.args.awaited) c.args.call (trees_in c.args.args.now) _ c.is_rolled_back.result _ c.args.state.now c.do_request.new.state c.do_request.result c.requires.other c.in-Some.is c.is_rolled_back.ensures c.in-Ok.ensures.request c.do_request.ensures.same

pub returns-in_ok-thrown-in-Err-clause-same : goal.returns-in_ok-thrown-in-Err-clause-same
returns-in_ok-thrown-in-Err-clause-same c = call_throws (is_present c.args.awaited) c.args.call (trees_in c.args.args.now) _ c.is_rolled_back.result c.in-Err.fault c.args.state.now c.in_ok-thrown-in-Err.field-0 c.requires.other c.in-Some.is c.is_rolled_back.ensures c.in-Err.ensures.request c.in_ok-thrown-in-Err.ensures
