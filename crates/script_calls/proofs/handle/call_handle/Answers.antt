use Rattle.std.proofs.Common.{sym, ap, ◌∙◌}
use Rattle.do_value.specs.Seen.{trees_in}
use Rattle.script_calls.proofs.Ended.{does_as, over_at_once}
use Rattle.script_calls.proofs.Named.{named, unnamed}
use Rattle.script_mean.specs.Calls.{handle_call}
use Rattle.script_mean.specs.Turn.{ends}
use Rattle.script_steps.specs.Paths.{is_present}
use Rattle.script_calls.proofs.handle.call_handle.Goals as goal

pub returns-in-Some-clause-same : goal.returns-in-Some-clause-same
returns-in-Some-clause-same c =
    does_as _ _ c.args.state.now c.do_call.new.state c.do_call.result (named (handle_call (is_present c.args.awaited)) _ _ c.in-Some.call (trees_in c.args.args.now) c.handle_call.ensures c.in-Some.is) c.do_call.ensures.same

pub returns-in-None-clause-same : goal.returns-in-None-clause-same
returns-in-None-clause-same c =
    over_at_once _ c.args.state.now c.nowhere.result (unnamed (handle_call (is_present c.args.awaited)) _ _ (trees_in c.args.args.now) c.handle_call.ensures c.in-None.is ∙ ap ends (sym c.nowhere.ensures))
