use Rattle.std.proofs.Common.{sym, ap, ◌∙◌}
use Rattle.do_value.specs.Seen.{trees_in}
use Rattle.script_calls.proofs.Ended.{over_at_once}
use Rattle.script_calls.proofs.Named.{named, unnamed}
use Rattle.script_mean.specs.Calls.{store_call, try_request}
use Rattle.script_mean.specs.Storing.{allowed, request}
use Rattle.script_mean.specs.Turn.{Run, ends}
use Rattle.script_state.specs.Seen.{state_of}
use Rattle.script_steps.proofs.Begun.{if_ok}
use Rattle.script_steps.specs.Paths.{is_present}
use Rattle.script_vars.specs.Seen.{env_of}
use Rattle.script_calls.proofs.storage.call_storage.Goals as goal

pub returns-in-Some-clause-same : goal.returns-in-Some-clause-same
returns-in-Some-clause-same c =
    if_ok c.store_call.result (λ d x calls same next rs.
    ap (λ (p : Run). p (env_of c.args.state.now.vars) next (state_of c.args.state.now rs))
    (named (store_call calls (is_present c.args.awaited)) _ _ c.in-Some.call (trees_in c.args.args.now) c.storage_call.ensures c.in-Some.is
    ∙ ap (λ h. try_request (allowed c.in-Some.call (trees_in c.args.args.now)) (is_present c.args.awaited) (request h c.in-Some.call (trees_in c.args.args.now))) same)
    ∙ x next rs) c.store_call.ensures.same

pub returns-in-None-clause-same : goal.returns-in-None-clause-same
returns-in-None-clause-same c = λ calls same.
    over_at_once _ c.args.state.now c.nowhere.result (unnamed (store_call calls (is_present c.args.awaited)) _ _ (trees_in c.args.args.now) c.storage_call.ensures c.in-None.is ∙ ap ends (sym c.nowhere.ensures))
