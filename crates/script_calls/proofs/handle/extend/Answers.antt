use Rattle.script_calls.proofs.Ended.{throws_so}
use Rattle.script_calls.proofs.Handles.{full}
use Rattle.script_mean.specs.Errors.{batch_full}
use Rattle.script_steps.proofs.Begun.{if_ok}
use Rattle.script_calls.proofs.handle.extend.Goals as goal

pub returns-in-Err-BatchFull-clause-same : goal.returns-in-Err-BatchFull-clause-same
returns-in-Err-BatchFull-clause-same c =
    if_ok c.thrown.result (λ o end. full _ c.extend.new.self c.args.ops.items c.args.state.now _ _ o c.in-Some.is c.requires.made
    (rw c.in-Err-BatchFull.field-0-is at c.in-Err-BatchFull.ensures.fault) c.in-Err-BatchFull.ensures.same (throws_so batch_full c.throw.result o c.throw.ensures end)) c.thrown.ensures
