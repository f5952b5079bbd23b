use Rattle.std.proofs.Common.{ap, ◌∙◌}
use Rattle.storage_txn.specs.Overlay.{view}
use Rattle.script_mean.specs.Answers as answers
use Rattle.script_mean.specs.Answers.{value_of_reading}
use Rattle.script_mean.specs.Calls.{writes_of}
use Rattle.script_steps.proofs.Begun.{if_ok}
use Rattle.script_state.proofs.answers.seen.Goals as goal

pub returns : goal.returns
returns c =
    if_ok c.worked.result
    (λ o end. ap (λ made. answers.outcome_of (value_of_reading (view (writes_of made) c.args.ask.now c.args.below))) c.in-Some.is ∙ end)
    (c.worked.ensures _ c.value_through.ensures)
