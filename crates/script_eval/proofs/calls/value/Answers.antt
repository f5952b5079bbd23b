use Rattle.std.proofs.Common.{sym, ap, ◌∙◌}
use Rattle.do_value.specs.Seen.{trees_in}
use Rattle.script_mean.specs.Meaning.{value_named}
use Rattle.script_eval.proofs.Called.{value_acts}
use Rattle.script_eval.proofs.calls.value.Goals as goal

pub returns : goal.returns
returns c =
    value_acts c.args.name c.args.got c.args.state.now c.in_ok-call_value.field-0
    (ap (λ n. value_named n (trees_in c.args.got.items)) (sym c.as_str.ensures)
    ∙ ap (λ vs. value_named c.as_str.result.now (trees_in vs)) (sym c.deref.ensures.value)
    ∙ c.in_ok-call_value.ensures)
