use Rattle.std.proofs.Common.{sym, ap, ◌∙◌}
use Rattle.do_value.specs.Seen.{trees_in}
use Rattle.script_calls.proofs.Named.{named, unnamed}
use Rattle.script_mean.specs.Turn.{ends, of}
use Rattle.script_ops.specs.Calls.{builtin}
use Rattle.script_steps.proofs.Begun.{if_ok}
use Rattle.script_calls.proofs.value.call_value.Goals as goal

pub returns-in-Some : goal.returns-in-Some
returns-in-Some c =
    if_ok c.ended.result (λ o h. named (λ b vs. of (builtin b vs)) _ _ c.in-Some.which (trees_in c.args.args.now) c.value_call.ensures c.in-Some.is ∙ h)
    (c.ended.ensures (builtin c.in-Some.which (trees_in c.args.args.now)) c.builtin.ensures)

pub returns-in-None : goal.returns-in-None
returns-in-None c = unnamed (λ b vs. of (builtin b vs)) _ _ (trees_in c.args.args.now) c.value_call.ensures c.in-None.is ∙ ap ends (sym c.nowhere.ensures)
