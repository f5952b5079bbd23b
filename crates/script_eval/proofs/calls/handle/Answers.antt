use Rattle.std.proofs.Common.{sym, ap, ◌∙◌}
use Rattle.do_value.specs.Seen.{trees_in}
use Rattle.script_mean.specs.Meaning.{handle_named}
use Rattle.script_eval.proofs.Called.{handle_acts}
use Rattle.script_eval.proofs.Doings.{does_so}
use Rattle.script_steps.specs.Paths.{is_present}
use Rattle.script_eval.proofs.calls.handle.Goals as goal

pub returns : goal.returns
returns c =
    handle_acts c.args.awaited c.args.name c.args.got c.args.state.now c.call_handle.new.state c.in_ok-call_handle.field-0
    (does_so _ _ c.args.state.now c.call_handle.new.state c.in_ok-call_handle.field-0
    (ap (λ n. handle_named (is_present c.args.awaited) n (trees_in c.args.got.items)) (sym c.as_str.ensures)
    ∙ ap (λ vs. handle_named (is_present c.args.awaited) c.as_str.result.now (trees_in vs)) (sym c.deref.ensures.value))
    c.in_ok-call_handle.ensures.same)
    c.in_ok-call_handle.ensures.ready
