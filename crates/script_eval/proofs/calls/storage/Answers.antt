use Rattle.std.proofs.Common.{sym, ap, ◌∙◌}
use Rattle.do_value.specs.Seen.{trees_in}
use Rattle.script_mean.specs.Meaning.{storage_named}
use Rattle.script_eval.proofs.Called.{storage_acts}
use Rattle.script_eval.proofs.Doings.{does_so}
use Rattle.script_steps.specs.Paths.{is_present}
use Rattle.script_eval.proofs.calls.storage.Goals as goal

pub returns : goal.returns
returns c =
    storage_acts c.args.has_handler c.args.awaited c.args.name c.args.got c.args.state.now c.call_storage.new.state c.in_ok-call_storage.field-0
    (λ calls same. does_so _ _ c.args.state.now c.call_storage.new.state c.in_ok-call_storage.field-0
    (ap (λ n. storage_named calls (is_present c.args.awaited) n (trees_in c.args.got.items)) (sym c.as_str.ensures)
    ∙ ap (λ vs. storage_named calls (is_present c.args.awaited) c.as_str.result.now (trees_in vs)) (sym c.deref.ensures.value))
    (c.in_ok-call_storage.ensures.same calls same))
    c.in_ok-call_storage.ensures.ready
