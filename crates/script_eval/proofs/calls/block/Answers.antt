use Rattle.std.proofs.Common.{refl, ap, ◌∙◌, subst}
use Rattle.do_tree.specs.declared.expr.Callback.{out-Callback}
use Rattle.script_state.specs.Ends.{Opens}
use Rattle.script_eval.proofs.Called.{block_acts, refused_acts}
use Rattle.script_eval.proofs.calls.block.Goals as goal

pub returns-in-Some : goal.returns-in-Some
returns-in-Some c =
    refused_acts c.args.awaited c.args.callback c.args.dropped c.args.state.now c.begin_block.new.self c.in-Some.refused
    (subst (λ o. Opens c.args.state.now c.begin_block.new.self o) c.in-Some.is c.in_ok-refused.ensures)

pub returns : goal.returns
returns c =
    let begun = c.begin_block.new.self in
    block_acts c.args.awaited c.args.callback c.args.dropped c.args.state.now begun (record begun { vars = c.enter.new.self }) c.enter.new.self c.in_ok-body.body
    (subst (λ o. Opens c.args.state.now begun o) c.in-None.is c.in_ok-refused.ensures) refl c.in_ok-enter-in-None.ensures.entered
    (c.in_ok-body.ensures ∙ ap (λ x. (out-Callback x).body.value) c.deref.ensures)
