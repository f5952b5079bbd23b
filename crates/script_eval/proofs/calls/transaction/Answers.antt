use Rattle.std.proofs.Common.{◌∷◌, refl, ap, ◌∙◌}
use Rattle.do_tree.specs.declared.expr.Callback.{out-Callback}
use Rattle.script_mean.specs.Meaning.{handle_scope}
use Rattle.script_steps.specs.Paths.{parameter_of}
use Rattle.script_vars.specs.Seen.{env_of}
use Rattle.script_eval.proofs.Called.{transaction_acts}
use Rattle.script_eval.proofs.calls.transaction.Goals as goal

pub returns : goal.returns
returns c =
    let begun = c.begin_transaction.new.self in
    transaction_acts c.args.callback c.args.dropped c.args.state.now begun (record begun { vars = c.enter_callback.new.vars }) c.enter_callback.new.vars c.in_ok-body.body
    c.in_ok-begin_transaction.ensures refl
    (c.in_ok-enter_callback.ensures ∙ ap (λ x. handle_scope (parameter_of x) ∷ env_of begun.vars) c.deref-2.ensures)
    (c.in_ok-body.ensures ∙ ap (λ x. (out-Callback x).body.value) c.deref.ensures)
