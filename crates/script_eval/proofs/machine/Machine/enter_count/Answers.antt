use Rattle.std.proofs.Common.{[], ◌∷◌, refl, ap, ◌∙◌}
use Rattle.do_tree.specs.Seen.{stmt_of}
use Rattle.do_value.specs.Seen.{tree_of}
use Rattle.script_mean.specs.Task as task
use Rattle.script_steps.specs.Parts.{body_in, name_in, step_in, test_in}
use Rattle.script_steps.specs.declared.frame.Between.TheVariants as standing
use Rattle.script_vars.specs.Seen.{env_of}
use Rattle.script_steps.specs.declared.focus.Focus.TheVariants as focus
use Rattle.script_steps.specs.declared.focus.Move.TheVariants as move
use Rattle.script_steps.specs.declared.frame.Frame.TheVariants as frame
use Rattle.script_eval.proofs.Stepped.{changes_on}
use Rattle.script_eval.specs.declared.act.Act.TheVariants as act
use Rattle.script_eval.proofs.Entered.{count_acts}
use Rattle.script_eval.proofs.machine.Machine.enter_count.Goals as goal

pub returns : goal.returns
returns c =
    let old = c.args.self.now in
    let now = record old.state { vars = c.enter_loop.new.vars } in
    changes_on (focus.Count c.args.node c.args.value)
    (act.Moves (move.Inside 0 frame.Leave (focus.Loop c.in_ok-test.test c.in_ok-body.body (standing.Stepped c.in_ok-step.step)))) old (record old { state = now }) c.apply_move.new.self
    now c.apply_move.result c.apply_move.new.focus refl
    (count_acts c.args.node c.args.value old.state now c.enter_loop.new.vars c.in_ok-test.test c.in_ok-body.body c.in_ok-step.step refl
    (c.in_ok-enter_loop.ensures ∙ ap (λ x. ((name_in (stmt_of x), task.value (tree_of c.args.value)) ∷ []) ∷ env_of old.state.vars) c.deref-4.ensures)
    (c.in_ok-test.ensures ∙ ap (λ x. test_in (stmt_of x)) c.deref.ensures)
    (c.in_ok-body.ensures ∙ ap (λ x. body_in (stmt_of x)) c.deref-2.ensures)
    (c.in_ok-step.ensures ∙ ap (λ x. step_in (stmt_of x)) c.deref-3.ensures))
    c.apply_move.ensures
