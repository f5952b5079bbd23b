use Rattle.std.proofs.Common.{[], ◌∷◌, refl, ap, ◌∙◌}
use Rattle.do_tree.specs.Seen.{stmt_of}
use Rattle.do_value.specs.Seen.{tree_of}
use Rattle.script_mean.specs.Task as task
use Rattle.script_steps.specs.Parts.{body_in, name_in}
use Rattle.script_vars.specs.Seen.{env_of}
use Rattle.script_steps.specs.declared.focus.Focus.TheVariants as focus
use Rattle.script_steps.specs.declared.focus.Move.TheVariants as move
use Rattle.script_steps.specs.declared.frame.Frame.TheVariants as frame
use Rattle.script_eval.proofs.Stepped.{changes_on}
use Rattle.script_eval.specs.declared.act.Act.TheVariants as act
use Rattle.script_eval.proofs.Entered.{visit_acts}
use Rattle.script_eval.proofs.machine.Machine.enter_visit.Goals as goal

pub returns : goal.returns
returns c =
    let old = c.args.self.now in
    let now = record old.state { vars = c.enter_loop.new.vars } in
    changes_on (focus.Visit c.args.node c.args.value) (act.Moves (move.Inside 0 frame.Leave (focus.Run c.in_ok-body.body))) old (record old { state = now }) c.apply_move.new.self
    now c.apply_move.result c.apply_move.new.focus refl
    (visit_acts c.args.node c.args.value old.state now c.enter_loop.new.vars c.in_ok-body.body refl
    (c.in_ok-enter_loop.ensures ∙ ap (λ x. ((name_in (stmt_of x), task.value (tree_of c.args.value)) ∷ []) ∷ env_of old.state.vars) c.deref-2.ensures)
    (c.in_ok-body.ensures ∙ ap (λ x. body_in (stmt_of x)) c.deref.ensures))
    c.apply_move.ensures
