use Rattle.std.proofs.Common.{◌∷◌, refl, ap, ◌∙◌}
use Rattle.do_tree.specs.Seen.{stmt_of}
use Rattle.do_value.specs.Seen.{tree_of}
use Rattle.script_mean.specs.Meaning.{caught_as}
use Rattle.script_steps.specs.Parts.{caught_in, handler_in}
use Rattle.script_vars.specs.Seen.{env_of}
use Rattle.script_steps.specs.declared.focus.Focus.TheVariants as focus
use Rattle.script_steps.specs.declared.focus.Move.TheVariants as move
use Rattle.script_steps.specs.declared.frame.Frame.TheVariants as frame
use Rattle.script_eval.proofs.Stepped.{changes_on}
use Rattle.script_eval.specs.declared.act.Act.TheVariants as act
use Rattle.script_eval.proofs.Entered.{handle_acts}
use Rattle.script_eval.proofs.machine.Machine.enter_handler.Goals as goal

pub returns : goal.returns
returns c =
    let old = c.args.self.now in
    let now = record old.state { vars = c.enter_handler.new.vars } in
    changes_on (focus.Handle c.args.node c.args.value) (act.Moves (move.Inside 0 frame.Leave (focus.Body c.in_ok-handler.handler 0))) old (record old { state = now }) c.apply_move.new.self
    now c.apply_move.result c.apply_move.new.focus refl
    (handle_acts c.args.node c.args.value old.state now c.enter_handler.new.vars c.in_ok-handler.handler refl
    (c.in_ok-enter_handler.ensures ∙ ap (λ x. caught_as (caught_in (stmt_of x)) (tree_of c.args.value) ∷ env_of old.state.vars) c.deref-2.ensures)
    (c.in_ok-handler.ensures ∙ ap (λ x. handler_in (stmt_of x)) c.deref.ensures))
    c.apply_move.ensures
