use Rattle.std.proofs.Common.{◌+◌, ap, ◌∙◌, sym, subst}
use Rattle.do_value.specs.Seen.{tree_of}
use Rattle.script_mean.specs.Answers.{gave}
use Rattle.script_steps.specs.Paths.{path_frame_of}
use Rattle.script_steps.specs.Seen.{handed}
use Rattle.script_steps.specs.Weight.{LeavesLess, path_frame_weight}
use Rattle.script_steps.specs.declared.focus.Focus.TheVariants as focus
use Rattle.script_eval.proofs.Moved.{move_acts}
use Rattle.script_eval.proofs.Stepped.{unfolds_on}
use Rattle.script_eval.specs.declared.act.Act.TheVariants as act
use Rattle.script_eval.proofs.machine.Machine.hand_to_path.Goals as goal

pub returns : goal.returns
returns c =
    unfolds_on (focus.Handed c.args.frame c.args.value) (act.Moves c.in_ok-m.m) c.args.self.now c.apply_move.new.self c.apply_move.result c.apply_move.new.focus
    (move_acts (focus.Handed c.args.frame c.args.value) c.args.self.now.state c.in_ok-m.m
    (λ calls. ap (λ x. handed calls (path_frame_of x) (gave (tree_of c.args.value))) (sym c.into_inner-part.ensures) ∙ c.in_ok-m.ensures.same calls)
    (subst (λ x. LeavesLess (7 + path_frame_weight x) c.in_ok-m.m) c.into_inner-part.ensures c.in_ok-m.ensures.less))
    c.apply_move.ensures
