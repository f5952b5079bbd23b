use Rattle.std.proofs.Common.{◌≡◌, subst, sym, ap, ◌∙◌, arith}
use Rattle.std.proofs.lemmas.Grind.{common_steps}
use Rattle.do_tree.specs.Seen.{expr_of}
use Rattle.do_tree.specs.Tree.{path}
use Rattle.do_tree.specs.declared.expr.Expr.TheVariants as node
use Rattle.script_mean.specs.Frames.{written}
use Rattle.script_mean.specs.Meaning.{place}
use Rattle.script_places.specs.Steps.{steps_in}
use Rattle.script_steps.proofs.Begun.{if_ok}
use Rattle.script_steps.specs.Parts.{links_in}
use Rattle.script_steps.specs.Paths.{writing_of}
use Rattle.script_steps.specs.Seen.{move_run}
use Rattle.script_steps.specs.Weight.{LeavesLess}
use Rattle.script_paths.proofs.Found.{base_other, base_this, base_variable}
use Rattle.script_paths.proofs.places.begin_path.Goals as goal

pub returns-in_ok-node-in-Variable-clause-same : goal.returns-in_ok-node-in-Variable-clause-same
returns-in_ok-node-in-Variable-clause-same c =
    let is : c.args.base.now.value ≡ node.Variable c.in-Variable.name = grind (arith, common_steps) in
    let named : c.in_ok-copy-in-Variable.field-0 ≡ c.in-Variable.name.text = grind (arith, common_steps) in
    λ calls at. base_variable calls (writing_of c.args.writing) _ c.in-Variable.name at c.args.node.now.value c.in_ok-node-in-Variable.node.value
    c.in_ok-copy-in-Variable.field-0 (steps_in c.new.result.items) is c.in_ok-node-in-Variable.ensures named (ap steps_in c.new.ensures.items)

pub returns-in-This-clause-same : goal.returns-in-This-clause-same
returns-in-This-clause-same c =
    let is : c.args.base.now.value ≡ node.This c.in-This.at = grind (arith, common_steps) in
    if_ok c.begin_own.result (λ m p calls at. base_this calls (writing_of c.args.writing) _ c.in-This.at at _ _ is (p calls at c.in-This.at)) c.begin_own.ensures.same

pub returns-in_default : goal.returns-in_default
returns-in_default c =
    let is : c.deref.result.now ≡ c.args.base.now.value = grind (arith, common_steps) in
    record {
      same = λ calls at. ap (λ z. place calls (path at (expr_of z) (links_in (expr_of c.args.node.now.value) 0)) (written calls (writing_of c.args.writing))) (sym is)
          ∙ base_other calls (writing_of c.args.writing) c.deref.result.now at (links_in (expr_of c.args.node.now.value) 0) c.in_default.not-Variable c.in_default.not-This
          ∙ ap (move_run calls) (sym c.nowhere.ensures);
      less = subst (LeavesLess 12) (sym c.nowhere.ensures) (omega arith);
    }
