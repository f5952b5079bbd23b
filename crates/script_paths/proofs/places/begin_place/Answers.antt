use Rattle.std.proofs.Common.{◌≡◌, Some, None, subst, sym, ap, ◌∙◌, arith}
use Rattle.std.proofs.lemmas.Grind.{common_steps}
use Rattle.do_tree.specs.Seen.{expr_of}
use Rattle.script_mean.specs.Frames.{written}
use Rattle.script_mean.specs.Meaning.{place}
use Rattle.script_steps.proofs.Begun.{if_ok}
use Rattle.script_steps.specs.Paths.{writing_of}
use Rattle.script_steps.specs.Seen.{move_run}
use Rattle.script_steps.specs.Weight.{LeavesLess}
use Rattle.script_paths.specs.Bases.{base_of}
use Rattle.script_paths.proofs.Found.{nothing_found, path_found}
use Rattle.script_paths.proofs.places.begin_place.Goals as goal

pub returns-in-Some : goal.returns-in-Some
returns-in-Some c =
    let begins : base_of (expr_of c.args.node.now.value) ≡ Some (expr_of c.in-Some.base.now.value) = grind (arith, common_steps) in
    record {
      same = if_ok c.begin_path.result (λ m p calls. path_found calls (writing_of c.args.writing) _ (expr_of c.in-Some.base.now.value) _ begins (p calls)) c.begin_path.ensures.same;
      less = c.begin_path.ensures.less;
    }

pub returns-in-None : goal.returns-in-None
returns-in-None c =
    let is : c.deref.result.now ≡ c.args.node.now.value = grind (arith, common_steps) in
    let none : base_of (expr_of c.deref.result.now) ≡ None = grind (arith, common_steps) in
    record {
      same = λ calls. ap (λ z. place calls (expr_of z) (written calls (writing_of c.args.writing))) (sym is)
          ∙ nothing_found calls (writing_of c.args.writing) c.deref.result.now c.in_default.not-Variable none ∙ ap (move_run calls) (sym c.nowhere.ensures);
      less = subst (LeavesLess 12) (sym c.nowhere.ensures) (omega arith);
    }
