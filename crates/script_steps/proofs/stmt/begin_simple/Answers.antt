use Rattle.std.proofs.Common.{◌≡◌, arith}
use Rattle.std.proofs.lemmas.Grind.{common_steps}
use Rattle.do_tree.specs.declared.stmt.Write.TheVariants as write
use Rattle.script_steps.proofs.Turns.{expression_begins, write_begins}
use Rattle.script_steps.proofs.stmt.begin_simple.Goals as goal

pub returns-in_ok-expr-in-Nothing-clause-moves : goal.returns-in_ok-expr-in-Nothing-clause-moves
returns-in_ok-expr-in-Nothing-clause-moves c =
    let is : c.args.inner.now.value.write ≡ write.Nothing = grind (arith, common_steps) in
    let at : c.in_ok-expr-in-Nothing.expr.value ≡ c.args.inner.now.value.place.value = grind (arith, common_steps) in
    λ calls. expression_begins calls c.args.inner.now.value c.in_ok-expr-in-Nothing.expr is at

pub returns-in_ok-again-in_default-clause-moves : goal.returns-in_ok-again-in_default-clause-moves
returns-in_ok-again-in_default-clause-moves c =
    let same : c.deref.result.now ≡ c.args.inner.now.value = grind (arith, common_steps) in
    λ calls. write_begins calls c.args.inner.now.value c.deref.result.now c.in_ok-again-in_default.field-0 c.in_default.not-Nothing same c.in_ok-again-in_default.ensures
