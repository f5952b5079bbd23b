use Rattle.std.proofs.Common.{◌≡◌, ap, arith}
use Rattle.std.proofs.lemmas.Grind.{common_steps}
use Rattle.do_tree.specs.Seen.{expr_of}
use Rattle.do_tree.specs.declared.expr.Expr.TheVariants as node
use Rattle.script_mean.specs.Meaning.{value}
use Rattle.script_steps.proofs.Begun.{if_ok}
use Rattle.script_steps.specs.Paths.{is_present}
use Rattle.script_steps.specs.declared.focus.Focus.TheVariants as focus
use Rattle.script_eval.proofs.machine.Machine.unfold_value.Goals as goal

pub returns-in-Variable : goal.returns-in-Variable
returns-in-Variable c =
    let is : c.args.expr.value ≡ node.Variable c.in-Variable.name = grind (arith, common_steps) in
    if_ok c.read_charged.result
    (λ p led. led (focus.Value c.args.awaited c.args.expr) (λ calls. ap (λ e. value (is_present c.args.awaited) calls (expr_of e)) is, omega arith))
    c.read_charged.ensures

pub returns-in-Number : goal.returns-in-Number
returns-in-Number c =
    let is : c.args.expr.value ≡ node.Number c.in-Number.at c.in-Number.value = grind (arith, common_steps) in
    if_ok c.give_number.result
    (λ p led. led (focus.Value c.args.awaited c.args.expr) (λ calls. ap (λ e. value (is_present c.args.awaited) calls (expr_of e)) is, omega arith))
    c.give_number.ensures
