use Rattle.std.proofs.Common.{◌≡◌, arith}
use Rattle.std.proofs.lemmas.Grind.{common_steps}
use Rattle.do_tree.specs.Seen.{expr_of}
use Rattle.do_tree.specs.Tree as tree
use Rattle.script_steps.proofs.Begun.{operate_some}
use Rattle.script_steps.specs.Parts.{operands_from, operands_of}
use Rattle.script_steps.proofs.handed.operate_on.Goals as goal

pub returns-in-Some-clause-moves : goal.returns-in-Some-clause-moves
returns-in-Some-clause-moves c =
    let found : operands_from c.args.place (operands_of (expr_of c.args.node.value))
    ≡ tree.operand c.in-Some.field-0.op (expr_of c.in-Some.field-0.expr.value) (operands_from c.in-Some.field-0.next (operands_of (expr_of c.args.node.value))) = grind (arith, common_steps) in
    λ calls. operate_some calls _ _ _ _ _ found
