use Rattle.std.proofs.Common.{◌≡◌, true, arith}
use Rattle.std.proofs.lemmas.Grind.{common_steps}
use Rattle.do_tree.specs.Seen.{expr_of}
use Rattle.do_tree.specs.Tree as tree
use Rattle.do_value.specs.Seen.{tree_of}
use Rattle.script_mean.specs.Meaning.{goes_on}
use Rattle.script_steps.proofs.Begun.{chain_goes}
use Rattle.script_steps.specs.Parts.{chain_of, exprs_from, exprs_of}
use Rattle.script_steps.proofs.handed.chain_on.Goals as goal

pub returns-then-goes_on-clause-moves : goal.returns-then-goes_on-clause-moves
returns-then-goes_on-clause-moves c =
    let found : exprs_from c.args.place (exprs_of (expr_of c.args.node.value))
    ≡ tree.expr (expr_of c.in-Some.field-0.expr.value) (exprs_from c.in-Some.field-0.next (exprs_of (expr_of c.args.node.value))) = grind (arith, common_steps) in
    let goes : goes_on (chain_of (expr_of c.args.node.value)) (tree_of c.args.value) ≡ true = grind (arith, common_steps) in
    λ calls. chain_goes calls _ _ _ _ _ found goes
