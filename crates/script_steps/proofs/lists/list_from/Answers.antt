use Rattle.std.proofs.Common.{◌≡◌, arith}
use Rattle.std.proofs.lemmas.Grind.{common_steps}
use Rattle.do_tree.specs.Seen.{expr_of}
use Rattle.do_tree.specs.Tree as tree
use Rattle.script_steps.proofs.Begun.{list_none}
use Rattle.script_steps.specs.Parts.{exprs_from, exprs_of}
use Rattle.script_steps.proofs.lists.list_from.Goals as goal

pub returns-in_ok-made_list-in-None-clause-moves : goal.returns-in_ok-made_list-in-None-clause-moves
returns-in_ok-made_list-in-None-clause-moves c =
    let found : exprs_from c.args.place (exprs_of (expr_of c.args.node.value)) ≡ tree.no_exprs = grind (arith, common_steps) in
    λ calls. list_none _ calls _ _ _ found c.in_ok-made_list-in-None.ensures
