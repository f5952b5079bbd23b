use Rattle.std.proofs.Common.{◌≡◌, arith}
use Rattle.std.proofs.lemmas.Grind.{common_steps}
use Rattle.do_tree.specs.Nodes.{option_expr_in}
use Rattle.do_tree.specs.Seen.{expr_of, named_of}
use Rattle.do_tree.specs.Tree as tree
use Rattle.script_steps.proofs.Begun.{record_none, record_some}
use Rattle.script_steps.specs.Parts.{pairs_from, pairs_of}
use Rattle.script_steps.proofs.lists.record_from.Goals as goal

pub returns-in_ok-focus-in-Some-clause-moves : goal.returns-in_ok-focus-in-Some-clause-moves
returns-in_ok-focus-in-Some-clause-moves c =
    let found : pairs_from c.args.place (pairs_of (expr_of c.args.node.value))
    ≡ tree.pair (named_of c.in-Some.field-0.key) (option_expr_in c.in-Some.field-0.value) (pairs_from c.in-Some.field-0.next (pairs_of (expr_of c.args.node.value))) = grind (arith, common_steps) in
    λ calls. record_some _ calls _ _ _ _ _ _ found (c.in_ok-focus-in-Some.ensures.begins calls)

pub returns-in_ok-made_record-in-None-clause-moves : goal.returns-in_ok-made_record-in-None-clause-moves
returns-in_ok-made_record-in-None-clause-moves c =
    let found : pairs_from c.args.place (pairs_of (expr_of c.args.node.value)) ≡ tree.no_pairs = grind (arith, common_steps) in
    λ calls. record_none _ calls _ _ _ found c.in_ok-made_record-in-None.ensures
