use Rattle.std.proofs.Common.{subst}
use Rattle.do_tree.specs.Tree as tree
use Rattle.do_parse.specs.Then.{IsMade}
use Rattle.do_parse.specs.Trees.{expr_at}
use Rattle.do_parse.proofs.Rows.{hidden_exprs, hidden_operands, hidden_links, hidden_pairs}
use Rattle.do_parse.proofs.made.record.Goals as goal

pub returns : goal.returns
returns c = subst (λ x. IsMade expr_at (tree.rec c.args.at x) c.share.result) (hidden_pairs c.args.pairs) c.share.ensures
