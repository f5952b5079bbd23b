use Rattle.std.proofs.Common.{subst}
use Rattle.do_tree.specs.Tree as tree
use Rattle.do_parse.specs.Then.{IsMade}
use Rattle.do_parse.specs.Trees.{expr_at}
use Rattle.do_parse.proofs.Rows.{hidden_exprs, hidden_operands, hidden_links, hidden_pairs}
use Rattle.do_parse.proofs.made.lazy.Goals as goal

pub returns : goal.returns
returns c = subst (λ x. IsMade expr_at (tree.lazy c.args.at c.args.chain (expr_at c.args.first) x) c.share.result) (hidden_exprs c.args.rest) c.share.ensures
