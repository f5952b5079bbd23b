-- The trees of the nodes that stand in lists.
use Rattle.std.specs.Prelude.{List, [], ◌∷◌, Option, Some, None}
use Rattle.std.specs.declared.sync.Arc.{Arc}
use Rattle.std.specs.declared.alloc.Global.{Global}
use Rattle.do_tree.specs.Seen.{named_of, option_named_of, expr_of, args_of, items_of, items_in, stmt_of, write_of}
use Rattle.do_tree.specs.Tree as tree
use Rattle.do_tree.specs.declared.expr.Expr.{Expr}
use Rattle.do_tree.specs.declared.expr.Link.{Link}
use Rattle.do_tree.specs.declared.expr.Arg.{Arg}
use Rattle.do_tree.specs.declared.expr.Operand.{Operand}
use Rattle.do_tree.specs.declared.expr.Pair.{Pair}
use Rattle.do_tree.specs.declared.stmt.Block.{Block}
use Rattle.do_tree.specs.declared.stmt.Simple.{Simple}
use Rattle.do_tree.specs.declared.stmt.Stmt.{Stmt}
use Rattle.do_tree.specs.declared.expr.Arg.TheBlock as node

abbrev pub exprs_in : List (Arc Expr Global) → tree.Exprs
exprs_in [] = tree.no_exprs
exprs_in (e ∷ rest) = tree.expr (expr_of e.value) (exprs_in rest)

abbrev pub operands_in : List Operand → tree.Operands
operands_in [] = tree.no_operands
operands_in (o ∷ rest) = tree.operand o.op (expr_of o.value.value) (operands_in rest)

abbrev pub with_link : Link → tree.Links → tree.Links
with_link (node.Field n) rest = tree.field (named_of n) rest
with_link (node.Index' at _ e) rest = tree.index at (expr_of e) rest
with_link (node.Call' at _ args) rest = tree.call at (args_of args) rest

abbrev pub links_in : List Link → tree.Links
links_in [] = tree.no_links
links_in (l ∷ rest) = with_link l (links_in rest)

abbrev pub with_arg : Arg → tree.Args → tree.Args
with_arg (node.Arg::Value' _ e) rest = tree.value_arg (expr_of e) rest
with_arg (node.Callback' _ (node.struct-Callback at n _ _ _ body)) rest = tree.callback at (option_named_of n) (items_of body) rest

abbrev pub args_in : List Arg → tree.Args
args_in [] = tree.no_args
args_in (a ∷ rest) = with_arg a (args_in rest)

abbrev pub option_expr_in : Option (Arc Expr Global) → tree.OptionExpr
option_expr_in None = tree.no_expr
option_expr_in (Some e) = tree.some_expr (expr_of e.value)

abbrev pub option_stmt_in : Option (Arc Stmt Global) → tree.OptionStmt
option_stmt_in None = tree.no_stmt
option_stmt_in (Some s) = tree.some_stmt (stmt_of s.value)

abbrev pub pairs_in : List Pair → tree.Pairs
pairs_in [] = tree.no_pairs
pairs_in (p ∷ rest) = tree.pair (named_of p.key) (option_expr_in p.value) (pairs_in rest)

abbrev pub block_in : Block → tree.Items
block_in b = items_in b.items.items

abbrev pub simple_of : Simple → tree.Simple
simple_of p = write_of p.write p.at (expr_of p.place.value)
