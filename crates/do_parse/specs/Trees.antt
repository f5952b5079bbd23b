-- The trees of the nodes that the parser makes, and of lists of them.
use Rattle.std.specs.Prelude.{ℕ, List, map, Option, Some, None}
use Rattle.std.specs.declared.alloc.Global.{Global}
use Rattle.std.specs.declared.sync.Arc.{Arc}
use Rattle.do_tree.specs.Seen.{named_of, option_named_of, expr_of, stmt_of, option_expr_of, items_of, args_of}
use Rattle.do_tree.specs.Tree as tree
use Rattle.do_tree.specs.declared.expr.Expr.{Expr}
use Rattle.do_tree.specs.declared.stmt.Stmt.{Stmt}
use Rattle.do_tree.specs.declared.stmt.Block.{Block}
use Rattle.do_tree.specs.declared.expr.Operand.{Operand}
use Rattle.do_tree.specs.declared.expr.Link.{Link}
use Rattle.do_tree.specs.declared.expr.Arg.{Arg}
use Rattle.do_tree.specs.declared.expr.Pair.{Pair}
use Rattle.do_tree.specs.declared.stmt.Item.{Item}
use Rattle.do_tree.specs.declared.stmt.Block.{Block}
use Rattle.do_tree.specs.declared.expr.Arg.TheBlock as node
use Rattle.do_tree.specs.declared.stmt.Simple.{Simple}
use Rattle.do_tree.specs.declared.stmt.Write.{Write}
use Rattle.do_parse.specs.Lists as lists
use Rattle.do_parse.specs.declared.script.ClassHead.{ClassHead}
use Rattle.do_parse.specs.declared.script.Signature.{Signature}
use Rattle.do_tree.specs.declared.script.Name.{Name}
use Rattle.do_parse.specs.Pieces.{Blocked, Bound, ClassNamed, Signed, Written, nothing, value, sum, difference, one_more, one_less, simple_from}
use Rattle.do_parse.specs.declared.loops.ForHead.{ForHead}
use Rattle.do_parse.specs.declared.unary.CallbackHead.{CallbackHead}

abbrev pub expr_at : Arc Expr Global → tree.Expr
expr_at a = expr_of a.value

abbrev pub stmt_at : Arc Stmt Global → tree.Stmt
stmt_at a = stmt_of a.value

abbrev pub option_expr_at : Option (Arc Expr Global) → tree.OptionExpr
option_expr_at None = tree.no_expr
option_expr_at (Some a) = tree.some_expr (expr_at a)

abbrev pub option_stmt_at : Option (Arc Stmt Global) → tree.OptionStmt
option_stmt_at None = tree.no_stmt
option_stmt_at (Some a) = tree.some_stmt (stmt_at a)

abbrev pub exprs_at : List (Arc Expr Global) → List tree.Expr
exprs_at as_ = map expr_at as_

abbrev pub operand_at : Operand → lists.Operand
operand_at o = record { op = o.op; value = expr_at o.value }

abbrev pub operands_at : List Operand → List lists.Operand
operands_at os = map operand_at os

-- One step of a path, one argument, one pair, one item.
abbrev pub link_of : Link → lists.Link
link_of (node.Field n) = lists.field (named_of n)
link_of (node.Index' at _ e) = lists.index at (expr_of e)
link_of (node.Call' at _ args) = lists.call at (args_of args)

abbrev pub links_at : List Link → List lists.Link
links_at ls = map link_of ls

abbrev pub arg_of : Arg → lists.Arg
arg_of (node.Arg::Value' _ e) = lists.value (expr_of e)
arg_of (node.Callback' _ (node.struct-Callback at n _ _ _ body)) = lists.callback at (option_named_of n) (items_of body)

abbrev pub args_at : List Arg → List lists.Arg
args_at as_ = map arg_of as_

abbrev pub pair_of : Pair → lists.Pair
pair_of p = record { key = named_of p.key; value = option_expr_at p.value }

abbrev pub pairs_at : List Pair → List lists.Pair
pairs_at ps = map pair_of ps

abbrev pub item_of : Item → lists.Item
item_of (node.Declare' at binding n given) = lists.declare at binding (named_of n) (option_expr_of given)
item_of (node.Stmt' _ s) = lists.statement (stmt_of s)

abbrev pub items_at : List Item → List lists.Item
items_at is = map item_of is

-- A block, what is written to a place, an expression that is run.
abbrev pub block_at : Arc Block Global → Blocked
block_at a = record { at = a.value.at; items = lists.items_from (items_at a.value.items.items) }

abbrev pub written_of : Write → Written
written_of node.Nothing = nothing
written_of (node.Write::Value' _ e) = value (expr_of e)
written_of (node.Sum' _ e) = sum (expr_of e)
written_of (node.Difference' _ e) = difference (expr_of e)
written_of node.OneMore = one_more
written_of node.OneLess = one_less

abbrev pub simple_at : Arc Simple Global → tree.Simple
simple_at a = simple_from (written_of a.value.write) a.value.at (expr_at a.value.place)

-- The first tokens of a callback and of a loop.
abbrev pub head_of : CallbackHead → ℕ × Option tree.Named
head_of h = (h.at, option_named_of h.parameter)

abbrev pub bound_of : ForHead → Bound
bound_of h = record { at = h.at; binding = h.binding; name = named_of h.name }

abbrev pub class_head_of : ClassHead → ClassNamed
class_head_of h = record { at = h.at; name = named_of h.name }

abbrev pub names_at : List Name → List tree.Named
names_at ns = map named_of ns

abbrev pub signature_of : Signature → Signed
signature_of s = record { name = named_of s.name; parameters = names_at s.parameters.items }
