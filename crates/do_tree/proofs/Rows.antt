-- The trees of nodes whose parts stand in lists, by these lists.
use Rattle.std.proofs.Common.{◌≡◌, ℕ, List, Option, Some, None, refl, sym, ap, ◌∙◌}
use Rattle.std.specs.declared.sync.Arc.{Arc}
use Rattle.std.specs.declared.vec.Vec.{Vec}
use Rattle.std.specs.declared.alloc.Global.{Global}
use Rattle.do_tree.specs.Nodes.{args_in, block_in, exprs_in, links_in, operands_in, option_expr_in, option_stmt_in, pairs_in, simple_of, with_arg, with_link}
use Rattle.do_tree.specs.Seen.{args_of, expr_of, exprs_of, items_in, items_of, links_of, named_of, operands_of, option_expr_of, option_named_of, option_stmt_of, pairs_of, stmt_of, with_item}
use Rattle.do_tree.specs.Tree as tree
use Rattle.do_tree.specs.declared.expr.Arg.TheBlock as node
use Rattle.do_tree.specs.declared.expr.Callback.{Callback, is-Callback', out-Callback}
use Rattle.do_tree.specs.declared.expr.Expr.{Expr}
use Rattle.do_tree.specs.declared.expr.Operand.{Operand}
use Rattle.do_tree.specs.declared.expr.Link.{Link}
use Rattle.do_tree.specs.declared.expr.Arg.{Arg}
use Rattle.do_tree.specs.declared.expr.Arg.TheVariants as arg
use Rattle.do_tree.specs.declared.expr.Pair.{Pair}
use Rattle.do_tree.specs.declared.stmt.Item.{Item}

exprs_row : (n : _) (row : node.Row_of-Expr-Lazy-3-1 n) → exprs_of row ≡ exprs_in (node.items-the_row-Expr-Lazy-3-1 n row)
exprs_row n node.end_of-Expr-Lazy-3-1 = refl
exprs_row n (node.more_of-Expr-Lazy-3-1 p e rest) = ap (tree.expr (expr_of e)) (exprs_row _ rest)

operands_row : (n : _) (row : node.Row_of-Operand n) → operands_of row ≡ operands_in (node.items-the_row-Operand n row)
operands_row n node.end_of-Operand = refl
operands_row n (node.more_of-Operand o p e rest) = ap (tree.operand o (expr_of e)) (operands_row _ rest)

links_row : (n : _) (row : node.Row_of-Link n) → links_of row ≡ links_in (node.items-the_row-Link n row)
links_row n node.end_of-Link = refl
links_row n (node.more_of-Link (node.Field m) rest) = ap (tree.field (named_of m)) (links_row _ rest)
links_row n (node.more_of-Link (node.Index' at p e) rest) = ap (tree.index at (expr_of e)) (links_row _ rest)
links_row n (node.more_of-Link (node.Call' at s args) rest) = ap (tree.call at (args_of args)) (links_row _ rest)

args_row : (n : _) (row : node.Row_of-Arg n) → args_of row ≡ args_in (node.items-the_row-Arg n row)
args_row n node.end_of-Arg = refl
args_row n (node.more_of-Arg (node.Arg::Value' p e) rest) = ap (tree.value_arg (expr_of e)) (args_row _ rest)
args_row n (node.more_of-Arg (node.Callback' p (node.struct-Callback at m q b s body)) rest) = ap (tree.callback at (option_named_of m) (items_of body)) (args_row _ rest)

option_held : (h : node.Held-Expr-NewError-1) → option_expr_of h ≡ option_expr_in (node.view-Expr-NewError-1 h)
option_held node.Expr-NewError-1-None' = refl
option_held (node.Expr-NewError-1-Some' p e) = refl

pairs_row : (n : _) (row : node.Row_of-Pair n) → pairs_of row ≡ pairs_in (node.items-the_row-Pair n row)
pairs_row n node.end_of-Pair = refl
pairs_row n (node.more_of-Pair key v rest) =
    ap (λ w. tree.pair (named_of key) w (pairs_of rest)) (option_held v) ∙ ap (tree.pair (named_of key) (option_expr_in (node.view-Expr-NewError-1 v))) (pairs_row _ rest)

items_row : (n : _) (row : node.Row_of-Item n) → items_of row ≡ items_in (node.items-the_row-Item n row)
items_row n node.end_of-Item = refl
items_row n (node.more_of-Item item rest) = ap (with_item item) (items_row _ rest)

-- The same at the list that a node keeps.
pub hidden_exprs : (v : Vec (Arc Expr Global) Global) → exprs_of (node.hidden-the_row-Expr-Lazy-3-1-0 v) ≡ exprs_in v.items
hidden_exprs v = exprs_row _ (node.hidden-the_row-Expr-Lazy-3-1-0 v) ∙ ap exprs_in (node.items_hidden-the_row-Expr-Lazy-3-1-0 v)

pub hidden_operands : (v : Vec Operand Global) → operands_of (node.hidden-the_row-Operand-1 v) ≡ operands_in v.items
hidden_operands v = operands_row _ (node.hidden-the_row-Operand-1 v) ∙ ap operands_in (node.items_hidden-the_row-Operand-1 v)

pub hidden_links : (v : Vec Link Global) → links_of (node.hidden-the_row-Link-2 v) ≡ links_in v.items
hidden_links v = links_row _ (node.hidden-the_row-Link-2 v) ∙ ap links_in (node.items_hidden-the_row-Link-2 v)

pub hidden_pairs : (v : Vec Pair Global) → pairs_of (node.hidden-the_row-Pair-3 v) ≡ pairs_in v.items
hidden_pairs v = pairs_row _ (node.hidden-the_row-Pair-3 v) ∙ ap pairs_in (node.items_hidden-the_row-Pair-3 v)

pub hidden_args : (v : Vec Arg Global) → args_of (node.hidden-the_row-Arg-4 v) ≡ args_in v.items
hidden_args v = args_row _ (node.hidden-the_row-Arg-4 v) ∙ ap args_in (node.items_hidden-the_row-Arg-4 v)

pub hidden_items : (v : Vec Item Global) → items_of (node.hidden-the_row-Item-5 v) ≡ items_in v.items
hidden_items v = items_row _ (node.hidden-the_row-Item-5 v) ∙ ap items_in (node.items_hidden-the_row-Item-5 v)

pub hidden_option : (o : Option (Arc Expr Global)) → option_expr_of (node.back-Expr-NewError-1 o) ≡ option_expr_in o
hidden_option None = refl
hidden_option (Some e) = refl

-- A callback by its fields.
pub seen_callback : (cb : Callback) (p : _) (rest : tree.Args)
    → with_arg (node.Callback' p cb) rest ≡ tree.callback (out-Callback cb).at (option_named_of (out-Callback cb).parameter) (block_in (out-Callback cb).body.value) rest
seen_callback cb p rest =
    ap (λ x. with_arg (node.Callback' p x) rest) (is-Callback' cb)
    ∙ ap (λ x. tree.callback (out-Callback cb).at (option_named_of (out-Callback cb).parameter) x rest) (hidden_items (out-Callback cb).body.value.items)

pub seen_arg : (a : Arc Callback Global) (rest : tree.Args)
    → with_arg (arg.Callback a) rest ≡ tree.callback (out-Callback a.value).at (option_named_of (out-Callback a.value).parameter) (block_in (out-Callback a.value).body.value) rest
seen_arg a rest = seen_callback a.value (record { ptr = a.ptr; value = tt }) rest
