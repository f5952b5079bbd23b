-- The trees of nodes whose parts stand in lists, by these lists.
use Rattle.std.proofs.Common.{◌≡◌, ℕ, List, [], ◌∷◌, map, Option, Some, None, refl, sym, ap, ◌∙◌}
use Rattle.std.specs.declared.sync.Arc.{Arc}
use Rattle.std.specs.declared.vec.Vec.{Vec}
use Rattle.std.specs.declared.alloc.Global.{Global}
use Rattle.do_tree.specs.Seen.{args_of, expr_of, exprs_of, items_of, links_of, named_of, operands_of, option_expr_of, option_named_of, pairs_of, stmt_of, with_item}
use Rattle.do_tree.specs.Tree as tree
use Rattle.do_tree.specs.declared.expr.Arg.TheBlock as node
use Rattle.do_tree.specs.declared.expr.Expr.{Expr}
use Rattle.do_tree.specs.declared.expr.Operand.{Operand}
use Rattle.do_tree.specs.declared.expr.Link.{Link}
use Rattle.do_tree.specs.declared.expr.Arg.{Arg}
use Rattle.do_tree.specs.declared.expr.Pair.{Pair}
use Rattle.do_tree.specs.declared.expr.Callback.{Callback, is-Callback', out-Callback}
use Rattle.do_tree.specs.declared.expr.Arg.TheVariants as arg
use Rattle.do_tree.specs.declared.stmt.Item.{Item}
use Rattle.do_parse.specs.Lists.{exprs_from, operands_from, links_from, args_from, pairs_from, items_from}
use Rattle.do_parse.specs.Lists as lists
use Rattle.do_parse.specs.Trees.{exprs_at, operands_at, links_at, args_at, arg_of, pairs_at, items_at, option_expr_at}

exprs_row : (n : _) (row : node.Row_of-Expr-Lazy-3-1 n) → exprs_of row ≡ exprs_from (exprs_at (node.items-the_row-Expr-Lazy-3-1 n row))
exprs_row n node.end_of-Expr-Lazy-3-1 = refl
exprs_row n (node.more_of-Expr-Lazy-3-1 p e rest) = ap (tree.expr (expr_of e)) (exprs_row _ rest)

operands_row : (n : _) (row : node.Row_of-Operand n) → operands_of row ≡ operands_from (operands_at (node.items-the_row-Operand n row))
operands_row n node.end_of-Operand = refl
operands_row n (node.more_of-Operand o p e rest) = ap (tree.operand o (expr_of e)) (operands_row _ rest)

links_row : (n : _) (row : node.Row_of-Link n) → links_of row ≡ links_from (links_at (node.items-the_row-Link n row))
links_row n node.end_of-Link = refl
links_row n (node.more_of-Link (node.Field m) rest) = ap (tree.field (named_of m)) (links_row _ rest)
links_row n (node.more_of-Link (node.Index' at p e) rest) = ap (tree.index at (expr_of e)) (links_row _ rest)
links_row n (node.more_of-Link (node.Call' at s args) rest) = ap (tree.call at (args_of args)) (links_row _ rest)

args_row : (n : _) (row : node.Row_of-Arg n) → args_of row ≡ args_from (args_at (node.items-the_row-Arg n row))
args_row n node.end_of-Arg = refl
args_row n (node.more_of-Arg (node.Arg::Value' p e) rest) = ap (tree.value_arg (expr_of e)) (args_row _ rest)
args_row n (node.more_of-Arg (node.Callback' p (node.struct-Callback at m q b s body)) rest) = ap (tree.callback at (option_named_of m) (items_of body)) (args_row _ rest)

option_held : (h : node.Held-Expr-NewError-1) → option_expr_of h ≡ option_expr_at (node.view-Expr-NewError-1 h)
option_held node.Expr-NewError-1-None' = refl
option_held (node.Expr-NewError-1-Some' p e) = refl

pairs_row : (n : _) (row : node.Row_of-Pair n) → pairs_of row ≡ pairs_from (pairs_at (node.items-the_row-Pair n row))
pairs_row n node.end_of-Pair = refl
pairs_row n (node.more_of-Pair key v rest) =
    ap (λ w. tree.pair (named_of key) w (pairs_of rest)) (option_held v) ∙ ap (tree.pair (named_of key) (option_expr_at (node.view-Expr-NewError-1 v))) (pairs_row _ rest)

items_row : (n : _) (row : node.Row_of-Item n) → items_of row ≡ items_from (items_at (node.items-the_row-Item n row))
items_row n node.end_of-Item = refl
items_row n (node.more_of-Item (node.Declare' at b m v) rest) = ap (tree.declare at b (named_of m) (option_expr_of v)) (items_row _ rest)
items_row n (node.more_of-Item (node.Stmt' p s) rest) = ap (tree.statement (stmt_of s)) (items_row _ rest)

-- The same at the list that a node keeps.
pub hidden_exprs : (v : Vec (Arc Expr Global) Global) → exprs_of (node.hidden-the_row-Expr-Lazy-3-1-0 v) ≡ exprs_from (exprs_at v.items)
hidden_exprs v = exprs_row _ (node.hidden-the_row-Expr-Lazy-3-1-0 v) ∙ ap (λ xs. exprs_from (exprs_at xs)) (node.items_hidden-the_row-Expr-Lazy-3-1-0 v)

pub hidden_operands : (v : Vec Operand Global) → operands_of (node.hidden-the_row-Operand-1 v) ≡ operands_from (operands_at v.items)
hidden_operands v = operands_row _ (node.hidden-the_row-Operand-1 v) ∙ ap (λ xs. operands_from (operands_at xs)) (node.items_hidden-the_row-Operand-1 v)

pub hidden_links : (v : Vec Link Global) → links_of (node.hidden-the_row-Link-2 v) ≡ links_from (links_at v.items)
hidden_links v = links_row _ (node.hidden-the_row-Link-2 v) ∙ ap (λ xs. links_from (links_at xs)) (node.items_hidden-the_row-Link-2 v)

pub hidden_pairs : (v : Vec Pair Global) → pairs_of (node.hidden-the_row-Pair-3 v) ≡ pairs_from (pairs_at v.items)
hidden_pairs v = pairs_row _ (node.hidden-the_row-Pair-3 v) ∙ ap (λ xs. pairs_from (pairs_at xs)) (node.items_hidden-the_row-Pair-3 v)

pub hidden_args : (v : Vec Arg Global) → args_of (node.hidden-the_row-Arg-4 v) ≡ args_from (args_at v.items)
hidden_args v = args_row _ (node.hidden-the_row-Arg-4 v) ∙ ap (λ xs. args_from (args_at xs)) (node.items_hidden-the_row-Arg-4 v)

pub hidden_items : (v : Vec Item Global) → items_of (node.hidden-the_row-Item-5 v) ≡ items_from (items_at v.items)
hidden_items v = items_row _ (node.hidden-the_row-Item-5 v) ∙ ap (λ xs. items_from (items_at xs)) (node.items_hidden-the_row-Item-5 v)

pub hidden_option : (o : Option (Arc Expr Global)) → option_expr_of (node.back-Expr-NewError-1 o) ≡ option_expr_at o
hidden_option None = refl
hidden_option (Some e) = refl

-- The lists that vectors hold.
abbrev pub vec_exprs : Vec (Arc Expr Global) Global → List tree.Expr
vec_exprs v = exprs_at v.items

abbrev pub vec_operands : Vec Operand Global → List lists.Operand
vec_operands v = operands_at v.items

abbrev pub vec_links : Vec Link Global → List lists.Link
vec_links v = links_at v.items

abbrev pub vec_args : Vec Arg Global → List lists.Arg
vec_args v = args_at v.items

abbrev pub vec_pairs : Vec Pair Global → List lists.Pair
vec_pairs v = pairs_at v.items

-- A callback by its fields.
pub seen_callback : (cb : Callback) (p : _) → arg_of (node.Callback' p cb) ≡ lists.callback (out-Callback cb).at (option_named_of (out-Callback cb).parameter) (items_from (items_at (out-Callback cb).body.value.items.items))
seen_callback cb p =
    ap (λ x. arg_of (node.Callback' p x)) (is-Callback' cb)
    ∙ ap (λ x. lists.callback (out-Callback cb).at (option_named_of (out-Callback cb).parameter) x) (hidden_items (out-Callback cb).body.value.items)

pub seen_arg : (a : Arc Callback Global) → arg_of (arg.Callback a) ≡ lists.callback (out-Callback a.value).at (option_named_of (out-Callback a.value).parameter) (items_from (items_at (out-Callback a.value).body.value.items.items))
seen_arg a = seen_callback a.value (record { ptr = a.ptr; value = tt })
