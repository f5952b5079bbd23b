-- The parts of nodes that keep lists, from a place on (places are counted from 0).
use Rattle.std.specs.Prelude.{ℕ, zero, suc, List, [], ◌∷◌, drop, Option, Some, None}
use Rattle.do_value.specs.Seen.{tree_of}
use Rattle.do_value.specs.Tree.{Tree}
use Rattle.do_value.specs.declared.value.Value.{Value}
use Rattle.do_tree.specs.Nodes.{option_expr_in, with_arg, with_link}
use Rattle.do_tree.specs.Seen.{expr_of, named_of}
use Rattle.do_tree.specs.Tree.{Named, Expr, Exprs, no_exprs, expr, Operands, no_operands, operand, Links, no_links, field, index, call, Args, no_args, value_arg, callback, Pairs, no_pairs, pair, lazy, strict, path, group, list, rec, undefined, variable, Items, no_items, declare, statement, Stmt, for, for_of, try, break, Simple, run}
use Rattle.do_tree.specs.declared.expr.Arg.{Arg}
use Rattle.do_tree.specs.declared.expr.Link.{Link}
use Rattle.do_tree.specs.declared.expr.Chain.{Chain}
use Rattle.do_tree.specs.declared.expr.Chain.TheVariants as chain
use Rattle.script_steps.specs.declared.node.NextExpr.{NextExpr}
use Rattle.script_steps.specs.declared.node.NextOperand.{NextOperand}
use Rattle.script_steps.specs.declared.node.NextPair.{NextPair}

-- The operands of a chain behind the first, or the items of a list.
abbrev pub exprs_of : Expr → Exprs
exprs_of (lazy at k e es) = es
exprs_of (list at es) = es
exprs_of _ = no_exprs

-- Which chain an expression is.
abbrev pub chain_of : Expr → Chain
chain_of (lazy at k e es) = k
chain_of _ = chain.And

-- The operands of a chain of operators behind the first.
abbrev pub operands_of : Expr → Operands
operands_of (strict at e os) = os
operands_of _ = no_operands

-- The pairs of a record.
abbrev pub pairs_of : Expr → Pairs
pairs_of (rec at ps) = ps
pairs_of _ = no_pairs

-- The name that an expression is.
abbrev pub name_of : Expr → Option (List ℕ)
name_of (variable n) = Some n.text
name_of _ = None

-- The expressions of a chain or a list from a place on.
abbrev pub exprs_from : ℕ → Exprs → Exprs
exprs_from zero es = es
exprs_from (suc n) no_exprs = no_exprs
exprs_from (suc n) (expr e es) = exprs_from n es

-- The operands of a chain of operators from a place on.
abbrev pub operands_from : ℕ → Operands → Operands
operands_from zero os = os
operands_from (suc n) no_operands = no_operands
operands_from (suc n) (operand o e os) = operands_from n os

-- The pairs of a record from a place on.
abbrev pub pairs_from : ℕ → Pairs → Pairs
pairs_from zero ps = ps
pairs_from (suc n) no_pairs = no_pairs
pairs_from (suc n) (pair name e ps) = pairs_from n ps

-- The expression that was found, and those behind it; or none.
abbrev pub with_expr : Option NextExpr → Exprs → Exprs
with_expr None es = no_exprs
with_expr (Some found) es = expr (expr_of found.expr.value) (exprs_from found.next es)

-- The operand that was found, and those behind it; or none.
abbrev pub with_operand : Option NextOperand → Operands → Operands
with_operand None os = no_operands
with_operand (Some found) os = operand found.op (expr_of found.expr.value) (operands_from found.next os)

-- The pair that was found, and those behind it; or none.
abbrev pub with_pair : Option NextPair → Pairs → Pairs
with_pair None ps = no_pairs
with_pair (Some found) ps = pair (named_of found.key) (option_expr_in found.value) (pairs_from found.next ps)

-- The name that a loop binds.
abbrev pub name_in : Stmt → List ℕ
name_in (for at n e test p s) = n.text
name_in (for_of at b n e s) = n.text
name_in _ = []

-- The body of a loop.
abbrev pub body_in : Stmt → Stmt
body_in (for at n e test p s) = s
body_in (for_of at b n e s) = s
body_in _ = break 0

-- The test of a counting loop.
abbrev pub test_in : Stmt → Expr
test_in (for at n e test p s) = test
test_in _ = undefined 0

-- The step of a counting loop.
abbrev pub step_in : Stmt → Simple
step_in (for at n e test p s) = p
step_in _ = run 0 (undefined 0)

-- The name of what a `try` catches.
abbrev pub caught_in : Stmt → Option Named
caught_in (try at is n handler) = n
caught_in _ = None

-- The handler of a `try`.
abbrev pub handler_in : Stmt → Items
handler_in (try at is n handler) = handler
handler_in _ = no_items

-- The items of a block from a place on.
abbrev pub items_from : ℕ → Items → Items
items_from zero is = is
items_from (suc n) no_items = no_items
items_from (suc n) (declare at b name e is) = items_from n is
items_from (suc n) (statement s is) = items_from n is

-- The name that the first of the items declares.
abbrev pub declared_in : Items → List ℕ
declared_in (declare at b name e is) = name.text
declared_in _ = []

-- The item of a list that was found, and those behind it; or none.
abbrev pub with_item : Option (Value × ℕ) → List Tree → List Tree
with_item None ts = []
with_item (Some found) ts = tree_of found.0 ∷ drop found.1 ts

-- The links of a path.
abbrev pub links_of : Expr → Links
links_of (path at e ls) = ls
links_of _ = no_links

-- The links of a path from a place on.
abbrev pub links_from : ℕ → Links → Links
links_from zero ls = ls
links_from (suc n) no_links = no_links
links_from (suc n) (field name ls) = links_from n ls
links_from (suc n) (index at e ls) = links_from n ls
links_from (suc n) (call at args ls) = links_from n ls

-- The arguments of the first of the links, if it is a call.
abbrev pub args_of : Links → Args
args_of (call at args ls) = args
args_of _ = no_args

-- The arguments of a call from a place on.
abbrev pub args_from : ℕ → Args → Args
args_from zero args = args
args_from (suc n) no_args = no_args
args_from (suc n) (value_arg e args) = args_from n args
args_from (suc n) (callback at name is args) = args_from n args

-- The parts of paths in an expression: its links from a place on, and the arguments of one of them from a place on.
abbrev pub links_in : Expr → ℕ → Links
links_in e n = links_from n (links_of e)

abbrev pub args_in : Expr → ℕ → ℕ → Args
args_in e n k = args_from k (args_of (links_in e n))

-- An expression that has something of its own besides the one in it.
abbrev pub IsBare : Expr → Type 0
IsBare (group at e) = ⊥
IsBare (lazy at k e no_exprs) = ⊥
IsBare (strict at e no_operands) = ⊥
IsBare _ = Unit {0}

-- A bound on how often what stands around an expression can be taken off.
abbrev pub coats : Expr → ℕ
coats (group at e) = suc (coats e)
coats (lazy at k e es) = suc (coats e)
coats (strict at e os) = suc (coats e)
coats _ = 0

-- One that is no path.
abbrev pub IsPlain : Expr → Type 0
IsPlain (path at e ls) = ⊥
IsPlain e = IsBare e

-- A link that was found, and those behind it; or none.
abbrev pub with_next : Option Link → Links → Links
with_next None ls = no_links
with_next (Some l) ls = with_link l ls

-- An argument that was found, and those behind it; or none.
abbrev pub with_next_arg : Option Arg → Args → Args
with_next_arg None args = no_args
with_next_arg (Some a) args = with_arg a args
