-- The tree that a script's nodes are, without where they lie in memory.
use Rattle.std.specs.Prelude.{ℕ, List, [], ◌∷◌, map, Option, Some, None}
use Rattle.do_tree.specs.Tree as tree
use Rattle.do_tree.specs.Tree.{Named}
use Rattle.do_tree.specs.declared.script.Name.{Name}
use Rattle.do_tree.specs.declared.script.Method.{Method}
use Rattle.do_tree.specs.declared.script.Class.{Class}
use Rattle.do_tree.specs.declared.script.Script.{Script}
use Rattle.do_tree.specs.declared.expr.Expr.{Expr}
use Rattle.do_tree.specs.declared.expr.Link.{Link}
use Rattle.do_tree.specs.declared.expr.Arg.{Arg}
use Rattle.do_tree.specs.declared.expr.Callback.{Callback}
use Rattle.do_tree.specs.declared.stmt.Block.{Block}
use Rattle.do_tree.specs.declared.stmt.Item.{Item}
use Rattle.do_tree.specs.declared.stmt.Stmt.{Stmt}
use Rattle.do_tree.specs.declared.stmt.Write.{Write}
use Rattle.do_tree.specs.declared.expr.Arg.TheBlock as node

abbrev pub named_of : Name → Named
named_of n = record { at = n.at; text = n.text }

abbrev pub option_named_of : Option Name → Option Named
option_named_of None = None
option_named_of (Some n) = Some (named_of n)

abbrev mutual
  pub expr_of : Expr → tree.Expr
  expr_of (node.Choice' at _ test _ a _ b) = tree.choice at (expr_of test) (expr_of a) (expr_of b)
  expr_of (node.Lazy' at chain _ first _ rest) = tree.lazy at chain (expr_of first) (exprs_of rest)
  expr_of (node.Strict' at _ first _ rest) = tree.strict at (expr_of first) (operands_of rest)
  expr_of (node.Unary' at op _ value) = tree.unary at op (expr_of value)
  expr_of (node.Await' at _ value) = tree.await at (expr_of value)
  expr_of (node.Path' at _ base _ links) = tree.path at (expr_of base) (links_of links)
  expr_of (node.Number at value) = tree.number at value
  expr_of (node.Text at value) = tree.text at value
  expr_of (node.Bool at value) = tree.boolean at value
  expr_of (node.Null at) = tree.null at
  expr_of (node.Undefined at) = tree.undefined at
  expr_of (node.This at) = tree.this at
  expr_of (node.Variable n) = tree.variable (named_of n)
  expr_of (node.Group' at _ inside) = tree.group at (expr_of inside)
  expr_of (node.List' at _ items) = tree.list at (exprs_of items)
  expr_of (node.Record' at _ pairs) = tree.rec at (pairs_of pairs)
  expr_of (node.NewError' at message) = tree.new_error at (option_expr_of message)

  pub option_expr_of : node.Held-Expr-NewError-1 → tree.OptionExpr
  option_expr_of node.Expr-NewError-1-None' = tree.no_expr
  option_expr_of (node.Expr-NewError-1-Some' _ e) = tree.some_expr (expr_of e)

  pub exprs_of : {m : _} → node.Row_of-Expr-Lazy-3-1 m → tree.Exprs
  exprs_of node.end_of-Expr-Lazy-3-1 = tree.no_exprs
  exprs_of (node.more_of-Expr-Lazy-3-1 _ e rest) = tree.expr (expr_of e) (exprs_of rest)

  pub operands_of : {m : _} → node.Row_of-Operand m → tree.Operands
  operands_of node.end_of-Operand = tree.no_operands
  operands_of (node.more_of-Operand op _ e rest) = tree.operand op (expr_of e) (operands_of rest)

  pub links_of : {m : _} → node.Row_of-Link m → tree.Links
  links_of node.end_of-Link = tree.no_links
  links_of (node.more_of-Link (node.Field n) rest) = tree.field (named_of n) (links_of rest)
  links_of (node.more_of-Link (node.Index' at _ e) rest) = tree.index at (expr_of e) (links_of rest)
  links_of (node.more_of-Link (node.Call' at _ args) rest) = tree.call at (args_of args) (links_of rest)

  pub args_of : {m : _} → node.Row_of-Arg m → tree.Args
  args_of node.end_of-Arg = tree.no_args
  args_of (node.more_of-Arg (node.Arg::Value' _ e) rest) = tree.value_arg (expr_of e) (args_of rest)
  args_of (node.more_of-Arg (node.Callback' _ (node.struct-Callback at n _ _ _ body)) rest) =
      tree.callback at (option_named_of n) (items_of body) (args_of rest)

  pub pairs_of : {m : _} → node.Row_of-Pair m → tree.Pairs
  pairs_of node.end_of-Pair = tree.no_pairs
  pairs_of (node.more_of-Pair key value rest) = tree.pair (named_of key) (option_expr_of value) (pairs_of rest)

  pub items_of : {m : _} → node.Row_of-Item m → tree.Items
  items_of node.end_of-Item = tree.no_items
  items_of (node.more_of-Item item rest) = with_item item (items_of rest)

  pub with_item : Item → tree.Items → tree.Items
  with_item (node.Declare' at binding n value) rest = tree.declare at binding (named_of n) (option_expr_of value) rest
  with_item (node.Stmt' _ s) rest = tree.statement (stmt_of s) rest

  pub stmt_of : Stmt → tree.Stmt
  stmt_of (node.Block' _ at _ items) = tree.block at (items_of items)
  stmt_of (node.If' at _ test _ s other) = tree.choose at (expr_of test) (stmt_of s) (option_stmt_of other)
  stmt_of (node.While' at _ test _ body) = tree.while at (expr_of test) (stmt_of body)
  stmt_of (node.For' at n _ first _ test _ step_at _ place write _ body) =
      tree.for at (named_of n) (expr_of first) (expr_of test) (write_of write step_at (expr_of place)) (stmt_of body)
  stmt_of (node.ForOf' at binding n _ list _ body) = tree.for_of at binding (named_of n) (expr_of list) (stmt_of body)
  stmt_of (node.Try' at _ _ _ body n _ _ _ handler) = tree.try at (items_of body) (option_named_of n) (items_of handler)
  stmt_of (node.Throw' at _ value) = tree.throw at (expr_of value)
  stmt_of (node.Return' at value) = tree.return at (option_expr_of value)
  stmt_of (node.Break at) = tree.break at
  stmt_of (node.Continue at) = tree.continue at
  stmt_of (node.Simple' _ at _ place write) = tree.simple (write_of write at (expr_of place))

  pub option_stmt_of : node.Held-Stmt-If-3 → tree.OptionStmt
  option_stmt_of node.Stmt-If-3-None' = tree.no_stmt
  option_stmt_of (node.Stmt-If-3-Some' _ s) = tree.some_stmt (stmt_of s)

  -- What is written to a place.
  pub write_of : Write → ℕ → tree.Expr → tree.Simple
  write_of node.Nothing at place = tree.run at place
  write_of (node.Write::Value' _ e) at place = tree.assign at place (expr_of e)
  write_of (node.Sum' _ e) at place = tree.add_assign at place (expr_of e)
  write_of (node.Difference' _ e) at place = tree.sub_assign at place (expr_of e)
  write_of node.OneMore at place = tree.increment at place
  write_of node.OneLess at place = tree.decrement at place

abbrev pub items_in : List Item → tree.Items
items_in [] = tree.no_items
items_in (item ∷ rest) = with_item item (items_in rest)

-- A method, a class, a script.
abbrev pub method_of : Method → tree.Method
method_of m = record {
  at = m.at;
  kind = m.kind;
  name = named_of m.name;
  parameters = map named_of m.parameters.items;
  body = items_in m.body.value.items.items;
}

abbrev pub class_of : Class → tree.Class
class_of c = record { at = c.at; name = named_of c.name; methods = map method_of c.methods.items }

abbrev pub script_of : Script → tree.Script
script_of s = record { import = s.import; classes = map class_of s.classes.items }
