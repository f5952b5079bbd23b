-- A tree without its places: each is put to 0.
use Rattle.std.specs.Prelude.{◌≡◌, ℕ, List, map, Option, Some, None}
use Rattle.do_tree.specs.Tree as tree
use Rattle.do_tree.specs.Tree.{Named, Expr, OptionExpr, Exprs, Operands, Links, Args, Pairs, Items, Stmt, OptionStmt, Simple, Method, Class, Script}

abbrev pub unplaced_name : Named → Named
unplaced_name n = record { at = 0; text = n.text }

abbrev pub unplaced_option_name : Option Named → Option Named
unplaced_option_name None = None
unplaced_option_name (Some n) = Some (unplaced_name n)

abbrev mutual
  pub unplaced_expr : Expr → Expr
  unplaced_expr (tree.choice at test a b) = tree.choice 0 (unplaced_expr test) (unplaced_expr a) (unplaced_expr b)
  unplaced_expr (tree.lazy at k e es) = tree.lazy 0 k (unplaced_expr e) (unplaced_exprs es)
  unplaced_expr (tree.strict at e os) = tree.strict 0 (unplaced_expr e) (unplaced_operands os)
  unplaced_expr (tree.unary at o e) = tree.unary 0 o (unplaced_expr e)
  unplaced_expr (tree.await at e) = tree.await 0 (unplaced_expr e)
  unplaced_expr (tree.path at e ls) = tree.path 0 (unplaced_expr e) (unplaced_links ls)
  unplaced_expr (tree.number at z) = tree.number 0 z
  unplaced_expr (tree.text at bytes) = tree.text 0 bytes
  unplaced_expr (tree.boolean at b) = tree.boolean 0 b
  unplaced_expr (tree.null at) = tree.null 0
  unplaced_expr (tree.undefined at) = tree.undefined 0
  unplaced_expr (tree.this at) = tree.this 0
  unplaced_expr (tree.variable n) = tree.variable (unplaced_name n)
  unplaced_expr (tree.group at e) = tree.group 0 (unplaced_expr e)
  unplaced_expr (tree.list at es) = tree.list 0 (unplaced_exprs es)
  unplaced_expr (tree.rec at ps) = tree.rec 0 (unplaced_pairs ps)
  unplaced_expr (tree.new_error at m) = tree.new_error 0 (unplaced_option m)

  pub unplaced_option : OptionExpr → OptionExpr
  unplaced_option tree.no_expr = tree.no_expr
  unplaced_option (tree.some_expr e) = tree.some_expr (unplaced_expr e)

  pub unplaced_exprs : Exprs → Exprs
  unplaced_exprs tree.no_exprs = tree.no_exprs
  unplaced_exprs (tree.expr e es) = tree.expr (unplaced_expr e) (unplaced_exprs es)

  pub unplaced_operands : Operands → Operands
  unplaced_operands tree.no_operands = tree.no_operands
  unplaced_operands (tree.operand o e os) = tree.operand o (unplaced_expr e) (unplaced_operands os)

  pub unplaced_links : Links → Links
  unplaced_links tree.no_links = tree.no_links
  unplaced_links (tree.field n ls) = tree.field (unplaced_name n) (unplaced_links ls)
  unplaced_links (tree.index at e ls) = tree.index 0 (unplaced_expr e) (unplaced_links ls)
  unplaced_links (tree.call at a ls) = tree.call 0 (unplaced_args a) (unplaced_links ls)

  pub unplaced_args : Args → Args
  unplaced_args tree.no_args = tree.no_args
  unplaced_args (tree.value_arg e rest) = tree.value_arg (unplaced_expr e) (unplaced_args rest)
  unplaced_args (tree.callback at n is rest) = tree.callback 0 (unplaced_option_name n) (unplaced_items is) (unplaced_args rest)

  pub unplaced_pairs : Pairs → Pairs
  unplaced_pairs tree.no_pairs = tree.no_pairs
  unplaced_pairs (tree.pair n v ps) = tree.pair (unplaced_name n) (unplaced_option v) (unplaced_pairs ps)

  pub unplaced_items : Items → Items
  unplaced_items tree.no_items = tree.no_items
  unplaced_items (tree.declare at b n v is) = tree.declare 0 b (unplaced_name n) (unplaced_option v) (unplaced_items is)
  unplaced_items (tree.statement s is) = tree.statement (unplaced_stmt s) (unplaced_items is)

  pub unplaced_stmt : Stmt → Stmt
  unplaced_stmt (tree.block at is) = tree.block 0 (unplaced_items is)
  unplaced_stmt (tree.choose at e s o) = tree.choose 0 (unplaced_expr e) (unplaced_stmt s) (unplaced_other o)
  unplaced_stmt (tree.while at e s) = tree.while 0 (unplaced_expr e) (unplaced_stmt s)
  unplaced_stmt (tree.for at n first test step s) =
      tree.for 0 (unplaced_name n) (unplaced_expr first) (unplaced_expr test) (unplaced_simple step) (unplaced_stmt s)
  unplaced_stmt (tree.for_of at b n e s) = tree.for_of 0 b (unplaced_name n) (unplaced_expr e) (unplaced_stmt s)
  unplaced_stmt (tree.try at is n handler) = tree.try 0 (unplaced_items is) (unplaced_option_name n) (unplaced_items handler)
  unplaced_stmt (tree.throw at e) = tree.throw 0 (unplaced_expr e)
  unplaced_stmt (tree.return at e) = tree.return 0 (unplaced_option e)
  unplaced_stmt (tree.break at) = tree.break 0
  unplaced_stmt (tree.continue at) = tree.continue 0
  unplaced_stmt (tree.simple p) = tree.simple (unplaced_simple p)

  pub unplaced_other : OptionStmt → OptionStmt
  unplaced_other tree.no_stmt = tree.no_stmt
  unplaced_other (tree.some_stmt s) = tree.some_stmt (unplaced_stmt s)

  pub unplaced_simple : Simple → Simple
  unplaced_simple (tree.run at e) = tree.run 0 (unplaced_expr e)
  unplaced_simple (tree.assign at p e) = tree.assign 0 (unplaced_expr p) (unplaced_expr e)
  unplaced_simple (tree.add_assign at p e) = tree.add_assign 0 (unplaced_expr p) (unplaced_expr e)
  unplaced_simple (tree.sub_assign at p e) = tree.sub_assign 0 (unplaced_expr p) (unplaced_expr e)
  unplaced_simple (tree.increment at p) = tree.increment 0 (unplaced_expr p)
  unplaced_simple (tree.decrement at p) = tree.decrement 0 (unplaced_expr p)

abbrev pub unplaced_names : List Named → List Named
unplaced_names ns = map unplaced_name ns

abbrev pub unplaced_method : Method → Method
unplaced_method m =
    record { at = 0; kind = m.kind; name = unplaced_name m.name; parameters = unplaced_names m.parameters; body = unplaced_items m.body }

abbrev pub unplaced_class : Class → Class
unplaced_class c = record { at = 0; name = unplaced_name c.name; methods = map unplaced_method c.methods }

abbrev pub unplaced_import : Option ℕ → Option ℕ
unplaced_import None = None
unplaced_import (Some at) = Some 0

abbrev pub unplaced_script : Script → Script
unplaced_script s = record { import = unplaced_import s.import; classes = map unplaced_class s.classes }

-- Two scripts that are the same but for places.
abbrev pub SameButPlaces : Script → Script → Type 0
SameButPlaces a b = unplaced_script a ≡ unplaced_script b
