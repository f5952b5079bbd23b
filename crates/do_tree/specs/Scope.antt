-- Where each part of a script stands: in which method, with which names in sight, and what it is there for (this
-- project's profile of ECMA-262, sections 8 and 14). The check's faults are facts about parts and their scopes.
use Rattle.std.specs.Prelude.{◌≡◌, ℕ, Bool, true, false, List, [], ◌∷◌, ◌++◌, map, if◌then◌else◌, Option, Some, None, Contains, codes}
use Rattle.std.specs.Str.{bytes_eq}
use Rattle.do_tree.specs.Forms.{Sort, Bound, Stage, Role, start, after_field, after_index, after_call, role_of}
use Rattle.do_tree.specs.Forms as form
use Rattle.do_tree.specs.Lookup.{is_constructor}
use Rattle.do_tree.specs.Tree as tree
use Rattle.do_tree.specs.Tree.{Named, Expr, OptionExpr, Exprs, Operands, Links, Args, Pairs, Items, Stmt, OptionStmt, Simple, Method, Class, Script}
use Rattle.do_tree.specs.declared.script.MethodKind.{MethodKind}
use Rattle.do_tree.specs.declared.script.MethodKind.TheVariants as method
use Rattle.do_tree.specs.declared.stmt.Binding.{Binding}
use Rattle.do_tree.specs.declared.stmt.Binding.TheVariants as bind

-- The class and the kind of the method around; the names in sight, innermost first; whether a loop is around inside
-- the method or callback, a transaction's body, a block's body; and whether what stands here ends a constructor.
pub record Scope : Type 0 where
  pub class : Class
  pub method : MethodKind
  pub names : List Bound
  pub loop : Bool
  pub transaction : Bool
  pub block : Bool
  pub last : Bool

abbrev pub bound_as : Binding → Sort
bound_as bind.Let = form.variable
bound_as bind.Const = form.constant

abbrev pub with_name : Scope → Sort → Named → Scope
with_name c sort n = record c { names = record { name = n.text; sort = sort } ∷ c.names }

abbrev pub with_option_name : Scope → Sort → Option Named → Scope
with_option_name c sort None = c
with_option_name c sort (Some n) = with_name c sort n

-- Inside a statement: no part of it ends a constructor.
abbrev pub inside : Scope → Scope
inside c = record c { last = false }

abbrev pub in_loop : Scope → Scope
in_loop c = record c { loop = true; last = false }

-- A callback sees the names around it, and no loop around it is its own.
abbrev pub callback_scope : Role → Scope → Scope
callback_scope form.transaction c = record c { loop = false; transaction = true; last = false }
callback_scope form.block c = record c { loop = false; block = true; last = false }
callback_scope _ c = record c { loop = false; last = false }

abbrev pub callback_sort : Role → Sort
callback_sort form.transaction = form.transacting
callback_sort _ = form.variable

abbrev pub in_callback : Role → Scope → Option Named → Scope
in_callback r c n = with_option_name (callback_scope r c) (callback_sort r) n

-- A constructor's parameters are its context and its environment.
abbrev pub parameter_sort : MethodKind → List ℕ → Sort
parameter_sort method.Constructor name = if bytes_eq (codes "ctx") name then form.given_ctx else form.given_env
parameter_sort method.Sync name = form.variable
parameter_sort method.Async name = form.variable

abbrev pub parameter : MethodKind → Named → Bound
parameter kind n = record { name = n.text; sort = parameter_sort kind n.text }

abbrev pub scope_of : Class → Method → Scope
scope_of class m = record {
  class = class;
  method = m.kind;
  names = map (parameter m.kind) m.parameters;
  loop = false;
  transaction = false;
  block = false;
  last = is_constructor m.kind;
}

-- The scope of a statement that these items follow.
abbrev pub before : Items → Scope → Scope
before tree.no_items c = c
before (tree.declare at b n v is) c = inside c
before (tree.statement s is) c = inside c

-- What an expression serves for: its value, the operand of the await at a place, a statement of its own, the place
-- of a write, or the identifier of an object.
pub data Use : Type 0 where
  value : Use
  awaited : ℕ → Use
  alone : Use
  written : Use
  identifier : Use

abbrev pub first_use : Role → Use
first_use form.identifier = identifier
first_use _ = value

-- A path: where it begins, the name that it begins with, if any, and what it serves for. A variable or `this` is a
-- path without steps.
pub record Path : Type 0 where
  pub at : ℕ
  pub root : Option Named
  pub serves : Use

abbrev pub root_of : Expr → Option Named
root_of (tree.variable n) = Some n
root_of _ = None

-- What a path comes to by its first step.
abbrev pub after_link : List Bound → Stage → Links → Stage
after_link names st tree.no_links = st
after_link names st (tree.field n ls) = after_field st n
after_link names st (tree.index at e ls) = after_index st
after_link names st (tree.call at a ls) = after_call names st a

-- What is a part of the path that it begins.
abbrev pub is_root : Expr → Bool
is_root (tree.variable n) = true
is_root (tree.this at) = true
is_root _ = false

mutual
  -- A list of items of the script stands in this scope. A name is in sight behind its declaration.
  pub data ItemsIn (s : Script) : Scope → Items → Type 0 where
    body : {class : Class} {m : Method} → Contains s.classes class → Contains class.methods m → ItemsIn s (scope_of class m) m.body
    behind_declaration : {c : Scope} {at : ℕ} {b : Binding} {n : Named} {v : OptionExpr} {is : Items}
        → ItemsIn s c (tree.declare at b n v is) → ItemsIn s (with_name c (bound_as b) n) is
    behind_statement : {c : Scope} {st : Stmt} {is : Items} → ItemsIn s c (tree.statement st is) → ItemsIn s c is
    block : {c : Scope} {at : ℕ} {is : Items} → StmtIn s c (tree.block at is) → ItemsIn s (inside c) is
    tried : {c : Scope} {at : ℕ} {is handler : Items} {n : Option Named} → StmtIn s c (tree.try at is n handler) → ItemsIn s (inside c) is
    handler : {c : Scope} {at : ℕ} {is handler : Items} {n : Option Named}
        → StmtIn s c (tree.try at is n handler) → ItemsIn s (with_option_name (inside c) form.variable n) handler
    callback : {c : Scope} {r : Role} {at : ℕ} {n : Option Named} {is : Items} {rest : Args}
        → ArgsIn s c r (tree.callback at n is rest) → ItemsIn s (in_callback r c n) is

  pub data StmtIn (s : Script) : Scope → Stmt → Type 0 where
    item : {c : Scope} {st : Stmt} {is : Items} → ItemsIn s c (tree.statement st is) → StmtIn s (before is c) st
    chosen : {c : Scope} {at : ℕ} {e : Expr} {st : Stmt} {o : OptionStmt} → StmtIn s c (tree.choose at e st o) → StmtIn s (inside c) st
    other : {c : Scope} {at : ℕ} {e : Expr} {st other : Stmt}
        → StmtIn s c (tree.choose at e st (tree.some_stmt other)) → StmtIn s (inside c) other
    while_body : {c : Scope} {at : ℕ} {e : Expr} {st : Stmt} → StmtIn s c (tree.while at e st) → StmtIn s (in_loop c) st
    for_body : {c : Scope} {at : ℕ} {n : Named} {first test : Expr} {step : Simple} {st : Stmt}
        → StmtIn s c (tree.for at n first test step st) → StmtIn s (in_loop (with_name c form.variable n)) st
    for_of_body : {c : Scope} {at : ℕ} {b : Binding} {n : Named} {e : Expr} {st : Stmt}
        → StmtIn s c (tree.for_of at b n e st) → StmtIn s (in_loop (with_name c (bound_as b) n)) st

  pub data SimpleIn (s : Script) : Scope → Simple → Type 0 where
    statement : {c : Scope} {p : Simple} → StmtIn s c (tree.simple p) → SimpleIn s c p
    step : {c : Scope} {at : ℕ} {n : Named} {first test : Expr} {p : Simple} {st : Stmt}
        → StmtIn s c (tree.for at n first test p st) → SimpleIn s (inside (with_name c form.variable n)) p

  pub data ExprIn (s : Script) : Scope → Use → Expr → Type 0 where
    declared : {c : Scope} {at : ℕ} {b : Binding} {n : Named} {e : Expr} {is : Items}
        → ItemsIn s c (tree.declare at b n (tree.some_expr e) is) → ExprIn s c value e
    if_test : {c : Scope} {at : ℕ} {e : Expr} {st : Stmt} {o : OptionStmt} → StmtIn s c (tree.choose at e st o) → ExprIn s c value e
    while_test : {c : Scope} {at : ℕ} {e : Expr} {st : Stmt} → StmtIn s c (tree.while at e st) → ExprIn s c value e
    for_first : {c : Scope} {at : ℕ} {n : Named} {e test : Expr} {step : Simple} {st : Stmt}
        → StmtIn s c (tree.for at n e test step st) → ExprIn s c value e
    for_test : {c : Scope} {at : ℕ} {n : Named} {first e : Expr} {step : Simple} {st : Stmt}
        → StmtIn s c (tree.for at n first e step st) → ExprIn s (with_name c form.variable n) value e
    for_list : {c : Scope} {at : ℕ} {b : Binding} {n : Named} {e : Expr} {st : Stmt} → StmtIn s c (tree.for_of at b n e st) → ExprIn s c value e
    thrown : {c : Scope} {at : ℕ} {e : Expr} → StmtIn s c (tree.throw at e) → ExprIn s c value e
    returned : {c : Scope} {at : ℕ} {e : Expr} → StmtIn s c (tree.return at (tree.some_expr e)) → ExprIn s c value e
    run : {c : Scope} {at : ℕ} {e : Expr} → SimpleIn s c (tree.run at e) → ExprIn s c alone e
    assign_to : {c : Scope} {at : ℕ} {p e : Expr} → SimpleIn s c (tree.assign at p e) → ExprIn s c written p
    assigned : {c : Scope} {at : ℕ} {p e : Expr} → SimpleIn s c (tree.assign at p e) → ExprIn s c value e
    add_to : {c : Scope} {at : ℕ} {p e : Expr} → SimpleIn s c (tree.add_assign at p e) → ExprIn s c written p
    added : {c : Scope} {at : ℕ} {p e : Expr} → SimpleIn s c (tree.add_assign at p e) → ExprIn s c value e
    sub_from : {c : Scope} {at : ℕ} {p e : Expr} → SimpleIn s c (tree.sub_assign at p e) → ExprIn s c written p
    subtracted : {c : Scope} {at : ℕ} {p e : Expr} → SimpleIn s c (tree.sub_assign at p e) → ExprIn s c value e
    incremented : {c : Scope} {at : ℕ} {p : Expr} → SimpleIn s c (tree.increment at p) → ExprIn s c written p
    decremented : {c : Scope} {at : ℕ} {p : Expr} → SimpleIn s c (tree.decrement at p) → ExprIn s c written p
    test : {c : Scope} {u : Use} {at : ℕ} {e a b : Expr} → ExprIn s c u (tree.choice at e a b) → ExprIn s c value e
    yes : {c : Scope} {u : Use} {at : ℕ} {e a b : Expr} → ExprIn s c u (tree.choice at e a b) → ExprIn s c value a
    no : {c : Scope} {u : Use} {at : ℕ} {e a b : Expr} → ExprIn s c u (tree.choice at e a b) → ExprIn s c value b
    element : {c : Scope} {e : Expr} {es : Exprs} → ExprsIn s c (tree.expr e es) → ExprIn s c value e
    first_lazy : {c : Scope} {u : Use} {at : ℕ} {e : Expr} {es : Exprs} {k : _} → ExprIn s c u (tree.lazy at k e es) → ExprIn s c value e
    first_strict : {c : Scope} {u : Use} {at : ℕ} {e : Expr} {os : Operands} → ExprIn s c u (tree.strict at e os) → ExprIn s c value e
    operand : {c : Scope} {e : Expr} {os : Operands} {o : _} → OperandsIn s c (tree.operand o e os) → ExprIn s c value e
    under : {c : Scope} {u : Use} {at : ℕ} {e : Expr} {o : _} → ExprIn s c u (tree.unary at o e) → ExprIn s c value e
    under_await : {c : Scope} {u : Use} {at : ℕ} {e : Expr} → ExprIn s c u (tree.await at e) → ExprIn s c (awaited at) e
    base : {c : Scope} {u : Use} {at : ℕ} {e : Expr} {ls : Links} → ExprIn s c u (tree.path at e ls) → is_root e ≡ false → ExprIn s c value e
    index : {c : Scope} {p : Path} {st : Stage} {at : ℕ} {e : Expr} {ls : Links} → LinksIn s c p st (tree.index at e ls) → ExprIn s c value e
    argument : {c : Scope} {r : Role} {e : Expr} {rest : Args} → ArgsIn s c r (tree.value_arg e rest) → ExprIn s c (first_use r) e
    grouped : {c : Scope} {u : Use} {at : ℕ} {e : Expr} → ExprIn s c u (tree.group at e) → ExprIn s c value e
    paired : {c : Scope} {n : Named} {e : Expr} {ps : Pairs} → PairsIn s c (tree.pair n (tree.some_expr e) ps) → ExprIn s c value e
    message : {c : Scope} {u : Use} {at : ℕ} {e : Expr} → ExprIn s c u (tree.new_error at (tree.some_expr e)) → ExprIn s c value e

  pub data ExprsIn (s : Script) : Scope → Exprs → Type 0 where
    of_lazy : {c : Scope} {u : Use} {at : ℕ} {e : Expr} {es : Exprs} {k : _} → ExprIn s c u (tree.lazy at k e es) → ExprsIn s c es
    of_list : {c : Scope} {u : Use} {at : ℕ} {es : Exprs} → ExprIn s c u (tree.list at es) → ExprsIn s c es
    rest_of_exprs : {c : Scope} {e : Expr} {es : Exprs} → ExprsIn s c (tree.expr e es) → ExprsIn s c es

  pub data OperandsIn (s : Script) : Scope → Operands → Type 0 where
    of_strict : {c : Scope} {u : Use} {at : ℕ} {e : Expr} {os : Operands} → ExprIn s c u (tree.strict at e os) → OperandsIn s c os
    rest_of_operands : {c : Scope} {e : Expr} {os : Operands} {o : _} → OperandsIn s c (tree.operand o e os) → OperandsIn s c os

  -- A path begins so, and has these steps. A pair that is a name alone is a path too.
  pub data PathIn (s : Script) : Scope → Path → Stage → Links → Type 0 where
    of_path : {c : Scope} {u : Use} {at : ℕ} {e : Expr} {ls : Links} → ExprIn s c u (tree.path at e ls)
        → PathIn s c (record { at = at; root = root_of e; serves = u }) (start c.names e) ls
    of_variable : {c : Scope} {u : Use} {n : Named} → ExprIn s c u (tree.variable n)
        → PathIn s c (record { at = n.at; root = Some n; serves = u }) (start c.names (tree.variable n)) tree.no_links
    of_this : {c : Scope} {u : Use} {at : ℕ} → ExprIn s c u (tree.this at)
        → PathIn s c (record { at = at; root = None; serves = u }) form.itself tree.no_links
    of_pair : {c : Scope} {n : Named} {ps : Pairs} → PairsIn s c (tree.pair n tree.no_expr ps)
        → PathIn s c (record { at = n.at; root = Some n; serves = value }) (start c.names (tree.variable n)) tree.no_links

  -- A path has come to a stage, and has these steps to go.
  pub data LinksIn (s : Script) : Scope → Path → Stage → Links → Type 0 where
    begun : {c : Scope} {p : Path} {st : Stage} {ls : Links} → PathIn s c p st ls → LinksIn s c p st ls
    behind_field : {c : Scope} {p : Path} {st : Stage} {n : Named} {ls : Links}
        → LinksIn s c p st (tree.field n ls) → LinksIn s c p (after_field st n) ls
    behind_index : {c : Scope} {p : Path} {st : Stage} {at : ℕ} {e : Expr} {ls : Links}
        → LinksIn s c p st (tree.index at e ls) → LinksIn s c p (after_index st) ls
    behind_call : {c : Scope} {p : Path} {st : Stage} {at : ℕ} {a : Args} {ls : Links}
        → LinksIn s c p st (tree.call at a ls) → LinksIn s c p (after_call c.names st a) ls

  -- Arguments, of which the first is there for this.
  pub data ArgsIn (s : Script) : Scope → Role → Args → Type 0 where
    of_call : {c : Scope} {p : Path} {st : Stage} {at : ℕ} {a : Args} {ls : Links} → LinksIn s c p st (tree.call at a ls) → ArgsIn s c (role_of st) a
    behind_value : {c : Scope} {r : Role} {e : Expr} {rest : Args} → ArgsIn s c r (tree.value_arg e rest) → ArgsIn s c form.plain rest
    behind_callback : {c : Scope} {r : Role} {at : ℕ} {n : Option Named} {is : Items} {rest : Args}
        → ArgsIn s c r (tree.callback at n is rest) → ArgsIn s c form.plain rest

  pub data PairsIn (s : Script) : Scope → Pairs → Type 0 where
    of_record : {c : Scope} {u : Use} {at : ℕ} {ps : Pairs} → ExprIn s c u (tree.rec at ps) → PairsIn s c ps
    rest_of_pairs : {c : Scope} {n : Named} {v : OptionExpr} {ps : Pairs} → PairsIn s c (tree.pair n v ps) → PairsIn s c ps
