-- What a script says: its tree, each node with the place of its first token. It is the grammar's tree but
-- for separators, quotes, trailing commas and the words that each class and constructor has.
use Rattle.std.specs.Prelude.{ℕ, ℤ, Bool, List, Option}
use Rattle.do_value.specs.declared.operator.BinOp.{BinOp}
use Rattle.do_value.specs.declared.operator.UnOp.{UnOp}
use Rattle.do_tree.specs.declared.expr.Chain.{Chain}
use Rattle.do_tree.specs.declared.stmt.Binding.{Binding}
use Rattle.do_tree.specs.declared.script.MethodKind.{MethodKind}

-- A name, where it is declared or used.
pub record Named : Type 0 where
  pub at : ℕ
  pub text : List ℕ

mutual
  -- An expression. The number that comes first is its place.
  pub data Expr : Type 0 where
    choice : ℕ → Expr → Expr → Expr → Expr
    lazy : ℕ → Chain → Expr → Exprs → Expr
    strict : ℕ → Expr → Operands → Expr
    unary : ℕ → UnOp → Expr → Expr
    await : ℕ → Expr → Expr
    path : ℕ → Expr → Links → Expr
    number : ℕ → ℤ → Expr
    text : ℕ → List ℕ → Expr
    boolean : ℕ → Bool → Expr
    null : ℕ → Expr
    undefined : ℕ → Expr
    this : ℕ → Expr
    variable : Named → Expr
    group : ℕ → Expr → Expr
    list : ℕ → Exprs → Expr
    rec : ℕ → Pairs → Expr
    new_error : ℕ → OptionExpr → Expr

  pub data OptionExpr : Type 0 where
    no_expr : OptionExpr
    some_expr : Expr → OptionExpr

  pub data Exprs : Type 0 where
    no_exprs : Exprs
    expr : Expr → Exprs → Exprs

  pub data Operands : Type 0 where
    no_operands : Operands
    operand : BinOp → Expr → Operands → Operands

  -- The steps of a path.
  pub data Links : Type 0 where
    no_links : Links
    field : Named → Links → Links
    index : ℕ → Expr → Links → Links
    call : ℕ → Args → Links → Links

  pub data Args : Type 0 where
    no_args : Args
    value_arg : Expr → Args → Args
    callback : ℕ → Option Named → Items → Args → Args

  pub data Pairs : Type 0 where
    no_pairs : Pairs
    pair : Named → OptionExpr → Pairs → Pairs

  -- What stands in a block.
  pub data Items : Type 0 where
    no_items : Items
    declare : ℕ → Binding → Named → OptionExpr → Items → Items
    statement : Stmt → Items → Items

  pub data Stmt : Type 0 where
    block : ℕ → Items → Stmt
    choose : ℕ → Expr → Stmt → OptionStmt → Stmt
    while : ℕ → Expr → Stmt → Stmt
    for : ℕ → Named → Expr → Expr → Simple → Stmt → Stmt
    for_of : ℕ → Binding → Named → Expr → Stmt → Stmt
    try : ℕ → Items → Option Named → Items → Stmt
    throw : ℕ → Expr → Stmt
    return : ℕ → OptionExpr → Stmt
    break : ℕ → Stmt
    continue : ℕ → Stmt
    simple : Simple → Stmt

  pub data OptionStmt : Type 0 where
    no_stmt : OptionStmt
    some_stmt : Stmt → OptionStmt

  -- An expression that is run for itself, or a write to a place.
  pub data Simple : Type 0 where
    run : ℕ → Expr → Simple
    assign : ℕ → Expr → Expr → Simple
    add_assign : ℕ → Expr → Expr → Simple
    sub_assign : ℕ → Expr → Expr → Simple
    increment : ℕ → Expr → Simple
    decrement : ℕ → Expr → Simple

pub record Method : Type 0 where
  pub at : ℕ
  pub kind : MethodKind
  pub name : Named
  pub parameters : List Named
  pub body : Items

pub record Class : Type 0 where
  pub at : ℕ
  pub name : Named
  pub methods : List Method

pub record Script : Type 0 where
  pub import : Option ℕ
  pub classes : List Class
