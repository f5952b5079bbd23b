-- What stands behind the first part of an expression, with the tree of the whole.
use Rattle.std.specs.Prelude.{◌≡◌, ◌≢◌, ◌+◌, ℕ, List, Bool}
use Rattle.do_lex.specs.declared.kind.Kind.{Kind}
use Rattle.do_lex.specs.declared.kind.Mark.TheVariants as mark
use Rattle.do_tree.specs.Grammar.{TakesMark, IsExpr, IsRest, IsLinks}
use Rattle.do_tree.specs.Lexeme.{Lexeme}
use Rattle.do_tree.specs.Tree as tree
use Rattle.do_tree.specs.declared.expr.Chain.{Chain}
use Rattle.do_tree.specs.declared.expr.Chain.TheVariants as chain
use Rattle.do_parse.specs.Follow.{behind_operand, behind_short}

-- Behind the test of a choice, its two sides.
pub record IsBehindTest (d at : ℕ) (test : tree.Expr) (ts us : List Lexeme) (e : tree.Expr) : Type 0 where
  pub vs : List Lexeme
  pub ws : List Lexeme
  pub xs : List Lexeme
  pub yes : tree.Expr
  pub no : tree.Expr
  pub question : TakesMark mark.Question d ts vs
  pub first : IsExpr (d + 1) vs ws yes
  pub colon : TakesMark mark.Colon d ws xs
  pub second : IsExpr (d + 1) xs us no
  pub tree_is : e ≡ tree.choice at test yes no

-- Behind the first operand of a chain, the others, if there are any.
pub data IsChained (c : Chain) (d at : ℕ) (first : tree.Expr) : List Lexeme → List Lexeme → tree.Expr → Type 0 where
  alone : {ts : List Lexeme} → IsChained c d at first ts ts first
  chained : {ts us : List Lexeme} {es : tree.Exprs} → IsRest c d ts us es → IsChained c d at first ts us (tree.lazy at c first es)

-- Behind the first operand, a chain of && and then one of ||.
pub record IsEither (d at : ℕ) (first : tree.Expr) (ts us : List Lexeme) (e : tree.Expr) : Type 0 where
  pub ms : List Lexeme
  pub whole : tree.Expr
  pub ands : IsChained chain.And d at first ts ms whole
  pub ors : IsChained chain.Or d at whole ms us e

-- Behind a whole chain.
abbrev pub behind_chain : Chain → Kind → Bool
behind_chain chain.And = behind_operand chain.Or
behind_chain chain.Or = behind_short
behind_chain chain.Coalesce = behind_short

-- Behind the base of a path, its steps, if there are any.
pub data IsStepped (d at : ℕ) (base : tree.Expr) : List Lexeme → List Lexeme → tree.Expr → Type 0 where
  no_step : {ts : List Lexeme} → IsStepped d at base ts ts base
  stepped : {ts us : List Lexeme} {ls : tree.Links} → ls ≢ tree.no_links → IsLinks d ts us ls → IsStepped d at base ts us (tree.path at base ls)
