-- Pieces of the grammar's rules, as the parser's functions read them.
use Rattle.std.specs.Prelude.{◌≡◌, ◌+◌, ℕ, List, [], ◌∷◌, Option, Bool, true, false, codes}
use Rattle.do_lex.specs.declared.kind.Keyword.{Keyword}
use Rattle.do_lex.specs.declared.kind.Keyword.TheVariants as key
use Rattle.do_lex.specs.declared.kind.Mark.{Mark}
use Rattle.do_lex.specs.declared.kind.Mark.TheVariants as mark
use Rattle.do_tree.specs.Grammar.{TakesMark, TakesKey, TakesName, TakesWord, TakesText, TakesCtxEnv, AreNames, IsExpr, IsOptionName, IsSimple, IsStmt, IsBlock, IsImport, AreClasses, binding_key}
use Rattle.do_tree.specs.Lexeme.{Lexeme, place}
use Rattle.do_tree.specs.Tree as tree
use Rattle.do_tree.specs.declared.script.MethodKind.{MethodKind}
use Rattle.do_tree.specs.declared.script.MethodKind.TheVariants as method
use Rattle.do_tree.specs.declared.stmt.Binding.{Binding}
use Rattle.do_tree.specs.declared.stmt.Binding.TheVariants as bind
use Rattle.do_parse.specs.Lists.{Pair}
use Rattle.do_parse.specs.Taken.{IsAnyName}

-- async ( NAME ) =>
pub record IsCallbackHead (d : ℕ) (ts us : List Lexeme) (n : Option tree.Named) : Type 0 where
  pub vs : List Lexeme
  pub ws : List Lexeme
  pub xs : List Lexeme
  pub ys : List Lexeme
  pub async : TakesKey key.Async d ts vs
  pub open_paren : TakesMark mark.OpenParen d vs ws
  pub name : IsOptionName d ws xs n
  pub close_paren : TakesMark mark.CloseParen d xs ys
  pub arrow : TakesMark mark.Arrow d ys us

-- : VALUE
pub record IsPairValue (d : ℕ) (ts us : List Lexeme) (e : tree.Expr) : Type 0 where
  pub vs : List Lexeme
  pub colon : TakesMark mark.Colon d ts vs
  pub value : IsExpr (d + 1) vs us e

-- The same, or nothing.
pub data IsOptionValue (d : ℕ) : List Lexeme → List Lexeme → tree.OptionExpr → Type 0 where
  no_value : {ts : List Lexeme} → IsOptionValue d ts ts tree.no_expr
  some_value : {ts us : List Lexeme} {e : tree.Expr} → IsPairValue d ts us e → IsOptionValue d ts us (tree.some_expr e)

-- Any word, and : VALUE
pub record IsKeyPair (d : ℕ) (ts us : List Lexeme) (p : Pair) : Type 0 where
  pub vs : List Lexeme
  pub e : tree.Expr
  pub word : IsAnyName d ts vs p.key
  pub value : IsPairValue d vs us e
  pub value_is : p.value ≡ tree.some_expr e

-- The keyword of a truth value.
abbrev pub bool_key : Bool → Keyword
bool_key true = key.True
bool_key false = key.False

-- ( EXPR )
pub record InParens (d : ℕ) (ts us : List Lexeme) (e : tree.Expr) : Type 0 where
  pub vs : List Lexeme
  pub ws : List Lexeme
  pub open_paren : TakesMark mark.OpenParen d ts vs
  pub inside : IsExpr (d + 1) vs ws e
  pub close_paren : TakesMark mark.CloseParen d ws us

-- EXPR and this mark
pub record IsExprThen (m : Mark) (d : ℕ) (ts us : List Lexeme) (e : tree.Expr) : Type 0 where
  pub vs : List Lexeme
  pub expr : IsExpr (d + 1) ts vs e
  pub mark_is : TakesMark m d vs us

-- The name that a loop binds, and its word.
pub record Bound : Type 0 where
  pub at : ℕ
  pub binding : Binding
  pub name : tree.Named

-- for ( let NAME, or with const
pub record IsForHead (d : ℕ) (ts us : List Lexeme) (b : Bound) : Type 0 where
  pub vs : List Lexeme
  pub ws : List Lexeme
  pub xs : List Lexeme
  pub at_is : b.at ≡ place ts
  pub for_is : TakesKey key.For d ts vs
  pub open_paren : TakesMark mark.OpenParen d vs ws
  pub binding_is : TakesKey (binding_key b.binding) d ws xs
  pub name_is : TakesName b.name d xs us

-- Behind that, = FIRST; TEST; STEP) BODY
pub record IsForRest (d at : ℕ) (n : tree.Named) (ts us : List Lexeme) (s : tree.Stmt) : Type 0 where
  pub vs : List Lexeme
  pub ws : List Lexeme
  pub xs : List Lexeme
  pub ys : List Lexeme
  pub zs : List Lexeme
  pub first : tree.Expr
  pub test : tree.Expr
  pub step : tree.Simple
  pub body : tree.Stmt
  pub assign : TakesMark mark.Assign d ts vs
  pub first_is : IsExprThen mark.Semicolon d vs ws first
  pub test_is : IsExprThen mark.Semicolon d ws xs test
  pub step_is : IsSimple d xs ys step
  pub close_paren : TakesMark mark.CloseParen d ys zs
  pub body_is : IsStmt (d + 1) zs us body
  pub tree_is : s ≡ tree.for at n first test step body

-- or of LIST) BODY
pub record IsForOfRest (d at : ℕ) (b : Binding) (n : tree.Named) (ts us : List Lexeme) (s : tree.Stmt) : Type 0 where
  pub vs : List Lexeme
  pub ws : List Lexeme
  pub listed : tree.Expr
  pub body : tree.Stmt
  pub of_is : TakesWord (codes "of") d ts vs
  pub list_is : IsExprThen mark.CloseParen d vs ws listed
  pub body_is : IsStmt (d + 1) ws us body
  pub tree_is : s ≡ tree.for_of at b n listed body

-- What is written behind a place.
pub data Written : Type 0 where
  nothing : Written
  value : tree.Expr → Written
  sum : tree.Expr → Written
  difference : tree.Expr → Written
  one_more : Written
  one_less : Written

abbrev pub simple_from : Written → ℕ → tree.Expr → tree.Simple
simple_from nothing at p = tree.run at p
simple_from (value e) at p = tree.assign at p e
simple_from (sum e) at p = tree.add_assign at p e
simple_from (difference e) at p = tree.sub_assign at p e
simple_from one_more at p = tree.increment at p
simple_from one_less at p = tree.decrement at p

-- This mark and an expression
pub record IsMarkExpr (m : Mark) (d : ℕ) (ts us : List Lexeme) (e : tree.Expr) : Type 0 where
  pub vs : List Lexeme
  pub mark_is : TakesMark m d ts vs
  pub expr : IsExpr (d + 1) vs us e

pub data IsWrite (d : ℕ) : List Lexeme → List Lexeme → Written → Type 0 where
  is_nothing : {ts : List Lexeme} → IsWrite d ts ts nothing
  is_value : {ts us : List Lexeme} {e : tree.Expr} → IsMarkExpr mark.Assign d ts us e → IsWrite d ts us (value e)
  is_sum : {ts us : List Lexeme} {e : tree.Expr} → IsMarkExpr mark.AddAssign d ts us e → IsWrite d ts us (sum e)
  is_difference : {ts us : List Lexeme} {e : tree.Expr} → IsMarkExpr mark.SubAssign d ts us e → IsWrite d ts us (difference e)
  is_one_more : {ts us : List Lexeme} → TakesMark mark.Increment d ts us → IsWrite d ts us one_more
  is_one_less : {ts us : List Lexeme} → TakesMark mark.Decrement d ts us → IsWrite d ts us one_less

-- A statement that is an expression or a write; one that begins with { is a block.
pub record IsSimpleStmt (d : ℕ) (ts us : List Lexeme) (s : tree.Stmt) : Type 0 where
  pub vs : List Lexeme
  pub simple : tree.Simple
  pub simple_is : IsSimple d ts vs simple
  pub semicolon : TakesMark mark.Semicolon d vs us
  pub stmt_is : s ≡ tree.simple simple

-- What a name is bound to: = EXPR, which may be missing behind let.
pub data IsInitial (b : Binding) (d : ℕ) : List Lexeme → List Lexeme → tree.OptionExpr → Type 0 where
  no_initial : {ts : List Lexeme} → b ≡ bind.Let → IsInitial b d ts ts tree.no_expr
  initial : {ts us vs : List Lexeme} {e : tree.Expr} → TakesMark mark.Assign d ts us → IsExpr (d + 1) us vs e → IsInitial b d ts vs (tree.some_expr e)

-- A block, with its place.
pub record Blocked : Type 0 where
  pub at : ℕ
  pub items : tree.Items

pub record IsBlockAt (d : ℕ) (ts us : List Lexeme) (b : Blocked) : Type 0 where
  pub at_is : b.at ≡ place ts
  pub block_is : IsBlock d ts us b.items

-- NAME ( NAMES )
pub record Signed : Type 0 where
  pub name : tree.Named
  pub parameters : List tree.Named

pub record IsSignature (ts us : List Lexeme) (s : Signed) : Type 0 where
  pub vs : List Lexeme
  pub ws : List Lexeme
  pub xs : List Lexeme
  pub name_is : TakesName s.name 0 ts vs
  pub open_paren : TakesMark mark.OpenParen 0 vs ws
  pub parameters_are : AreNames ws xs s.parameters
  pub close_paren : TakesMark mark.CloseParen 0 xs us

-- A method behind the words before its name.
pub record IsMethodRest (at : ℕ) (kind : MethodKind) (ts us : List Lexeme) (m : tree.Method) : Type 0 where
  pub vs : List Lexeme
  pub at_is : m.at ≡ at
  pub kind_is : m.kind ≡ kind
  pub signature : IsSignature ts vs (record { name = m.name; parameters = m.parameters })
  pub body_is : IsBlock 0 vs us m.body

-- super(ctx, env);
pub record IsSuperCall (ts us : List Lexeme) (names : List tree.Named) : Type 0 where
  pub vs : List Lexeme
  pub ws : List Lexeme
  pub super_is : TakesKey key.Super 0 ts vs
  pub ctx_env : TakesCtxEnv vs ws names
  pub semicolon : TakesMark mark.Semicolon 0 ws us

-- The name of a class, with the place where the class begins.
pub record ClassNamed : Type 0 where
  pub at : ℕ
  pub name : tree.Named

-- export class NAME extends DurableObject {
pub record IsClassHead (ts us : List Lexeme) (c : ClassNamed) : Type 0 where
  pub vs : List Lexeme
  pub ws : List Lexeme
  pub xs : List Lexeme
  pub ys : List Lexeme
  pub zs : List Lexeme
  pub at_is : c.at ≡ place ts
  pub export_is : TakesKey key.Export 0 ts vs
  pub class_is : TakesKey key.Class 0 vs ws
  pub name_is : TakesName c.name 0 ws xs
  pub extends_is : TakesKey key.Extends 0 xs ys
  pub base_is : TakesWord (codes "DurableObject") 0 ys zs
  pub open_brace : TakesMark mark.OpenBrace 0 zs us

-- from "cloudflare:workers" ;
pub record IsImportEnd (ts us : List Lexeme) (at : ℕ) : Type 0 where
  pub vs : List Lexeme
  pub ws : List Lexeme
  pub from : TakesWord (codes "from") 0 ts vs
  pub text : TakesText at (codes "cloudflare:workers") 0 vs ws
  pub semicolon : TakesMark mark.Semicolon 0 ws us

-- , NAME
pub record IsNextName (ts us : List Lexeme) (n : tree.Named) : Type 0 where
  pub vs : List Lexeme
  pub comma : TakesMark mark.Comma 0 ts vs
  pub name : TakesName n 0 vs us

-- The parameters of a constructor, and a constructor.
abbrev pub ctx_env_at : ℕ → ℕ → List tree.Named
ctx_env_at ctx env = record { at = ctx; text = codes "ctx" } ∷ record { at = env; text = codes "env" } ∷ []

abbrev pub constructor_tree : ℕ → List tree.Named → tree.Items → tree.Method
constructor_tree at parameters body = record {
  at = at;
  kind = method.Constructor;
  name = record { at = at; text = codes "constructor" };
  parameters = parameters;
  body = body;
}

-- Nothing stands behind.
abbrev pub NothingLeft : List Lexeme → Type 0
NothingLeft us = us ≡ []

-- A script, and what stands behind it: the whole script, where that is nothing.
pub record IsWhole (ts us : List Lexeme) (s : tree.Script) : Type 0 where
  pub rest : List Lexeme
  pub import : IsImport ts rest s.import
  pub classes : AreClasses rest us s.classes
