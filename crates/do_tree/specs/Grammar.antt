-- The grammar of scripts, rule by rule (this project's profile of ECMA-262, sections 13 to 16).
--
-- IsExpr d ts us e says: of the tokens ts those before us are an expression, e is its tree, and d phrases
-- `stmt`, `expr` and `un` hold its own tokens. The other rules read so too.
use Rattle.std.specs.Prelude.{◌≡◌, ◌≢◌, ℕ, zero, suc, pos, true, false, List, [], ◌∷◌, Option, Some, None, codes, ◌⊎◌}
use Rattle.do_value.specs.declared.operator.BinOp.{BinOp}
use Rattle.do_value.specs.declared.operator.BinOp.TheVariants as op
use Rattle.do_value.specs.declared.operator.UnOp.TheVariants as unary
use Rattle.do_lex.specs.declared.kind.Kind.{Kind}
use Rattle.do_lex.specs.declared.kind.Kind.TheVariants as kind
use Rattle.do_lex.specs.declared.kind.Keyword.{Keyword}
use Rattle.do_lex.specs.declared.kind.Keyword.TheVariants as key
use Rattle.do_lex.specs.declared.kind.Mark.{Mark}
use Rattle.do_lex.specs.declared.kind.Mark.TheVariants as mark
use Rattle.do_tree.specs.Lexeme.{Lexeme, place, text_of, number_of}
use Rattle.do_tree.specs.Tree as tree
use Rattle.do_tree.specs.Tree.{Named, Expr, OptionExpr, Exprs, Operands, Links, Args, Pairs, Items, Stmt, OptionStmt, Simple, Method, Class, Script}
use Rattle.do_tree.specs.declared.expr.Chain.{Chain}
use Rattle.do_tree.specs.declared.expr.Chain.TheVariants as chain
use Rattle.do_tree.specs.declared.stmt.Binding.{Binding}
use Rattle.do_tree.specs.declared.stmt.Binding.TheVariants as bind
use Rattle.do_tree.specs.declared.script.MethodKind.TheVariants as method

-- One token of this kind.
pub record Takes (k : Kind) (d : ℕ) (ts us : List Lexeme) : Type 0 where
  pub token : Lexeme
  pub first : ts ≡ token ∷ us
  pub kind_is : token.kind ≡ k
  pub inside_is : token.inside ≡ d

abbrev pub TakesMark : Mark → ℕ → List Lexeme → List Lexeme → Type 0
TakesMark m d ts us = Takes (kind.Mark m) d ts us

abbrev pub TakesKey : Keyword → ℕ → List Lexeme → List Lexeme → Type 0
TakesKey k d ts us = Takes (kind.Keyword k) d ts us

-- One word that is no keyword: a name, or the one that is given.
pub record TakesName (n : Named) (d : ℕ) (ts us : List Lexeme) : Type 0 where
  pub takes : Takes kind.Word d ts us
  pub at_is : n.at ≡ takes.token.at
  pub text_is : n.text ≡ takes.token.text

pub record TakesWord (word : List ℕ) (d : ℕ) (ts us : List Lexeme) : Type 0 where
  pub takes : Takes kind.Word d ts us
  pub text_is : takes.token.text ≡ word

-- One word, a keyword too.
pub record TakesAnyWord (n : Named) (d : ℕ) (ts us : List Lexeme) : Type 0 where
  pub token : Lexeme
  pub first : ts ≡ token ∷ us
  pub kind_is : (token.kind ≡ kind.Word) ⊎ ((k : Keyword) × (token.kind ≡ kind.Keyword k))
  pub inside_is : token.inside ≡ d
  pub at_is : n.at ≡ token.at
  pub text_is : n.text ≡ token.text

-- One text, which stands for these bytes.
pub record TakesText (at : ℕ) (bytes : List ℕ) (d : ℕ) (ts us : List Lexeme) : Type 0 where
  pub takes : Takes kind.Text d ts us
  pub at_is : at ≡ takes.token.at
  pub bytes_is : bytes ≡ text_of takes.token

-- The tokens don't begin with this kind.
abbrev pub BeginsWithNo : Kind → List Lexeme → Type 0
BeginsWithNo k [] = Unit {0}
BeginsWithNo k (t ∷ _) = t.kind ≢ k

-- The levels of operators, from the loosest.
pub data Level : Type 0 where
  eq : Level
  rel : Level
  add : Level
  mul : Level

-- The operators of each level.
pub data IsOperator : Level → Mark → BinOp → Type 0 where
  same : IsOperator eq mark.Same op.Same
  differs : IsOperator eq mark.Differs op.Differs
  less : IsOperator rel mark.Less op.Less
  less_eq : IsOperator rel mark.LessEq op.LessEq
  greater : IsOperator rel mark.Greater op.Greater
  greater_eq : IsOperator rel mark.GreaterEq op.GreaterEq
  plus : IsOperator add mark.Plus op.Add
  minus : IsOperator add mark.Minus op.Sub
  times : IsOperator mul mark.Star op.Mul
  over : IsOperator mul mark.Slash op.Div
  modulo : IsOperator mul mark.Percent op.Rem

-- The mark between the operands of a chain.
abbrev pub chain_mark : Chain → Mark
chain_mark chain.And = mark.And
chain_mark chain.Or = mark.Or
chain_mark chain.Coalesce = mark.Coalesce

-- The word that binds a name.
abbrev pub binding_key : Binding → Keyword
binding_key bind.Let = key.Let
binding_key bind.Const = key.Const

mutual
  -- expr := short ('?' expr ':' expr)?
  pub data IsExpr : ℕ → List Lexeme → List Lexeme → Expr → Type 0 where
    short : {d : ℕ} {ts us : List Lexeme} {e : Expr} → IsShort d ts us e → IsExpr d ts us e
    choice : {d at : ℕ} {ts us vs ws xs ys : List Lexeme} {test yes no : Expr} → at ≡ place ts
        → IsShort d ts us test → TakesMark mark.Question d us vs → IsExpr (suc d) vs ws yes
        → TakesMark mark.Colon d ws xs → IsExpr (suc d) xs ys no
        → IsExpr d ts ys (tree.choice at test yes no)

  -- short := eq ('??' eq)+ | and ('||' and)*
  pub data IsShort : ℕ → List Lexeme → List Lexeme → Expr → Type 0 where
    one : {d : ℕ} {ts us : List Lexeme} {e : Expr} → IsOperandOf chain.Or d ts us e → IsShort d ts us e
    coalesce : {d at : ℕ} {ts us vs : List Lexeme} {e : Expr} {es : Exprs} → at ≡ place ts
        → IsOperandOf chain.Coalesce d ts us e → IsRest chain.Coalesce d us vs es
        → IsShort d ts vs (tree.lazy at chain.Coalesce e es)
    or : {d at : ℕ} {ts us vs : List Lexeme} {e : Expr} {es : Exprs} → at ≡ place ts
        → IsOperandOf chain.Or d ts us e → IsRest chain.Or d us vs es
        → IsShort d ts vs (tree.lazy at chain.Or e es)

  -- The operands of '??' and of '&&' are eq, those of '||' are and := eq ('&&' eq)*.
  pub data IsOperandOf : Chain → ℕ → List Lexeme → List Lexeme → Expr → Type 0 where
    of_coalesce : {d : ℕ} {ts us : List Lexeme} {e : Expr} → IsStrict eq d ts us e → IsOperandOf chain.Coalesce d ts us e
    of_and : {d : ℕ} {ts us : List Lexeme} {e : Expr} → IsStrict eq d ts us e → IsOperandOf chain.And d ts us e
    of_or : {d : ℕ} {ts us : List Lexeme} {e : Expr} → IsStrict eq d ts us e → IsOperandOf chain.Or d ts us e
    and : {d at : ℕ} {ts us vs : List Lexeme} {e : Expr} {es : Exprs} → at ≡ place ts
        → IsOperandOf chain.And d ts us e → IsRest chain.And d us vs es
        → IsOperandOf chain.Or d ts vs (tree.lazy at chain.And e es)

  -- The operands of a chain from the second on, each behind its mark; at least one.
  pub data IsRest : Chain → ℕ → List Lexeme → List Lexeme → Exprs → Type 0 where
    rest_last : {c : Chain} {d : ℕ} {ts us vs : List Lexeme} {e : Expr}
        → TakesMark (chain_mark c) d ts us → IsOperandOf c d us vs e → IsRest c d ts vs (tree.expr e tree.no_exprs)
    rest_more : {c : Chain} {d : ℕ} {ts us vs ws : List Lexeme} {e : Expr} {es : Exprs}
        → TakesMark (chain_mark c) d ts us → IsOperandOf c d us vs e → IsRest c d vs ws es
        → IsRest c d ts ws (tree.expr e es)

  -- eq := rel (('===' | '!==') rel)*, rel := add (('<' | '<=' | '>' | '>=') add)*,
  -- add := mul (('+' | '-') mul)*, mul := un (('*' | '/' | '%') un)*
  pub data IsStrict : Level → ℕ → List Lexeme → List Lexeme → Expr → Type 0 where
    tighter : {l : Level} {d : ℕ} {ts us : List Lexeme} {e : Expr} → IsTighter l d ts us e → IsStrict l d ts us e
    strict : {l : Level} {d at : ℕ} {ts us vs : List Lexeme} {e : Expr} {os : Operands} → at ≡ place ts
        → IsTighter l d ts us e → IsOperands l d us vs os → IsStrict l d ts vs (tree.strict at e os)

  -- The operands of a level: the next tighter level, and of the tightest un.
  pub data IsTighter : Level → ℕ → List Lexeme → List Lexeme → Expr → Type 0 where
    of_eq : {d : ℕ} {ts us : List Lexeme} {e : Expr} → IsStrict rel d ts us e → IsTighter eq d ts us e
    of_rel : {d : ℕ} {ts us : List Lexeme} {e : Expr} → IsStrict add d ts us e → IsTighter rel d ts us e
    of_add : {d : ℕ} {ts us : List Lexeme} {e : Expr} → IsStrict mul d ts us e → IsTighter add d ts us e
    of_mul : {d : ℕ} {ts us : List Lexeme} {e : Expr} → IsUn (suc d) ts us e → IsTighter mul d ts us e

  pub data IsOperands : Level → ℕ → List Lexeme → List Lexeme → Operands → Type 0 where
    operands_last : {l : Level} {m : Mark} {o : BinOp} {d : ℕ} {ts us vs : List Lexeme} {e : Expr} → IsOperator l m o
        → TakesMark m d ts us → IsTighter l d us vs e → IsOperands l d ts vs (tree.operand o e tree.no_operands)
    operands_more : {l : Level} {m : Mark} {o : BinOp} {d : ℕ} {ts us vs ws : List Lexeme} {e : Expr} {os : Operands} → IsOperator l m o
        → TakesMark m d ts us → IsTighter l d us vs e → IsOperands l d vs ws os
        → IsOperands l d ts ws (tree.operand o e os)

  -- un := ('-' | '!' | 'await') un | post
  pub data IsUn : ℕ → List Lexeme → List Lexeme → Expr → Type 0 where
    negative : {d at : ℕ} {ts us vs : List Lexeme} {e : Expr} → at ≡ place ts
        → TakesMark mark.Minus d ts us → IsUn (suc d) us vs e → IsUn d ts vs (tree.unary at unary.Neg e)
    opposite : {d at : ℕ} {ts us vs : List Lexeme} {e : Expr} → at ≡ place ts
        → TakesMark mark.Not d ts us → IsUn (suc d) us vs e → IsUn d ts vs (tree.unary at unary.Not e)
    await : {d at : ℕ} {ts us vs : List Lexeme} {e : Expr} → at ≡ place ts
        → TakesKey key.Await d ts us → IsUn (suc d) us vs e → IsUn d ts vs (tree.await at e)
    post : {d : ℕ} {ts us : List Lexeme} {e : Expr} → IsPost d ts us e → IsUn d ts us e

  -- post := prim ('.' Word | '[' expr ']' | '(' args ')')*
  pub data IsPost : ℕ → List Lexeme → List Lexeme → Expr → Type 0 where
    prim : {d : ℕ} {ts us : List Lexeme} {e : Expr} → IsPrim d ts us e → IsPost d ts us e
    path : {d at : ℕ} {ts us vs : List Lexeme} {e : Expr} {ls : Links} → at ≡ place ts → ls ≢ tree.no_links
        → IsPrim d ts us e → IsLinks d us vs ls → IsPost d ts vs (tree.path at e ls)

  pub data IsLinks : ℕ → List Lexeme → List Lexeme → Links → Type 0 where
    link_none : {d : ℕ} {ts : List Lexeme} → IsLinks d ts ts tree.no_links
    link_field : {d : ℕ} {ts us vs ws : List Lexeme} {n : Named} {ls : Links}
        → TakesMark mark.Dot d ts us → TakesAnyWord n d us vs → IsLinks d vs ws ls → IsLinks d ts ws (tree.field n ls)
    link_index : {d at : ℕ} {ts us vs ws xs : List Lexeme} {e : Expr} {ls : Links} → at ≡ place ts
        → TakesMark mark.OpenBracket d ts us → IsExpr (suc d) us vs e → TakesMark mark.CloseBracket d vs ws → IsLinks d ws xs ls
        → IsLinks d ts xs (tree.index at e ls)
    link_call : {d at : ℕ} {ts us vs ws xs : List Lexeme} {a : Args} {ls : Links} → at ≡ place ts
        → TakesMark mark.OpenParen d ts us → IsArgs d us vs a → TakesMark mark.CloseParen d vs ws → IsLinks d ws xs ls
        → IsLinks d ts xs (tree.call at a ls)

  -- args := (arg (',' arg)* ','?)?
  pub data IsArgs : ℕ → List Lexeme → List Lexeme → Args → Type 0 where
    args_none : {d : ℕ} {ts : List Lexeme} → IsArgs d ts ts tree.no_args
    args_last : {d : ℕ} {ts us : List Lexeme} {a : Args} → IsArg d ts us tree.no_args a → IsArgs d ts us a
    args_last_comma : {d : ℕ} {ts us vs : List Lexeme} {a : Args}
        → IsArg d ts us tree.no_args a → TakesMark mark.Comma d us vs → IsArgs d ts vs a
    args_more : {d : ℕ} {ts us vs ws : List Lexeme} {a rest : Args} → rest ≢ tree.no_args
        → IsArg d ts us rest a → TakesMark mark.Comma d us vs → IsArgs d vs ws rest → IsArgs d ts ws a

  -- arg := expr | 'async' '(' Name? ')' '=>' block. The last is the argument with the rest behind it.
  pub data IsArg : ℕ → List Lexeme → List Lexeme → Args → Args → Type 0 where
    arg_value : {d : ℕ} {ts us : List Lexeme} {e : Expr} {rest : Args} → IsExpr (suc d) ts us e → IsArg d ts us rest (tree.value_arg e rest)
    arg_callback : {d at : ℕ} {ts us vs ws xs ys zs : List Lexeme} {n : Option Named} {body : Items} {rest : Args} → at ≡ place ts
        → TakesKey key.Async d ts us → TakesMark mark.OpenParen d us vs → IsOptionName d vs ws n → TakesMark mark.CloseParen d ws xs
        → TakesMark mark.Arrow d xs ys → IsBlock d ys zs body
        → IsArg d ts zs rest (tree.callback at n body rest)

  pub data IsOptionName : ℕ → List Lexeme → List Lexeme → Option Named → Type 0 where
    option_name_none : {d : ℕ} {ts : List Lexeme} → IsOptionName d ts ts None
    option_name_name : {d : ℕ} {ts us : List Lexeme} {n : Named} → TakesName n d ts us → IsOptionName d ts us (Some n)

  -- prim := number | text | 'true' | 'false' | 'null' | 'undefined' | 'this' | Name | '(' expr ')'
  --       | '[' (expr (',' expr)* ','?)? ']' | '{' (pair (',' pair)* ','?)? '}' | 'new' 'Error' '(' expr? ')'
  pub data IsPrim : ℕ → List Lexeme → List Lexeme → Expr → Type 0 where
    number : {d at n : ℕ} {ts us : List Lexeme} → at ≡ place ts → (t : Takes kind.Number d ts us) → n ≡ number_of t.token
        → IsPrim d ts us (tree.number at (pos n))
    text : {d at : ℕ} {ts us : List Lexeme} {bytes : List ℕ} → TakesText at bytes d ts us → IsPrim d ts us (tree.text at bytes)
    yes : {d at : ℕ} {ts us : List Lexeme} → at ≡ place ts → TakesKey key.True d ts us → IsPrim d ts us (tree.boolean at true)
    no : {d at : ℕ} {ts us : List Lexeme} → at ≡ place ts → TakesKey key.False d ts us → IsPrim d ts us (tree.boolean at false)
    null : {d at : ℕ} {ts us : List Lexeme} → at ≡ place ts → TakesKey key.Null d ts us → IsPrim d ts us (tree.null at)
    undefined : {d at : ℕ} {ts us : List Lexeme} → at ≡ place ts → TakesKey key.Undefined d ts us → IsPrim d ts us (tree.undefined at)
    this : {d at : ℕ} {ts us : List Lexeme} → at ≡ place ts → TakesKey key.This d ts us → IsPrim d ts us (tree.this at)
    variable : {d : ℕ} {ts us : List Lexeme} {n : Named} → TakesName n d ts us → IsPrim d ts us (tree.variable n)
    group : {d at : ℕ} {ts us vs ws : List Lexeme} {e : Expr} → at ≡ place ts
        → TakesMark mark.OpenParen d ts us → IsExpr (suc d) us vs e → TakesMark mark.CloseParen d vs ws
        → IsPrim d ts ws (tree.group at e)
    list : {d at : ℕ} {ts us vs ws : List Lexeme} {es : Exprs} → at ≡ place ts
        → TakesMark mark.OpenBracket d ts us → IsExprs d us vs es → TakesMark mark.CloseBracket d vs ws
        → IsPrim d ts ws (tree.list at es)
    rec : {d at : ℕ} {ts us vs ws : List Lexeme} {ps : Pairs} → at ≡ place ts
        → TakesMark mark.OpenBrace d ts us → IsPairs d us vs ps → TakesMark mark.CloseBrace d vs ws
        → IsPrim d ts ws (tree.rec at ps)
    new_error : {d at : ℕ} {ts us vs ws xs ys : List Lexeme} {m : OptionExpr} → at ≡ place ts
        → TakesKey key.New d ts us → TakesWord (codes "Error") d us vs → TakesMark mark.OpenParen d vs ws
        → IsOptionExpr d ws xs m → TakesMark mark.CloseParen d xs ys
        → IsPrim d ts ys (tree.new_error at m)

  pub data IsOptionExpr : ℕ → List Lexeme → List Lexeme → OptionExpr → Type 0 where
    option_expr_none : {d : ℕ} {ts : List Lexeme} → IsOptionExpr d ts ts tree.no_expr
    option_expr_some : {d : ℕ} {ts us : List Lexeme} {e : Expr} → IsExpr (suc d) ts us e → IsOptionExpr d ts us (tree.some_expr e)

  pub data IsExprs : ℕ → List Lexeme → List Lexeme → Exprs → Type 0 where
    exprs_none : {d : ℕ} {ts : List Lexeme} → IsExprs d ts ts tree.no_exprs
    exprs_last : {d : ℕ} {ts us : List Lexeme} {e : Expr} → IsExpr (suc d) ts us e → IsExprs d ts us (tree.expr e tree.no_exprs)
    exprs_last_comma : {d : ℕ} {ts us vs : List Lexeme} {e : Expr}
        → IsExpr (suc d) ts us e → TakesMark mark.Comma d us vs → IsExprs d ts vs (tree.expr e tree.no_exprs)
    exprs_more : {d : ℕ} {ts us vs ws : List Lexeme} {e : Expr} {es : Exprs} → es ≢ tree.no_exprs
        → IsExpr (suc d) ts us e → TakesMark mark.Comma d us vs → IsExprs d vs ws es → IsExprs d ts ws (tree.expr e es)

  pub data IsPairs : ℕ → List Lexeme → List Lexeme → Pairs → Type 0 where
    pairs_none : {d : ℕ} {ts : List Lexeme} → IsPairs d ts ts tree.no_pairs
    pairs_last : {d : ℕ} {ts us : List Lexeme} {n : Named} {v : OptionExpr} → IsPair d ts us n v → IsPairs d ts us (tree.pair n v tree.no_pairs)
    pairs_last_comma : {d : ℕ} {ts us vs : List Lexeme} {n : Named} {v : OptionExpr}
        → IsPair d ts us n v → TakesMark mark.Comma d us vs → IsPairs d ts vs (tree.pair n v tree.no_pairs)
    pairs_more : {d : ℕ} {ts us vs ws : List Lexeme} {n : Named} {v : OptionExpr} {ps : Pairs} → ps ≢ tree.no_pairs
        → IsPair d ts us n v → TakesMark mark.Comma d us vs → IsPairs d vs ws ps → IsPairs d ts ws (tree.pair n v ps)

  -- pair := (Word | text) ':' expr | Name
  pub data IsPair : ℕ → List Lexeme → List Lexeme → Named → OptionExpr → Type 0 where
    pair_word : {d : ℕ} {ts us vs ws : List Lexeme} {n : Named} {e : Expr}
        → TakesAnyWord n d ts us → TakesMark mark.Colon d us vs → IsExpr (suc d) vs ws e → IsPair d ts ws n (tree.some_expr e)
    pair_text : {d : ℕ} {ts us vs ws : List Lexeme} {n : Named} {e : Expr}
        → TakesText n.at n.text d ts us → TakesMark mark.Colon d us vs → IsExpr (suc d) vs ws e → IsPair d ts ws n (tree.some_expr e)
    pair_name : {d : ℕ} {ts us : List Lexeme} {n : Named} → TakesName n d ts us → IsPair d ts us n tree.no_expr

  -- block := '{' item* '}'
  pub data IsBlock : ℕ → List Lexeme → List Lexeme → Items → Type 0 where
    in_block : {d : ℕ} {ts us vs ws : List Lexeme} {is : Items}
        → TakesMark mark.OpenBrace d ts us → IsItems d us vs is → TakesMark mark.CloseBrace d vs ws → IsBlock d ts ws is

  -- item := 'let' Name ('=' expr)? ';' | 'const' Name '=' expr ';' | stmt
  pub data IsItems : ℕ → List Lexeme → List Lexeme → Items → Type 0 where
    items_none : {d : ℕ} {ts : List Lexeme} → IsItems d ts ts tree.no_items
    items_let_alone : {d at : ℕ} {ts us vs ws xs : List Lexeme} {n : Named} {is : Items} → at ≡ place ts
        → TakesKey key.Let d ts us → TakesName n d us vs → TakesMark mark.Semicolon d vs ws → IsItems d ws xs is
        → IsItems d ts xs (tree.declare at bind.Let n tree.no_expr is)
    items_declared : {d at : ℕ} {ts us vs ws xs ys zs : List Lexeme} {b : Binding} {n : Named} {e : Expr} {is : Items} → at ≡ place ts
        → TakesKey (binding_key b) d ts us → TakesName n d us vs → TakesMark mark.Assign d vs ws → IsExpr (suc d) ws xs e
        → TakesMark mark.Semicolon d xs ys → IsItems d ys zs is
        → IsItems d ts zs (tree.declare at b n (tree.some_expr e) is)
    items_statement : {d : ℕ} {ts us vs : List Lexeme} {s : Stmt} {is : Items}
        → IsStmt (suc d) ts us s → IsItems d us vs is → IsItems d ts vs (tree.statement s is)

  -- stmt := block | 'if' .. | 'while' .. | 'for' .. | 'try' .. | 'throw' .. | 'return' .. | 'break' ';'
  --       | 'continue' ';' | simple ';'
  pub data IsStmt : ℕ → List Lexeme → List Lexeme → Stmt → Type 0 where
    block : {d at : ℕ} {ts us : List Lexeme} {is : Items} → at ≡ place ts → IsBlock d ts us is → IsStmt d ts us (tree.block at is)
    choose : {d at : ℕ} {ts us vs ws xs ys zs : List Lexeme} {test : Expr} {s : Stmt} {other : OptionStmt} → at ≡ place ts
        → TakesKey key.If d ts us → TakesMark mark.OpenParen d us vs → IsExpr (suc d) vs ws test → TakesMark mark.CloseParen d ws xs
        → IsStmt (suc d) xs ys s → IsElse d ys zs other
        → IsStmt d ts zs (tree.choose at test s other)
    while : {d at : ℕ} {ts us vs ws xs ys : List Lexeme} {test : Expr} {s : Stmt} → at ≡ place ts
        → TakesKey key.While d ts us → TakesMark mark.OpenParen d us vs → IsExpr (suc d) vs ws test → TakesMark mark.CloseParen d ws xs
        → IsStmt (suc d) xs ys s
        → IsStmt d ts ys (tree.while at test s)
    for : {d at : ℕ} {t₀ t₁ t₂ t₃ t₄ t₅ t₆ t₇ t₈ t₉ t₁₀ t₁₁ t₁₂ : List Lexeme} {n : Named} {first test : Expr} {step : Simple} {s : Stmt} → at ≡ place t₀
        → TakesKey key.For d t₀ t₁ → TakesMark mark.OpenParen d t₁ t₂ → TakesKey key.Let d t₂ t₃ → TakesName n d t₃ t₄
        → TakesMark mark.Assign d t₄ t₅ → IsExpr (suc d) t₅ t₆ first → TakesMark mark.Semicolon d t₆ t₇
        → IsExpr (suc d) t₇ t₈ test → TakesMark mark.Semicolon d t₈ t₉ → IsSimple d t₉ t₁₀ step
        → TakesMark mark.CloseParen d t₁₀ t₁₁ → IsStmt (suc d) t₁₁ t₁₂ s
        → IsStmt d t₀ t₁₂ (tree.for at n first test step s)
    for_of : {d at : ℕ} {t₀ t₁ t₂ t₃ t₄ t₅ t₆ t₇ t₈ : List Lexeme} {b : Binding} {n : Named} {l : Expr} {s : Stmt} → at ≡ place t₀
        → TakesKey key.For d t₀ t₁ → TakesMark mark.OpenParen d t₁ t₂ → TakesKey (binding_key b) d t₂ t₃ → TakesName n d t₃ t₄
        → TakesWord (codes "of") d t₄ t₅ → IsExpr (suc d) t₅ t₆ l → TakesMark mark.CloseParen d t₆ t₇ → IsStmt (suc d) t₇ t₈ s
        → IsStmt d t₀ t₈ (tree.for_of at b n l s)
    try : {d at : ℕ} {ts us vs ws xs ys : List Lexeme} {body handler : Items} {n : Option Named} → at ≡ place ts
        → TakesKey key.Try d ts us → IsBlock d us vs body → TakesKey key.Catch d vs ws → IsCaught d ws xs n → IsBlock d xs ys handler
        → IsStmt d ts ys (tree.try at body n handler)
    throw : {d at : ℕ} {ts us vs ws : List Lexeme} {e : Expr} → at ≡ place ts
        → TakesKey key.Throw d ts us → IsExpr (suc d) us vs e → TakesMark mark.Semicolon d vs ws → IsStmt d ts ws (tree.throw at e)
    return : {d at : ℕ} {ts us vs ws : List Lexeme} {e : OptionExpr} → at ≡ place ts
        → TakesKey key.Return d ts us → IsOptionExpr d us vs e → TakesMark mark.Semicolon d vs ws → IsStmt d ts ws (tree.return at e)
    break : {d at : ℕ} {ts us vs : List Lexeme} → at ≡ place ts
        → TakesKey key.Break d ts us → TakesMark mark.Semicolon d us vs → IsStmt d ts vs (tree.break at)
    continue : {d at : ℕ} {ts us vs : List Lexeme} → at ≡ place ts
        → TakesKey key.Continue d ts us → TakesMark mark.Semicolon d us vs → IsStmt d ts vs (tree.continue at)
    -- a statement that begins with { is a block
    simple : {d : ℕ} {ts us vs : List Lexeme} {s : Simple} → BeginsWithNo (kind.Mark mark.OpenBrace) ts
        → IsSimple d ts us s → TakesMark mark.Semicolon d us vs → IsStmt d ts vs (tree.simple s)

  -- ('else' stmt)?, and else belongs to the nearest if
  pub data IsElse : ℕ → List Lexeme → List Lexeme → OptionStmt → Type 0 where
    else_none : {d : ℕ} {ts : List Lexeme} → BeginsWithNo (kind.Keyword key.Else) ts → IsElse d ts ts tree.no_stmt
    else_other : {d : ℕ} {ts us vs : List Lexeme} {s : Stmt} → TakesKey key.Else d ts us → IsStmt (suc d) us vs s → IsElse d ts vs (tree.some_stmt s)

  -- ('(' Name ')')?
  pub data IsCaught : ℕ → List Lexeme → List Lexeme → Option Named → Type 0 where
    caught_none : {d : ℕ} {ts : List Lexeme} → IsCaught d ts ts None
    caught_name : {d : ℕ} {ts us vs ws : List Lexeme} {n : Named}
        → TakesMark mark.OpenParen d ts us → TakesName n d us vs → TakesMark mark.CloseParen d vs ws → IsCaught d ts ws (Some n)

  -- simple := expr (('=' | '+=' | '-=') expr | '++' | '--')?
  pub data IsSimple : ℕ → List Lexeme → List Lexeme → Simple → Type 0 where
    simple_run : {d at : ℕ} {ts us : List Lexeme} {e : Expr} → at ≡ place ts → IsExpr (suc d) ts us e → IsSimple d ts us (tree.run at e)
    simple_assign : {d at : ℕ} {ts us vs ws : List Lexeme} {p e : Expr} → at ≡ place ts
        → IsExpr (suc d) ts us p → TakesMark mark.Assign d us vs → IsExpr (suc d) vs ws e → IsSimple d ts ws (tree.assign at p e)
    simple_add_assign : {d at : ℕ} {ts us vs ws : List Lexeme} {p e : Expr} → at ≡ place ts
        → IsExpr (suc d) ts us p → TakesMark mark.AddAssign d us vs → IsExpr (suc d) vs ws e → IsSimple d ts ws (tree.add_assign at p e)
    simple_sub_assign : {d at : ℕ} {ts us vs ws : List Lexeme} {p e : Expr} → at ≡ place ts
        → IsExpr (suc d) ts us p → TakesMark mark.SubAssign d us vs → IsExpr (suc d) vs ws e → IsSimple d ts ws (tree.sub_assign at p e)
    simple_increment : {d at : ℕ} {ts us vs : List Lexeme} {p : Expr} → at ≡ place ts
        → IsExpr (suc d) ts us p → TakesMark mark.Increment d us vs → IsSimple d ts vs (tree.increment at p)
    simple_decrement : {d at : ℕ} {ts us vs : List Lexeme} {p : Expr} → at ≡ place ts
        → IsExpr (suc d) ts us p → TakesMark mark.Decrement d us vs → IsSimple d ts vs (tree.decrement at p)

-- (Name (',' Name)*)?
pub data AreNames : List Lexeme → List Lexeme → List Named → Type 0 where
  none : {ts : List Lexeme} → AreNames ts ts []
  last : {ts us : List Lexeme} {n : Named} → TakesName n zero ts us → AreNames ts us (n ∷ [])
  more : {ts us vs ws : List Lexeme} {n m : Named} {ns : List Named}
      → TakesName n zero ts us → TakesMark mark.Comma zero us vs → AreNames vs ws (m ∷ ns) → AreNames ts ws (n ∷ m ∷ ns)

-- '(' 'ctx' ',' 'env' ')', as names
pub data TakesCtxEnv : List Lexeme → List Lexeme → List Named → Type 0 where
  ctx_env : {ts us vs ws xs ys : List Lexeme} {c e : Named} → c.text ≡ codes "ctx" → e.text ≡ codes "env"
      → TakesMark mark.OpenParen zero ts us → TakesName c zero us vs → TakesMark mark.Comma zero vs ws → TakesName e zero ws xs
      → TakesMark mark.CloseParen zero xs ys
      → TakesCtxEnv ts ys (c ∷ e ∷ [])

-- member := 'constructor' '(' 'ctx' ',' 'env' ')' '{' 'super' '(' 'ctx' ',' 'env' ')' ';' item* '}'
--         | 'async'? Name '(' (Name (',' Name)*)? ')' block
pub data IsMember : List Lexeme → List Lexeme → Method → Type 0 where
  constructor : {ts us vs ws xs ys zs end : List Lexeme} {m : Method} {super : List Named} → m.at ≡ place ts
      → m.kind ≡ method.Constructor → m.name.at ≡ place ts → m.name.text ≡ codes "constructor"
      → TakesKey key.Constructor zero ts us → TakesCtxEnv us vs m.parameters → TakesMark mark.OpenBrace zero vs ws
      → TakesKey key.Super zero ws xs → TakesCtxEnv xs ys super → TakesMark mark.Semicolon zero ys zs
      → (rest : List Lexeme) → IsItems zero zs rest m.body → TakesMark mark.CloseBrace zero rest end
      → IsMember ts end m
  sync : {ts us vs ws xs ys : List Lexeme} {m : Method} → m.at ≡ place ts → m.kind ≡ method.Sync
      → TakesName m.name zero ts us → TakesMark mark.OpenParen zero us vs → AreNames vs ws m.parameters
      → TakesMark mark.CloseParen zero ws xs → IsBlock zero xs ys m.body
      → IsMember ts ys m
  async : {ts us vs ws xs ys zs : List Lexeme} {m : Method} → m.at ≡ place ts → m.kind ≡ method.Async
      → TakesKey key.Async zero ts us → TakesName m.name zero us vs → TakesMark mark.OpenParen zero vs ws → AreNames ws xs m.parameters
      → TakesMark mark.CloseParen zero xs ys → IsBlock zero ys zs m.body
      → IsMember ts zs m

pub data AreMembers : List Lexeme → List Lexeme → List Method → Type 0 where
  none : {ts : List Lexeme} → AreMembers ts ts []
  more : {ts us vs : List Lexeme} {m : Method} {ms : List Method} → IsMember ts us m → AreMembers us vs ms → AreMembers ts vs (m ∷ ms)

-- class := 'export' 'class' Name 'extends' 'DurableObject' '{' member* '}'
pub data IsClass : List Lexeme → List Lexeme → Class → Type 0 where
  class : {ts us vs ws xs ys zs end : List Lexeme} {c : Class} → c.at ≡ place ts
      → TakesKey key.Export zero ts us → TakesKey key.Class zero us vs → TakesName c.name zero vs ws
      → TakesKey key.Extends zero ws xs → TakesWord (codes "DurableObject") zero xs ys → TakesMark mark.OpenBrace zero ys zs
      → (rest : List Lexeme) → AreMembers zs rest c.methods → TakesMark mark.CloseBrace zero rest end
      → IsClass ts end c

-- class+
pub data AreClasses : List Lexeme → List Lexeme → List Class → Type 0 where
  last : {ts us : List Lexeme} {c : Class} → IsClass ts us c → AreClasses ts us (c ∷ [])
  more : {ts us vs : List Lexeme} {c d : Class} {cs : List Class} → IsClass ts us c → AreClasses us vs (d ∷ cs) → AreClasses ts vs (c ∷ d ∷ cs)

-- import := 'import' '{' 'DurableObject' '}' 'from' "cloudflare:workers" ';'
pub data IsImport : List Lexeme → List Lexeme → Option ℕ → Type 0 where
  none : {ts : List Lexeme} → IsImport ts ts None
  import : {at text_at : ℕ} {ts us vs ws xs ys zs end : List Lexeme} → at ≡ place ts
      → TakesKey key.Import zero ts us → TakesMark mark.OpenBrace zero us vs → TakesWord (codes "DurableObject") zero vs ws
      → TakesMark mark.CloseBrace zero ws xs → TakesWord (codes "from") zero xs ys → TakesText text_at (codes "cloudflare:workers") zero ys zs
      → TakesMark mark.Semicolon zero zs end
      → IsImport ts end (Some at)

-- script := import? class+
pub record IsScript (ts : List Lexeme) (s : Script) : Type 0 where
  pub rest : List Lexeme
  pub import : IsImport ts rest s.import
  pub classes : AreClasses rest [] s.classes
