-- Lists of phrases, and phrases that begin with a token.
use Rattle.std.specs.Prelude.{◌≡◌, ◌≢◌, ℕ, List, [], ◌∷◌, Option, Some, None}
use Rattle.do_value.specs.declared.operator.BinOp.{BinOp}
use Rattle.do_lex.specs.declared.kind.Kind.{Kind}
use Rattle.do_lex.specs.declared.kind.Mark.TheVariants as mark
use Rattle.do_tree.specs.Grammar.{TakesMark, Level, IsRest, IsOperands, IsLinks, IsArg, IsPair, IsItems}
use Rattle.do_tree.specs.Lexeme.{Lexeme}
use Rattle.do_tree.specs.Tree as tree
use Rattle.do_tree.specs.declared.expr.Chain.{Chain}
use Rattle.do_tree.specs.declared.stmt.Binding.{Binding}
use Rattle.do_parse.specs.Parsed.{Phrase}

-- The lexemes begin with this kind.
abbrev pub BeginsWith : Kind → List Lexeme → Type 0
BeginsWith k [] = ⊥
BeginsWith k (t ∷ _) = t.kind ≡ k

-- A phrase that begins with this kind.
abbrev pub Starting : {A : Type 0} → Kind → Phrase A → Phrase A
Starting k P ts us tree = BeginsWith k ts × P ts us tree

-- Phrases one behind another, any number of them.
pub data Repeat {A : Type 0} (P : Phrase A) : List Lexeme → List Lexeme → List A → Type 0 where
  stop : {ts : List Lexeme} → Repeat P ts ts []
  again : {ts us vs : List Lexeme} {x : A} {xs : List A} → P ts us x → Repeat P us vs xs → Repeat P ts vs (x ∷ xs)

-- Phrases with commas between them, any number of them; a comma may stand behind the last.
pub data CommaList {A : Type 0} (P : Phrase A) (d : ℕ) : List Lexeme → List Lexeme → List A → Type 0 where
  none : {ts : List Lexeme} → CommaList P d ts ts []
  last : {ts us : List Lexeme} {x : A} → P ts us x → CommaList P d ts us (x ∷ [])
  last_comma : {ts us vs : List Lexeme} {x : A} → P ts us x → TakesMark mark.Comma d us vs → CommaList P d ts vs (x ∷ [])
  more : {ts us vs ws : List Lexeme} {x y : A} {xs : List A} → P ts us x → TakesMark mark.Comma d us vs
      → CommaList P d vs ws (y ∷ xs) → CommaList P d ts ws (x ∷ y ∷ xs)

-- Lists of expressions, as the tree has them.
abbrev pub exprs_from : List tree.Expr → tree.Exprs
exprs_from [] = tree.no_exprs
exprs_from (e ∷ es) = tree.expr e (exprs_from es)

-- An operator and the operand behind it.
pub record Operand : Type 0 where
  pub op : BinOp
  pub value : tree.Expr

abbrev pub operands_from : List Operand → tree.Operands
operands_from [] = tree.no_operands
operands_from (o ∷ os) = tree.operand o.op o.value (operands_from os)

-- One step of a path.
pub data Link : Type 0 where
  field : tree.Named → Link
  index : ℕ → tree.Expr → Link
  call : ℕ → tree.Args → Link

abbrev pub with_link : Link → tree.Links → tree.Links
with_link (field n) rest = tree.field n rest
with_link (index at e) rest = tree.index at e rest
with_link (call at args) rest = tree.call at args rest

abbrev pub links_from : List Link → tree.Links
links_from [] = tree.no_links
links_from (l ∷ ls) = with_link l (links_from ls)

-- One argument of a call.
pub data Arg : Type 0 where
  value : tree.Expr → Arg
  callback : ℕ → Option tree.Named → tree.Items → Arg

abbrev pub with_arg : Arg → tree.Args → tree.Args
with_arg (value e) rest = tree.value_arg e rest
with_arg (callback at n body) rest = tree.callback at n body rest

abbrev pub args_from : List Arg → tree.Args
args_from [] = tree.no_args
args_from (a ∷ as_) = with_arg a (args_from as_)

-- One pair of a record.
pub record Pair : Type 0 where
  pub key : tree.Named
  pub value : tree.OptionExpr

abbrev pub pairs_from : List Pair → tree.Pairs
pairs_from [] = tree.no_pairs
pairs_from (p ∷ ps) = tree.pair p.key p.value (pairs_from ps)

-- One item of a block.
pub data Item : Type 0 where
  declare : ℕ → Binding → tree.Named → tree.OptionExpr → Item
  statement : tree.Stmt → Item

abbrev pub with_one : Item → tree.Items → tree.Items
with_one (declare at b n v) rest = tree.declare at b n v rest
with_one (statement s) rest = tree.statement s rest

abbrev pub items_from : List Item → tree.Items
items_from [] = tree.no_items
items_from (i ∷ is) = with_one i (items_from is)

-- One element of each list: the list that has it alone.
abbrev pub IsNextOperand : Chain → ℕ → Phrase tree.Expr
IsNextOperand c d ts us e = IsRest c d ts us (tree.expr e tree.no_exprs)

abbrev pub IsOperand : Level → ℕ → Phrase Operand
IsOperand l d ts us o = IsOperands l d ts us (tree.operand o.op o.value tree.no_operands)

abbrev pub IsLink : ℕ → Phrase Link
IsLink d ts us l = IsLinks d ts us (with_link l tree.no_links)

abbrev pub IsOneArg : ℕ → Phrase Arg
IsOneArg d ts us a = IsArg d ts us tree.no_args (with_arg a tree.no_args)

abbrev pub IsOnePair : ℕ → Phrase Pair
IsOnePair d ts us p = IsPair d ts us p.key p.value

abbrev pub IsItem : ℕ → Phrase Item
IsItem d ts us i = IsItems d ts us (with_one i tree.no_items)
