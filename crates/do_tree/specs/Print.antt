-- The text of a script, from its tree: its tokens, with a space between two only where they would be cut
-- otherwise. No comma comes last, a key is a word where it can be, and a text stands in the quote that it has
-- fewer of.
use Rattle.std.specs.Prelude.{ℕ, ℤ, pos, negsuc, zero, suc, ◌+◌, map, ◌==◌, ◌||◌, ◌&&◌, nat_le, Bool, true, false, if◌then◌else◌, List, [], ◌∷◌, ◌++◌, Option, Some, None, codes, count_by}
use Rattle.std.specs.Int.Digits.{digits_of}
use Rattle.std.specs.List.{list_all}
use Rattle.do_value.specs.declared.operator.BinOp.{BinOp}
use Rattle.do_value.specs.declared.operator.BinOp.TheVariants as op
use Rattle.do_value.specs.declared.operator.UnOp.{UnOp}
use Rattle.do_value.specs.declared.operator.UnOp.TheVariants as unary
use Rattle.do_lex.specs.Bytes.{is_letter_or_digit, is_word_byte, is_word_start}
use Rattle.do_lex.specs.Kind.{keyword_text, mark_text}
use Rattle.do_lex.specs.Next.{begins}
use Rattle.do_lex.specs.declared.kind.Keyword.{Keyword}
use Rattle.do_lex.specs.declared.kind.Keyword.TheVariants as key
use Rattle.do_lex.specs.declared.kind.Mark.{Mark}
use Rattle.do_lex.specs.declared.kind.Mark.TheVariants as mark
use Rattle.do_tree.specs.Grammar.{binding_key, chain_mark}
use Rattle.do_tree.specs.Tree as tree
use Rattle.do_tree.specs.Tree.{Named, Expr, OptionExpr, Exprs, Operands, Links, Args, Pairs, Items, Stmt, OptionStmt, Simple, Method, Class, Script}
use Rattle.do_tree.specs.declared.print_word.Edge.{Edge}
use Rattle.do_tree.specs.declared.print_word.Edge.TheVariants as edge
use Rattle.do_tree.specs.declared.expr.Chain.{Chain}
use Rattle.do_tree.specs.declared.script.MethodKind.{MethodKind}
use Rattle.do_tree.specs.declared.script.MethodKind.TheVariants as method

-- A token that is printed: its bytes, and what it ends with.
pub record Piece : Type 0 where
  pub edge : Edge
  pub text : List ℕ

-- The token would be cut otherwise if it stood at once behind one that ends so: two words or numbers would be
-- one or a fault, and two minus signs a decrement.
abbrev pub needs_space : Edge → List ℕ → Bool
needs_space edge.Word text = begins is_word_byte text
needs_space edge.Number text = begins is_letter_or_digit text
needs_space edge.Minus text = begins (λ b. b == 45) text
needs_space edge.Other text = false

-- What stands before a token: a space or nothing.
abbrev pub gap : Edge → List ℕ → List ℕ
gap before text = if needs_space before text then 32 ∷ [] else []

-- The text of tokens behind one that ends so, and the text of tokens.
abbrev pub text_behind : Edge → List Piece → List ℕ
text_behind before [] = []
text_behind before (p ∷ ps) = gap before p.text ++ (p.text ++ text_behind p.edge ps)

abbrev pub text_of_pieces : List Piece → List ℕ
text_of_pieces ps = text_behind edge.Other ps

-- A word, a keyword, a mark.
abbrev pub word : List ℕ → Piece
word text = record { edge = edge.Word; text = text }

abbrev pub keyword : Keyword → Piece
keyword k = word (keyword_text k)

abbrev pub mark_edge : Mark → Edge
mark_edge mark.Minus = edge.Minus
mark_edge _ = edge.Other

abbrev pub a_mark : Mark → Piece
a_mark m = record { edge = mark_edge m; text = mark_text m }

-- Decimal digits, the highest first.
abbrev pub digits_text : ℕ → List ℕ
digits_text zero = 48 ∷ []
digits_text (suc n) = map (λ d. 48 + d) (digits_of 10 (suc n))

abbrev pub number_text : ℤ → List ℕ
number_text (pos n) = digits_text n
number_text (negsuc n) = 45 ∷ digits_text (suc n)

abbrev pub number : ℤ → Piece
number z = record { edge = edge.Number; text = number_text z }

-- A byte of a text: the backslash, the quote, LF and CR as their escapes, each other as it is.
abbrev pub text_of_byte : ℕ → ℕ → List ℕ
text_of_byte quote b =
    if (b == 92) || (b == quote) then 92 ∷ b ∷ []
    else (if b == 10 then 92 ∷ 110 ∷ []
    else (if b == 13 then 92 ∷ 114 ∷ []
    else b ∷ []))

abbrev pub text_of_bytes : ℕ → List ℕ → List ℕ
text_of_bytes quote [] = []
text_of_bytes quote (b ∷ bs) = text_of_byte quote b ++ text_of_bytes quote bs

-- How often a byte stands in a text.
abbrev pub count_of : ℕ → List ℕ → ℕ
count_of c bytes = count_by (λ b. b == c) bytes

-- The quote that a text has fewer of.
abbrev pub quote_of : List ℕ → ℕ
quote_of bytes = if nat_le (count_of 34 bytes) (count_of 39 bytes) then 34 else 39

abbrev pub quoted_in : ℕ → List ℕ → List ℕ
quoted_in quote bytes = quote ∷ (text_of_bytes quote bytes ++ quote ∷ [])

abbrev pub quoted : List ℕ → Piece
quoted bytes = record { edge = edge.Other; text = quoted_in (quote_of bytes) bytes }

-- A key: as a word where it has the shape of one.
abbrev pub is_word : List ℕ → Bool
is_word text = begins is_word_start text && list_all is_word_byte text

abbrev pub a_key : List ℕ → Piece
a_key text = if is_word text then word text else quoted text

abbrev pub operator_mark : BinOp → Mark
operator_mark op.Same = mark.Same
operator_mark op.Differs = mark.Differs
operator_mark op.Less = mark.Less
operator_mark op.LessEq = mark.LessEq
operator_mark op.Greater = mark.Greater
operator_mark op.GreaterEq = mark.GreaterEq
operator_mark op.Add = mark.Plus
operator_mark op.Sub = mark.Minus
operator_mark op.Mul = mark.Star
operator_mark op.Div = mark.Slash
operator_mark op.Rem = mark.Percent

abbrev pub unary_mark : UnOp → Mark
unary_mark unary.Neg = mark.Minus
unary_mark unary.Not = mark.Not

abbrev pub tokens_of_option_name : Option Named → List Piece
tokens_of_option_name None = []
tokens_of_option_name (Some n) = word n.text ∷ []

-- ('(' Name ')')?
abbrev pub tokens_of_caught : Option Named → List Piece
tokens_of_caught None = []
tokens_of_caught (Some n) = a_mark mark.OpenParen ∷ word n.text ∷ a_mark mark.CloseParen ∷ []

-- A comma before what follows, if something does.
abbrev pub before_exprs : Exprs → List Piece → List Piece
before_exprs tree.no_exprs ps = ps
before_exprs (tree.expr e es) ps = a_mark mark.Comma ∷ ps

abbrev pub before_args : Args → List Piece → List Piece
before_args tree.no_args ps = ps
before_args (tree.value_arg e rest) ps = a_mark mark.Comma ∷ ps
before_args (tree.callback at n is rest) ps = a_mark mark.Comma ∷ ps

abbrev pub before_pairs : Pairs → List Piece → List Piece
before_pairs tree.no_pairs ps = ps
before_pairs (tree.pair n v rest) ps = a_mark mark.Comma ∷ ps

abbrev mutual
  pub tokens_of_expr : Expr → List Piece
  tokens_of_expr (tree.choice at test a b) =
      tokens_of_expr test ++ a_mark mark.Question ∷ (tokens_of_expr a ++ a_mark mark.Colon ∷ tokens_of_expr b)
  tokens_of_expr (tree.lazy at k e es) = tokens_of_expr e ++ tokens_of_chained k es
  tokens_of_expr (tree.strict at e os) = tokens_of_expr e ++ tokens_of_operands os
  tokens_of_expr (tree.unary at o e) = a_mark (unary_mark o) ∷ tokens_of_expr e
  tokens_of_expr (tree.await at e) = keyword key.Await ∷ tokens_of_expr e
  tokens_of_expr (tree.path at e ls) = tokens_of_expr e ++ tokens_of_links ls
  tokens_of_expr (tree.number at z) = number z ∷ []
  tokens_of_expr (tree.text at bytes) = quoted bytes ∷ []
  tokens_of_expr (tree.boolean at true) = keyword key.True ∷ []
  tokens_of_expr (tree.boolean at false) = keyword key.False ∷ []
  tokens_of_expr (tree.null at) = keyword key.Null ∷ []
  tokens_of_expr (tree.undefined at) = keyword key.Undefined ∷ []
  tokens_of_expr (tree.this at) = keyword key.This ∷ []
  tokens_of_expr (tree.variable n) = word n.text ∷ []
  tokens_of_expr (tree.group at e) = a_mark mark.OpenParen ∷ (tokens_of_expr e ++ a_mark mark.CloseParen ∷ [])
  tokens_of_expr (tree.list at es) = a_mark mark.OpenBracket ∷ (tokens_of_elements es ++ a_mark mark.CloseBracket ∷ [])
  tokens_of_expr (tree.rec at ps) = a_mark mark.OpenBrace ∷ (tokens_of_pairs ps ++ a_mark mark.CloseBrace ∷ [])
  tokens_of_expr (tree.new_error at m) =
      keyword key.New ∷ word (codes "Error") ∷ a_mark mark.OpenParen ∷ (tokens_of_option_expr m ++ a_mark mark.CloseParen ∷ [])

  pub tokens_of_option_expr : OptionExpr → List Piece
  tokens_of_option_expr tree.no_expr = []
  tokens_of_option_expr (tree.some_expr e) = tokens_of_expr e

  -- ('=' expr)?
  pub tokens_of_initial : OptionExpr → List Piece
  tokens_of_initial tree.no_expr = []
  tokens_of_initial (tree.some_expr e) = a_mark mark.Assign ∷ tokens_of_expr e

  -- (':' expr)?
  pub tokens_of_pair : Named → OptionExpr → List Piece
  tokens_of_pair n tree.no_expr = word n.text ∷ []
  tokens_of_pair n (tree.some_expr e) = a_key n.text ∷ a_mark mark.Colon ∷ tokens_of_expr e

  -- the operands of a chain, each behind its mark
  pub tokens_of_chained : Chain → Exprs → List Piece
  tokens_of_chained k tree.no_exprs = []
  tokens_of_chained k (tree.expr e es) = a_mark (chain_mark k) ∷ (tokens_of_expr e ++ tokens_of_chained k es)

  pub tokens_of_operands : Operands → List Piece
  tokens_of_operands tree.no_operands = []
  tokens_of_operands (tree.operand o e os) = a_mark (operator_mark o) ∷ (tokens_of_expr e ++ tokens_of_operands os)

  pub tokens_of_elements : Exprs → List Piece
  tokens_of_elements tree.no_exprs = []
  tokens_of_elements (tree.expr e es) = tokens_of_expr e ++ before_exprs es (tokens_of_elements es)

  pub tokens_of_links : Links → List Piece
  tokens_of_links tree.no_links = []
  tokens_of_links (tree.field n ls) = a_mark mark.Dot ∷ word n.text ∷ tokens_of_links ls
  tokens_of_links (tree.index at e ls) = a_mark mark.OpenBracket ∷ (tokens_of_expr e ++ a_mark mark.CloseBracket ∷ tokens_of_links ls)
  tokens_of_links (tree.call at a ls) = a_mark mark.OpenParen ∷ (tokens_of_args a ++ a_mark mark.CloseParen ∷ tokens_of_links ls)

  pub tokens_of_args : Args → List Piece
  tokens_of_args tree.no_args = []
  tokens_of_args (tree.value_arg e rest) = tokens_of_expr e ++ before_args rest (tokens_of_args rest)
  tokens_of_args (tree.callback at n is rest) =
      keyword key.Async ∷ a_mark mark.OpenParen ∷ (tokens_of_option_name n ++ a_mark mark.CloseParen ∷ a_mark mark.Arrow
      ∷ a_mark mark.OpenBrace ∷ (tokens_of_items is ++ a_mark mark.CloseBrace ∷ before_args rest (tokens_of_args rest)))

  pub tokens_of_pairs : Pairs → List Piece
  tokens_of_pairs tree.no_pairs = []
  tokens_of_pairs (tree.pair n v ps) = tokens_of_pair n v ++ before_pairs ps (tokens_of_pairs ps)

  pub tokens_of_items : Items → List Piece
  tokens_of_items tree.no_items = []
  tokens_of_items (tree.declare at b n v is) =
      keyword (binding_key b) ∷ word n.text ∷ (tokens_of_initial v ++ a_mark mark.Semicolon ∷ tokens_of_items is)
  tokens_of_items (tree.statement s is) = tokens_of_stmt s ++ tokens_of_items is

  pub tokens_of_stmt : Stmt → List Piece
  tokens_of_stmt (tree.block at is) = a_mark mark.OpenBrace ∷ (tokens_of_items is ++ a_mark mark.CloseBrace ∷ [])
  tokens_of_stmt (tree.choose at e s o) =
      keyword key.If ∷ a_mark mark.OpenParen ∷ (tokens_of_expr e ++ a_mark mark.CloseParen ∷ (tokens_of_stmt s ++ tokens_of_other o))
  tokens_of_stmt (tree.while at e s) =
      keyword key.While ∷ a_mark mark.OpenParen ∷ (tokens_of_expr e ++ a_mark mark.CloseParen ∷ tokens_of_stmt s)
  tokens_of_stmt (tree.for at n first test step s) =
      keyword key.For ∷ a_mark mark.OpenParen ∷ keyword key.Let ∷ word n.text ∷ a_mark mark.Assign ∷ (tokens_of_expr first
      ++ a_mark mark.Semicolon ∷ (tokens_of_expr test ++ a_mark mark.Semicolon ∷ (tokens_of_simple step
      ++ a_mark mark.CloseParen ∷ tokens_of_stmt s)))
  tokens_of_stmt (tree.for_of at b n e s) =
      keyword key.For ∷ a_mark mark.OpenParen ∷ keyword (binding_key b) ∷ word n.text ∷ word (codes "of") ∷ (tokens_of_expr e
      ++ a_mark mark.CloseParen ∷ tokens_of_stmt s)
  tokens_of_stmt (tree.try at is n handler) =
      keyword key.Try ∷ a_mark mark.OpenBrace ∷ (tokens_of_items is ++ a_mark mark.CloseBrace ∷ keyword key.Catch ∷ (tokens_of_caught n
      ++ a_mark mark.OpenBrace ∷ (tokens_of_items handler ++ a_mark mark.CloseBrace ∷ [])))
  tokens_of_stmt (tree.throw at e) = keyword key.Throw ∷ (tokens_of_expr e ++ a_mark mark.Semicolon ∷ [])
  tokens_of_stmt (tree.return at e) = keyword key.Return ∷ (tokens_of_option_expr e ++ a_mark mark.Semicolon ∷ [])
  tokens_of_stmt (tree.break at) = keyword key.Break ∷ a_mark mark.Semicolon ∷ []
  tokens_of_stmt (tree.continue at) = keyword key.Continue ∷ a_mark mark.Semicolon ∷ []
  tokens_of_stmt (tree.simple p) = tokens_of_simple p ++ a_mark mark.Semicolon ∷ []

  pub tokens_of_other : OptionStmt → List Piece
  tokens_of_other tree.no_stmt = []
  tokens_of_other (tree.some_stmt s) = keyword key.Else ∷ tokens_of_stmt s

  pub tokens_of_simple : Simple → List Piece
  tokens_of_simple (tree.run at e) = tokens_of_expr e
  tokens_of_simple (tree.assign at p e) = tokens_of_expr p ++ a_mark mark.Assign ∷ tokens_of_expr e
  tokens_of_simple (tree.add_assign at p e) = tokens_of_expr p ++ a_mark mark.AddAssign ∷ tokens_of_expr e
  tokens_of_simple (tree.sub_assign at p e) = tokens_of_expr p ++ a_mark mark.SubAssign ∷ tokens_of_expr e
  tokens_of_simple (tree.increment at p) = tokens_of_expr p ++ a_mark mark.Increment ∷ []
  tokens_of_simple (tree.decrement at p) = tokens_of_expr p ++ a_mark mark.Decrement ∷ []

-- '(' expr ')'
abbrev pub tokens_of_test : Expr → List Piece
tokens_of_test e = a_mark mark.OpenParen ∷ (tokens_of_expr e ++ a_mark mark.CloseParen ∷ [])

-- '{' items '}'
abbrev pub tokens_of_block : Items → List Piece
tokens_of_block is = a_mark mark.OpenBrace ∷ (tokens_of_items is ++ a_mark mark.CloseBrace ∷ [])

-- Names with a comma before each but the first.
abbrev pub tokens_of_more_names : List Named → List Piece
tokens_of_more_names [] = []
tokens_of_more_names (n ∷ ns) = a_mark mark.Comma ∷ word n.text ∷ tokens_of_more_names ns

abbrev pub tokens_of_names : List Named → List Piece
tokens_of_names [] = []
tokens_of_names (n ∷ ns) = word n.text ∷ tokens_of_more_names ns

-- '(' 'ctx' ',' 'env' ')'
abbrev pub tokens_of_ctx_env : List Piece
tokens_of_ctx_env = a_mark mark.OpenParen ∷ word (codes "ctx") ∷ a_mark mark.Comma ∷ word (codes "env") ∷ a_mark mark.CloseParen ∷ []

-- '(' names ')' '{'
abbrev pub tokens_of_signature : Method → List Piece
tokens_of_signature m =
    word m.name.text ∷ a_mark mark.OpenParen ∷ (tokens_of_names m.parameters ++ a_mark mark.CloseParen ∷ a_mark mark.OpenBrace ∷ [])

-- What stands before a method's body.
abbrev pub tokens_of_head : MethodKind → Method → List Piece
tokens_of_head method.Constructor m =
    keyword key.Constructor ∷ (tokens_of_ctx_env ++ a_mark mark.OpenBrace ∷ keyword key.Super ∷ (tokens_of_ctx_env ++ a_mark mark.Semicolon ∷ []))
tokens_of_head method.Sync m = tokens_of_signature m
tokens_of_head method.Async m = keyword key.Async ∷ tokens_of_signature m

abbrev pub tokens_of_method : Method → List Piece
tokens_of_method m = tokens_of_head m.kind m ++ (tokens_of_items m.body ++ a_mark mark.CloseBrace ∷ [])

abbrev pub tokens_of_methods : List Method → List Piece
tokens_of_methods [] = []
tokens_of_methods (m ∷ ms) = tokens_of_method m ++ tokens_of_methods ms

-- 'export' 'class' Name
abbrev pub tokens_of_exported : Named → List Piece
tokens_of_exported n = keyword key.Export ∷ keyword key.Class ∷ word n.text ∷ []

-- 'export' 'class' Name 'extends' 'DurableObject' '{'
abbrev pub tokens_of_class_head : Named → List Piece
tokens_of_class_head n = tokens_of_exported n ++ keyword key.Extends ∷ word (codes "DurableObject") ∷ a_mark mark.OpenBrace ∷ []

abbrev pub tokens_of_class : Class → List Piece
tokens_of_class c = tokens_of_class_head c.name ++ (tokens_of_methods c.methods ++ a_mark mark.CloseBrace ∷ [])

abbrev pub tokens_of_classes : List Class → List Piece
tokens_of_classes [] = []
tokens_of_classes (c ∷ cs) = tokens_of_class c ++ tokens_of_classes cs

-- 'import' '{' 'DurableObject' '}'
abbrev pub imported_tokens : List Piece
imported_tokens = keyword key.Import ∷ a_mark mark.OpenBrace ∷ word (codes "DurableObject") ∷ a_mark mark.CloseBrace ∷ []

-- 'import' '{' 'DurableObject' '}' 'from' "cloudflare:workers" ';'
abbrev pub import_tokens : List Piece
import_tokens = imported_tokens ++ word (codes "from") ∷ quoted (codes "cloudflare:workers") ∷ a_mark mark.Semicolon ∷ []

abbrev pub tokens_of_import : Option ℕ → List Piece
tokens_of_import None = []
tokens_of_import (Some at) = import_tokens

abbrev pub tokens_of_script : Script → List Piece
tokens_of_script s = tokens_of_import s.import ++ tokens_of_classes s.classes

abbrev pub text_of_script : Script → List ℕ
text_of_script s = text_of_pieces (tokens_of_script s)
