-- What may stand behind a phrase may stand behind its last part.
use Rattle.std.proofs.Common.{◌≡◌, ◌≢◌, Bool, true, false, ◌||◌, List, [], ◌∷◌, refl, sym, ◌∙◌, ap}
use Rattle.std.proofs.lemmas.Bool.{false≢true}
use Rattle.do_lex.specs.declared.kind.Kind.{Kind}
use Rattle.do_lex.specs.declared.kind.Kind.TheVariants as kind
use Rattle.do_lex.specs.declared.kind.Keyword.TheVariants as key
use Rattle.do_lex.specs.declared.kind.Mark.{Mark}
use Rattle.do_lex.specs.declared.kind.Mark.TheVariants as mark
use Rattle.do_tree.specs.Grammar.{Level, eq, rel, add, mul, BeginsWithNo}
use Rattle.do_tree.specs.Lexeme.{Lexeme}
use Rattle.do_tree.specs.declared.expr.Chain.{Chain}
use Rattle.do_tree.specs.declared.expr.Chain.TheVariants as chain
use Rattle.do_parse.specs.Parsed.{ends_by}
use Rattle.do_parse.specs.Chained.{behind_chain}
use Rattle.do_parse.specs.Follow.{of_mark, ends_expr, ends_short, ends_operand, is_operator, ends_chained, ends_strict, ends_tighter, ends_un, ends_prim, behind_expr, behind_short, behind_operand, behind_strict, behind_tighter, behind_un}

-- No else stands there.
pub no_else_behind : (may : Kind → Bool) → may (kind.Keyword key.Else) ≡ false → (us : List Lexeme) → ends_by may us → BeginsWithNo (kind.Keyword key.Else) us
no_else_behind may h [] e = tt
no_else_behind may h (t ∷ us) e = λ is. false≢true (sym h ∙ ap may (sym is) ∙ e)

-- Where each kind that passes one test passes another.
pub wider : (may other : Kind → Bool) → ((k : Kind) → may k ≡ true → other k ≡ true) → (us : List Lexeme) → ends_by may us → ends_by other us
wider may other h [] e = tt
wider may other h (t ∷ us) e = h t.kind e

pub of_marks : (may other : Mark → Bool) → ((m : Mark) → may m ≡ true → other m ≡ true) → (k : Kind) → of_mark may k ≡ true → of_mark other k ≡ true
of_marks may other h (kind.Mark m) e = h m e
of_marks may other h kind.Word e = absurd (false≢true e)
of_marks may other h (kind.Keyword k) e = absurd (false≢true e)
of_marks may other h kind.Number e = absurd (false≢true e)
of_marks may other h kind.Text e = absurd (false≢true e)

or_right : (a b : Bool) → b ≡ true → (a || b) ≡ true
or_right true b h = refl
or_right false b h = h

short_marks : (m : Mark) → ends_expr m ≡ true → ends_short m ≡ true
short_marks mark.Question h = refl
short_marks m h = h

operand_marks : (c : Chain) (m : Mark) → ends_short m ≡ true → ends_operand c m ≡ true
operand_marks chain.Coalesce mark.Coalesce h = refl
operand_marks chain.Coalesce m h = h
operand_marks chain.And mark.And h = refl
operand_marks chain.And mark.Or h = refl
operand_marks chain.And m h = h
operand_marks chain.Or mark.Or h = refl
operand_marks chain.Or m h = h

chained_marks : (c : Chain) (m : Mark) → ends_operand c m ≡ true → ends_chained m ≡ true
chained_marks chain.Coalesce mark.Coalesce h = refl
chained_marks chain.Coalesce mark.And h = refl
chained_marks chain.Coalesce mark.Or h = refl
chained_marks chain.Coalesce m h = h
chained_marks chain.And mark.Coalesce h = refl
chained_marks chain.And mark.And h = refl
chained_marks chain.And mark.Or h = refl
chained_marks chain.And m h = h
chained_marks chain.Or mark.Coalesce h = refl
chained_marks chain.Or mark.And h = refl
chained_marks chain.Or mark.Or h = refl
chained_marks chain.Or m h = h

and_marks : (m : Mark) → ends_operand chain.Or m ≡ true → ends_operand chain.And m ≡ true
and_marks mark.And h = refl
and_marks mark.Or h = refl
and_marks m h = h

pub behind_test : (us : List Lexeme) → ends_by behind_expr us → ends_by behind_short us
behind_test us = wider behind_expr behind_short (of_marks ends_expr ends_short short_marks) us

pub short_behind : (c : Chain) (us : List Lexeme) → ends_by behind_short us → ends_by (behind_operand c) us
short_behind c us = wider behind_short (behind_operand c) (of_marks ends_short (ends_operand c) (operand_marks c)) us

pub operand_behind : (c : Chain) (us : List Lexeme) → ends_by (behind_operand c) us → ends_by (behind_strict eq) us
operand_behind c us = wider (behind_operand c) (behind_strict eq) (of_marks (ends_operand c) ends_chained (chained_marks c)) us

pub and_behind : (us : List Lexeme) → ends_by (behind_operand chain.Or) us → ends_by (behind_operand chain.And) us
and_behind us = wider (behind_operand chain.Or) (behind_operand chain.And) (of_marks (ends_operand chain.Or) (ends_operand chain.And) and_marks) us

pub strict_behind : (l : Level) (us : List Lexeme) → ends_by (behind_strict l) us → ends_by (behind_tighter l) us
strict_behind l us = wider (behind_strict l) (behind_tighter l) (of_marks (ends_strict l) (ends_tighter l) (λ m h. or_right (is_operator l m) (ends_strict l m) h)) us

-- Behind a whole chain, what may stand behind its operands.
pub chain_behind : (c : Chain) (us : List Lexeme) → ends_by (behind_chain c) us → ends_by (behind_operand c) us
chain_behind chain.And us e = and_behind us e
chain_behind chain.Or us e = short_behind chain.Or us e
chain_behind chain.Coalesce us e = short_behind chain.Coalesce us e

prim_marks : (m : Mark) → ends_un m ≡ true → ends_prim m ≡ true
prim_marks mark.Dot h = refl
prim_marks mark.OpenBracket h = refl
prim_marks mark.OpenParen h = refl
prim_marks m h = h
