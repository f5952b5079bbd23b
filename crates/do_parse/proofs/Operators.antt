-- Levels of operators, from their parts.
use Rattle.std.proofs.Common.{◌≡◌, ◌≢◌, ◌+◌, ℕ, zero, suc, Bool, true, false, List, [], ◌∷◌, ◌++◌, Option, Some, None, Result, Ok, Err, refl, sym, ◌∙◌, ap, subst}
use Rattle.std.proofs.Math.Numerals.{add-one}
use Rattle.std.proofs.lemmas.Bool.{false≢true}
use Rattle.std.proofs.lemmas.Option.{none-some}
use Rattle.do_lex.specs.declared.kind.Kind.{Kind}
use Rattle.do_lex.specs.declared.kind.Kind.TheVariants as kind
use Rattle.do_lex.specs.declared.kind.Keyword.TheVariants as key
use Rattle.do_lex.specs.declared.kind.Mark.{Mark}
use Rattle.do_lex.specs.declared.kind.Mark.TheVariants as mark
use Rattle.do_lex.specs.declared.tokens.Token.{Token}
use Rattle.do_tree.specs.Grammar as g
use Rattle.do_tree.specs.Grammar.{TakesMark, Level, IsExpr, IsShort, IsOperandOf, IsStrict, IsTighter, IsUn, IsPost, IsPrim, IsRest, BeginsWithNo, chain_mark}
use Rattle.do_tree.specs.Lexeme.{Lexeme, place}
use Rattle.do_tree.specs.Tree as tree
use Rattle.do_tree.specs.declared.expr.Chain.{Chain}
use Rattle.do_tree.specs.declared.expr.Chain.TheVariants as chain
use Rattle.do_parse.specs.declared.stop.Stop.{Stop}
use Rattle.do_parse.specs.Chained.{IsBehindTest, IsChained, IsEither, alone, chained, behind_chain}
use Rattle.do_parse.specs.Follow.{behind_expr, behind_short, behind_operand, behind_strict}
use Rattle.do_parse.specs.Lists.{BeginsWith, Repeat, stop as rep_stop, again, IsNextOperand, exprs_from}
use Rattle.do_parse.specs.Parsed.{Phrase, Follow, Anything, ends_by, BeginAlike, CanBegin, Parses}
use Rattle.do_parse.specs.Starts.{kind_next, place_next, begins_expr}
use Rattle.do_parse.specs.Then.{Then, At, with_tree}
use Rattle.do_parse.proofs.Sequence.{Stands, Behind, Same, SameHere, seq, stop, read_as, read_here}
use Rattle.do_parse.proofs.Dependent.{Dep, dep_seq, dep_stop}
use Rattle.do_parse.proofs.Facts.{BeginsBy, token_of, token_takes, place_of_token, no_else, takes_begins, mark_begins, anything_begins, mark_stands, last, before}
use Rattle.do_parse.proofs.FactsExpr.{expr_stands}
use Rattle.do_parse.proofs.First.{kind_first, first_is_next, place_is_next, takes_first, takes_with, expr_first, short_first, strict_first}
use Rattle.do_parse.proofs.Lists.{begins_with, NotBehind, not_behind, with_same, nothing_there}
use Rattle.do_parse.proofs.Follows.{no_else_behind, behind_test, short_behind, operand_behind, and_behind, chain_behind}
use Rattle.do_value.specs.declared.operator.BinOp.{BinOp}
use Rattle.do_value.specs.declared.operator.BinOp.TheVariants as op
use Rattle.do_tree.specs.Grammar.{IsOperands, IsOperator}
use Rattle.do_parse.specs.Follow.{behind_tighter, behind_un}
use Rattle.do_parse.specs.Levels.{level_of, operator_of, operator_next, operator_mark}
use Rattle.do_parse.specs.Lists.{Operand, IsOperand, operands_from}
use Rattle.do_parse.specs.declared.level.Level as rust
use Rattle.do_parse.proofs.Lists.{Grows, NoneBegins, grows_first, repeat_more, repeat_stop, repeat_end, behind_repeat}
use Rattle.do_parse.proofs.Follows.{strict_behind}
use Rattle.do_parse.proofs.Exprs.{up, down, read_same, read_there, not_with, rest_takes, first_may, some_mark, to_and, from_and, chained_may, strict_stands, tighter_stands, operand_stands, un_stands, operand_from_strict}
use Rattle.do_parse.specs.declared.level.Level.TheVariants.{Equal, Order, Sum, Product}
use Rattle.do_parse.proofs.First.{tighter_first}
use Rattle.do_parse.proofs.Chains.{not_may}

-- an operator of a level and its mark
operator_is : {l : Level} {m : Mark} {o : BinOp} → IsOperator l m o → operator_mark o ≡ m
operator_is g.same = refl
operator_is g.differs = refl
operator_is g.less = refl
operator_is g.less_eq = refl
operator_is g.greater = refl
operator_is g.greater_eq = refl
operator_is g.plus = refl
operator_is g.minus = refl
operator_is g.times = refl
operator_is g.over = refl
operator_is g.modulo = refl

-- the operator that a mark is at a level, and back
level_has : (l : rust.Level) (o : BinOp) → operator_of l (operator_mark o) ≡ Some o → IsOperator (level_of l) (operator_mark o) o
level_has Equal op.Same h = g.same
level_has Equal op.Differs h = g.differs
level_has Order op.Less h = g.less
level_has Order op.LessEq h = g.less_eq
level_has Order op.Greater h = g.greater
level_has Order op.GreaterEq h = g.greater_eq
level_has Sum op.Add h = g.plus
level_has Sum op.Sub h = g.minus
level_has Product op.Mul h = g.times
level_has Product op.Div h = g.over
level_has Product op.Rem h = g.modulo
level_has l o h = absurd (none-some o h)

ap_mark : (a b : BinOp) → Some a ≡ Some b → operator_mark a ≡ operator_mark b
ap_mark a b h = ap operator_mark (some_op a b h)
  where
    some_op : (x y : BinOp) → Some x ≡ Some y → x ≡ y
    some_op x y h = cc

operator_kind : (l : rust.Level) (o : BinOp) (m : Mark) → operator_of l m ≡ Some o → m ≡ operator_mark o
operator_kind Equal o mark.Same h = ap_mark op.Same o h
operator_kind Equal o mark.Differs h = ap_mark op.Differs o h
operator_kind Order o mark.Less h = ap_mark op.Less o h
operator_kind Order o mark.LessEq h = ap_mark op.LessEq o h
operator_kind Order o mark.Greater h = ap_mark op.Greater o h
operator_kind Order o mark.GreaterEq h = ap_mark op.GreaterEq o h
operator_kind Sum o mark.Plus h = ap_mark op.Add o h
operator_kind Sum o mark.Minus h = ap_mark op.Sub o h
operator_kind Product o mark.Star h = ap_mark op.Mul o h
operator_kind Product o mark.Slash h = ap_mark op.Div o h
operator_kind Product o mark.Percent h = ap_mark op.Rem o h
operator_kind l o m h = absurd (none-some o h)

pub operator_back : {m : Mark} {o : BinOp} (r : rust.Level) (l : Level) → level_of r ≡ l → IsOperator l m o → operator_of r m ≡ Some o
operator_back Equal l h g.same = refl
operator_back Equal l h g.differs = refl
operator_back Order l h g.less = refl
operator_back Order l h g.less_eq = refl
operator_back Order l h g.greater = refl
operator_back Order l h g.greater_eq = refl
operator_back Sum l h g.plus = refl
operator_back Sum l h g.minus = refl
operator_back Product l h g.times = refl
operator_back Product l h g.over = refl
operator_back Product l h g.modulo = refl
operator_back r l h i = absurd (cc)

-- The kind that is next where an operator of the level is.
next_kind : (l : rust.Level) (o : BinOp) (k : Option Kind) → operator_next l k ≡ Some o → k ≡ Some (kind.Mark (operator_mark o))
next_kind l o (Some (kind.Mark m)) h = ap (λ x. Some (kind.Mark x)) (operator_kind l o m h)
next_kind l o (Some kind.Word) h = absurd (none-some o h)
next_kind l o (Some kind.Number) h = absurd (none-some o h)
next_kind l o (Some kind.Text) h = absurd (none-some o h)
next_kind l o (Some (kind.Keyword k)) h = absurd (none-some o h)
next_kind l o None h = absurd (none-some o h)

pub operator_here : (l : rust.Level) (o : BinOp) (now : List Token) → operator_next l (kind_next now) ≡ Some o → kind_next now ≡ Some (kind.Mark (operator_mark o))
operator_here l o now h = next_kind l o (kind_next now) h

pub is_of_level : (l : rust.Level) (o : BinOp) (now : List Token) → operator_next l (kind_next now) ≡ Some o → IsOperator (level_of l) (operator_mark o) o
is_of_level l o now h = level_has l o (sym (ap (operator_next l) (operator_here l o now h)) ∙ h)

pub no_operands_here : {l : Level} {d : ℕ} {ts us : List Lexeme} → IsOperands l d ts us tree.no_operands → ⊥
no_operands_here h = elim h [ ]

-- An operator and its operand, where the operator is next.
one : (l : rust.Level) (o : BinOp) (d : ℕ) (now : List Token) → operator_next l (kind_next now) ≡ Some o → (ts vs us : List Lexeme) (x : Operand) (m : Mark) → BeginAlike now ts → IsOperator (level_of l) m x.op → TakesMark m d ts vs → IsTighter (level_of l) d vs us x.value
    → (b : ℕ × tree.Expr) × (x ≡ record { op = o; value = b.1 }) × Then (At (TakesMark (operator_mark o) d)) (IsTighter (level_of l) d) ts us b
one l o d now h ts vs us x m b i t p =
    let same : x.op ≡ o = ops x.op o (sym (operator_back l (level_of l) refl i) ∙ ap (operator_next l) (sym (takes_first t) ∙ first_is_next now ts b) ∙ h) in
    let marks : m ≡ operator_mark o = sym (operator_is i) ∙ ap operator_mark same in
    ((place ts, x.value), ap (λ (y : BinOp). record { op = y; value = x.value }) same, record { between = vs; first = record { at_is = refl; takes = subst (λ y. TakesMark y d ts vs) marks t }; second = p })
  where
    ops : (a b : BinOp) → Some a ≡ Some b → a ≡ b
    ops a b h = cc

from_operand : (l : rust.Level) (o : BinOp) (d : ℕ) (now : List Token) → operator_next l (kind_next now) ≡ Some o → (ts us : List Lexeme) (x : Operand) → BeginAlike now ts → IsOperand (level_of l) d ts us x
    → (b : ℕ × tree.Expr) × (x ≡ record { op = o; value = b.1 }) × Then (At (TakesMark (operator_mark o) d)) (IsTighter (level_of l) d) ts us b
from_operand l o d now h ts us x b (g.operands_last {m = m} {us = vs} i t p) = one l o d now h ts vs us x m b i t p
from_operand l o d now h ts us x b (g.operands_more i t p r) = absurd (no_operands_here r)

pub operand_same : (l : rust.Level) (o : BinOp) (d : ℕ) {Ends : Follow} (now : List Token) → operator_next l (kind_next now) ≡ Some o
    → Same (IsOperand (level_of l) d) (Then (At (TakesMark (operator_mark o) d)) (IsTighter (level_of l) d)) (λ b. record { op = o; value = b.1 }) Ends now
operand_same l o d now h = record {
  to = λ ts us b t. g.operands_last (is_of_level l o now h) t.first.takes t.second;
  from = λ ts us x b p f. from_operand l o d now h ts us x b p;
}

pub behind_operator : (l : Level) (d : ℕ) → Behind Anything (IsTighter l d) (ends_by (behind_tighter l))
behind_operator l d = last anything_begins (tighter_stands d l)
