-- The operands of a level as a list, and the levels among each other.
use Rattle.std.proofs.Common.{◌≡◌, ◌≢◌, ◌+◌, ℕ, zero, suc, Bool, true, false, List, [], ◌∷◌, ◌++◌, Option, Some, None, Result, Ok, Err, refl, sym, ◌∙◌, ap, subst}
use Rattle.std.proofs.Math.Numerals.{add-one}
use Rattle.std.proofs.lemmas.Bool.{false≢true}
use Rattle.std.proofs.lemmas.Option.{none-some}
use Rattle.do_lex.specs.declared.kind.Kind.{Kind}
use Rattle.do_lex.specs.declared.kind.Kind.TheVariants as kind
use Rattle.do_lex.specs.declared.kind.Keyword.TheVariants as key
use Rattle.do_lex.specs.declared.kind.Mark.{Mark}
use Rattle.do_lex.specs.declared.kind.Mark.TheVariants as mark
use Rattle.do_lex.specs.declared.tokens.Token.{Token}
use Rattle.do_tree.specs.Grammar as g
use Rattle.do_tree.specs.Grammar.{TakesMark, Level, IsExpr, IsShort, IsOperandOf, IsStrict, IsTighter, IsUn, IsPost, IsPrim, IsRest, BeginsWithNo, chain_mark}
use Rattle.do_tree.specs.Lexeme.{Lexeme, place}
use Rattle.do_tree.specs.Tree as tree
use Rattle.do_tree.specs.declared.expr.Chain.{Chain}
use Rattle.do_tree.specs.declared.expr.Chain.TheVariants as chain
use Rattle.do_parse.specs.declared.stop.Stop.{Stop}
use Rattle.do_parse.specs.Chained.{IsBehindTest, IsChained, IsEither, alone, chained, behind_chain}
use Rattle.do_parse.specs.Follow.{behind_expr, behind_short, behind_operand, behind_strict}
use Rattle.do_parse.specs.Lists.{BeginsWith, Repeat, stop as rep_stop, again, IsNextOperand, exprs_from}
use Rattle.do_parse.specs.Parsed.{Phrase, Follow, Anything, ends_by, BeginAlike, CanBegin, Parses}
use Rattle.do_parse.specs.Starts.{kind_next, place_next, begins_expr}
use Rattle.do_parse.specs.Then.{Then, At, with_tree}
use Rattle.do_parse.proofs.Sequence.{Stands, Behind, Same, SameHere, seq, stop, read_as, read_here}
use Rattle.do_parse.proofs.Dependent.{Dep, dep_seq, dep_stop}
use Rattle.do_parse.proofs.Facts.{BeginsBy, token_of, token_takes, place_of_token, no_else, takes_begins, mark_begins, anything_begins, mark_stands, last, before}
use Rattle.do_parse.proofs.FactsExpr.{expr_stands}
use Rattle.do_parse.proofs.First.{kind_first, first_is_next, place_is_next, takes_first, takes_with, expr_first, short_first, strict_first}
use Rattle.do_parse.proofs.Lists.{begins_with, NotBehind, not_behind, with_same, nothing_there}
use Rattle.do_parse.proofs.Follows.{no_else_behind, behind_test, short_behind, operand_behind, and_behind, chain_behind}
use Rattle.do_value.specs.declared.operator.BinOp.{BinOp}
use Rattle.do_value.specs.declared.operator.BinOp.TheVariants as op
use Rattle.do_tree.specs.Grammar.{IsOperands, IsOperator}
use Rattle.do_parse.specs.Follow.{behind_tighter, behind_un}
use Rattle.do_parse.specs.Levels.{level_of, operator_of, operator_next, operator_mark}
use Rattle.do_parse.specs.Lists.{Operand, IsOperand, operands_from}
use Rattle.do_parse.specs.declared.level.Level as rust
use Rattle.do_parse.proofs.Lists.{Grows, NoneBegins, grows_first, repeat_more, repeat_stop, repeat_end, behind_repeat}
use Rattle.do_parse.proofs.Follows.{strict_behind}
use Rattle.do_parse.proofs.Exprs.{up, down, read_same, read_there, not_with, rest_takes, first_may, some_mark, to_and, from_and, chained_may, strict_stands, tighter_stands, operand_stands, un_stands, operand_from_strict}
use Rattle.do_parse.specs.declared.level.Level.TheVariants.{Equal, Order, Sum, Product}
use Rattle.do_parse.proofs.First.{tighter_first}
use Rattle.do_parse.specs.Follow.{is_operator, ends_strict, ends_tighter}
use Rattle.do_parse.proofs.Chains.{not_may}
use Rattle.do_parse.proofs.Operators.{operator_here, operator_back, is_of_level, no_operands_here}
use Rattle.do_parse.proofs.Steps.{un_up, un_down}

operator_test : {l : Level} {m : Mark} {o : BinOp} → IsOperator l m o → ends_tighter l m ≡ true
operator_test g.same = refl
operator_test g.differs = refl
operator_test g.less = refl
operator_test g.less_eq = refl
operator_test g.greater = refl
operator_test g.greater_eq = refl
operator_test g.plus = refl
operator_test g.minus = refl
operator_test g.times = refl
operator_test g.over = refl
operator_test g.modulo = refl

operator_ends : {l : Level} {m : Mark} {o : BinOp} → IsOperator l m o → ends_strict l m ≡ false
operator_ends g.same = refl
operator_ends g.differs = refl
operator_ends g.less = refl
operator_ends g.less_eq = refl
operator_ends g.greater = refl
operator_ends g.greater_eq = refl
operator_ends g.plus = refl
operator_ends g.minus = refl
operator_ends g.times = refl
operator_ends g.over = refl
operator_ends g.modulo = refl

-- the operands as a list, and back
to_operands : (l : Level) (d : ℕ) (ts us : List Lexeme) (o : Operand) (os : List Operand) → Repeat (IsOperand l d) ts us (o ∷ os) → IsOperands l d ts us (tree.operand o.op o.value (operands_from os))
to_operands l d ts us o [] (again p rep_stop) = p
to_operands l d ts us o (x ∷ os) (again (g.operands_last i t p) r) = g.operands_more i t p (to_operands l d _ us x os r)
to_operands l d ts us o (x ∷ os) (again (g.operands_more i t p n) r) = absurd (no_operands_here n)

from_operands : {l : Level} {d : ℕ} {ts us : List Lexeme} {os : tree.Operands} → IsOperands l d ts us os → (b : Operand × List Operand) × (os ≡ tree.operand b.0.op b.0.value (operands_from b.1)) × Repeat (IsOperand l d) ts us (b.0 ∷ b.1)
from_operands (g.operands_last {o = o} {e = e} i t p) = ((record { op = o; value = e }, []), refl, again (g.operands_last i t p) rep_stop)
from_operands (g.operands_more {o = o} {e = e} i t p r) = let b = from_operands r in ((record { op = o; value = e }, b.0.0 ∷ b.0.1), ap (λ x. tree.operand o e x) b.1, again (g.operands_last i t p) b.2)

-- The tree of a level.
abbrev pub strict_tree : ℕ → tree.Expr × List Operand → tree.Expr
strict_tree at (e, []) = e
strict_tree at (e, o ∷ os) = tree.strict at e (operands_from (o ∷ os))

to_strict : (l : Level) (d at : ℕ) (ts ms us : List Lexeme) (e : tree.Expr) (os : List Operand) → at ≡ place ts → IsTighter l d ts ms e → Repeat (IsOperand l d) ms us os → IsStrict l d ts us (strict_tree at (e, os))
to_strict l d at ts ms us e [] h p rep_stop = g.tighter p
to_strict l d at ts ms us e (o ∷ os) h p r = g.strict h p (to_operands l d ms us o os r)

from_strict : (l : Level) (d : ℕ) (old : List Token) (ts us : List Lexeme) (e : tree.Expr) → BeginAlike old ts → IsStrict l d ts us e → (b : tree.Expr × List Operand) × (e ≡ strict_tree (place_next old) b) × Then (IsTighter l d) (Repeat (IsOperand l d)) ts us b
from_strict l d old ts us e b (g.tighter p) = ((e, []), refl, record { between = us; first = p; second = rep_stop })
from_strict l d old ts us e b (g.strict {us = ms} {e = first} {os = os} h p o) =
    let x = from_operands o in
    ((first, x.0.0 ∷ x.0.1), ap (λ a. tree.strict a first os) (h ∙ place_is_next old ts b) ∙ ap (λ y. tree.strict (place_next old) first y) x.1, record { between = ms; first = p; second = x.2 })

no_tighter : (l : Level) (d : ℕ) (b : tree.Expr × List Operand) → Then (IsTighter l d) (Repeat (IsOperand l d)) [] [] b → ⊥
no_tighter l d b p = false≢true (tighter_first p.first)

pub strict_here : (l : Level) (d : ℕ) (old : List Token) → SameHere (IsStrict l d) (Then (IsTighter l d) (Repeat (IsOperand l d))) (strict_tree (place_next old)) (ends_by (behind_strict l)) old
strict_here l d old = record {
  to = λ ts us b a t. to_strict l d (place_next old) ts t.between us b.0 b.1 (sym (place_is_next old ts a)) t.first t.second;
  from = λ ts us e a p f. from_strict l d old ts us e a p;
  can = (strict_stands d l).begun;
  end_may = tt;
  some = λ b p. no_tighter l d b p;
}

pub strict_tree_some : (at : ℕ) (e : tree.Expr) (os : List Operand) → os ≢ [] → strict_tree at (e, os) ≡ tree.strict at e (operands_from os)
strict_tree_some at e [] h = absurd (h refl)
strict_tree_some at e (o ∷ os) h = refl

operand_first : (l : Level) (d : ℕ) (ts us : List Lexeme) (o : Operand) → IsOperand l d ts us o → ends_by (behind_tighter l) ts
operand_first l d ts us o (g.operands_last i t p) = takes_begins (behind_tighter l) (operator_test i) t
operand_first l d ts us o (g.operands_more i t p n) = absurd (no_operands_here n)

strict_else : (l : Level) → behind_strict l (kind.Keyword key.Else) ≡ false
strict_else g.eq = refl
strict_else g.rel = refl
strict_else g.add = refl
strict_else g.mul = refl

pub behind_operand_list : (l : Level) (d : ℕ) → Behind (ends_by (behind_tighter l)) (Repeat (IsOperand l d)) (ends_by (behind_strict l))
behind_operand_list l d = behind_repeat (record { may = operand_first l d }) (strict_behind l) (no_else_behind (behind_strict l) (strict_else l))

pub more_operands : (l : rust.Level) (o : BinOp) (now : List Token) → operator_next l (kind_next now) ≡ Some o → NotBehind (ends_by (behind_strict (level_of l))) now
more_operands l o now h = not_may (behind_strict (level_of l)) (kind.Mark (operator_mark o)) now (operator_here l o now h) (operator_ends (is_of_level l o now h))

none_of : (l : rust.Level) (d : ℕ) (now : List Token) → operator_next l (kind_next now) ≡ None → (ts us : List Lexeme) (o : Operand) → BeginAlike now ts → IsOperand (level_of l) d ts us o → ⊥
none_of l d now h ts us o b (g.operands_last {m = m} i t p) = none-some o.op (sym h ∙ ap (operator_next l) (sym (first_is_next now ts b) ∙ takes_first t) ∙ operator_back l (level_of l) refl i)
none_of l d now h ts us o b (g.operands_more i t p n) = no_operands_here n

pub end_operands : (l : rust.Level) (d : ℕ) (now : List Token) → operator_next l (kind_next now) ≡ None → NoneBegins (IsOperand (level_of l) d) now
end_operands l d now h = record { refuses = none_of l d now h }

-- The levels among each other.
from_eq : (d : ℕ) (ts us : List Lexeme) (e : tree.Expr) → IsTighter g.eq d ts us e → (b : tree.Expr) × (e ≡ b) × IsStrict g.rel d ts us b
from_eq d ts us e (g.of_eq p) = (e, refl, p)

from_rel : (d : ℕ) (ts us : List Lexeme) (e : tree.Expr) → IsTighter g.rel d ts us e → (b : tree.Expr) × (e ≡ b) × IsStrict g.add d ts us b
from_rel d ts us e (g.of_rel p) = (e, refl, p)

from_add : (d : ℕ) (ts us : List Lexeme) (e : tree.Expr) → IsTighter g.add d ts us e → (b : tree.Expr) × (e ≡ b) × IsStrict g.mul d ts us b
from_add d ts us e (g.of_add p) = (e, refl, p)

from_mul : (d : ℕ) (ts us : List Lexeme) (e : tree.Expr) → IsTighter g.mul d ts us e → (b : tree.Expr) × (e ≡ b) × IsUn (d + 1) ts us b
from_mul d ts us e (g.of_mul p) = (e, refl, un_down p)

pub tighter_eq : {d : ℕ} {old new : List Token} {r : Result tree.Expr Stop} → Parses (IsStrict g.rel d) (ends_by (behind_strict g.rel)) old new r → Parses (IsTighter g.eq d) (ends_by (behind_tighter g.eq)) old new r
tighter_eq {d} {old} {new} {r} p = read_same (record { to = λ ts us e q. g.of_eq q; from = λ ts us e b q f. from_eq d ts us e q }) p

pub tighter_rel : {d : ℕ} {old new : List Token} {r : Result tree.Expr Stop} → Parses (IsStrict g.add d) (ends_by (behind_strict g.add)) old new r → Parses (IsTighter g.rel d) (ends_by (behind_tighter g.rel)) old new r
tighter_rel {d} {old} {new} {r} p = read_same (record { to = λ ts us e q. g.of_rel q; from = λ ts us e b q f. from_rel d ts us e q }) p

pub tighter_add : {d : ℕ} {old new : List Token} {r : Result tree.Expr Stop} → Parses (IsStrict g.mul d) (ends_by (behind_strict g.mul)) old new r → Parses (IsTighter g.add d) (ends_by (behind_tighter g.add)) old new r
tighter_add {d} {old} {new} {r} p = read_same (record { to = λ ts us e q. g.of_add q; from = λ ts us e b q f. from_add d ts us e q }) p

pub tighter_mul : {d : ℕ} {old new : List Token} {r : Result tree.Expr Stop} → Parses (IsUn (d + 1)) (ends_by behind_un) old new r → Parses (IsTighter g.mul d) (ends_by (behind_tighter g.mul)) old new r
tighter_mul {d} {old} {new} {r} p = read_same (record { to = λ ts us e q. g.of_mul (un_up q); from = λ ts us e b q f. from_mul d ts us e q }) p
