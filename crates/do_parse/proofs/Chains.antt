-- Chains and operators, as lists of operands.
use Rattle.std.proofs.Common.{◌≡◌, ◌≢◌, ◌+◌, ℕ, zero, suc, Bool, true, false, List, [], ◌∷◌, ◌++◌, Option, Some, None, Result, Ok, Err, refl, sym, ◌∙◌, ap, subst}
use Rattle.std.proofs.Math.Numerals.{add-one}
use Rattle.std.proofs.lemmas.Bool.{false≢true}
use Rattle.do_lex.specs.declared.kind.Kind.{Kind}
use Rattle.do_lex.specs.declared.kind.Kind.TheVariants as kind
use Rattle.do_lex.specs.declared.kind.Keyword.TheVariants as key
use Rattle.do_lex.specs.declared.kind.Mark.{Mark}
use Rattle.do_lex.specs.declared.kind.Mark.TheVariants as mark
use Rattle.do_lex.specs.declared.tokens.Token.{Token}
use Rattle.do_tree.specs.Grammar as g
use Rattle.do_tree.specs.Grammar.{TakesMark, Level, IsExpr, IsShort, IsOperandOf, IsStrict, IsTighter, IsUn, IsPost, IsPrim, IsRest, BeginsWithNo, chain_mark}
use Rattle.do_tree.specs.Lexeme.{Lexeme, place}
use Rattle.do_tree.specs.Tree as tree
use Rattle.do_tree.specs.declared.expr.Chain.{Chain}
use Rattle.do_tree.specs.declared.expr.Chain.TheVariants as chain
use Rattle.do_parse.specs.declared.stop.Stop.{Stop}
use Rattle.do_parse.specs.Chained.{IsBehindTest, IsChained, IsEither, alone, chained, behind_chain}
use Rattle.do_parse.specs.Follow.{behind_expr, behind_short, behind_operand, behind_strict}
use Rattle.do_parse.specs.Lists.{BeginsWith, Repeat, stop as rep_stop, again, IsNextOperand, exprs_from}
use Rattle.do_parse.specs.Parsed.{Phrase, Follow, Anything, ends_by, BeginAlike, CanBegin, Parses}
use Rattle.do_parse.specs.Starts.{kind_next, place_next, begins_expr}
use Rattle.do_parse.specs.Then.{Then, At, with_tree}
use Rattle.do_parse.proofs.Sequence.{Stands, Behind, Same, SameHere, seq, stop, read_as, read_here}
use Rattle.do_parse.proofs.Dependent.{Dep, dep_seq, dep_stop}
use Rattle.do_parse.proofs.Facts.{BeginsBy, token_of, token_takes, place_of_token, no_else, takes_begins, mark_begins, anything_begins, mark_stands, last, before}
use Rattle.do_parse.proofs.FactsExpr.{expr_stands}
use Rattle.do_parse.proofs.First.{kind_first, first_is_next, place_is_next, takes_first, takes_with, expr_first, short_first, strict_first}
use Rattle.do_parse.proofs.Lists.{begins_with, NotBehind, not_behind, with_same, nothing_there}
use Rattle.do_parse.proofs.Follows.{no_else_behind, behind_test, short_behind, operand_behind, and_behind, chain_behind}
use Rattle.do_value.specs.declared.operator.BinOp.{BinOp}
use Rattle.do_tree.specs.Grammar.{IsOperands, IsOperator}
use Rattle.do_parse.specs.Follow.{behind_tighter, behind_un}
use Rattle.do_parse.specs.Levels.{level_of, operator_of, operator_next, operator_mark}
use Rattle.do_parse.specs.Lists.{Operand, IsOperand, operands_from}
use Rattle.do_parse.specs.declared.level.Level as rust
use Rattle.do_parse.proofs.Lists.{Grows, NoneBegins, grows_first, repeat_more, repeat_stop, repeat_end, behind_repeat}
use Rattle.do_parse.proofs.Follows.{strict_behind}
use Rattle.do_parse.proofs.Exprs.{up, down, read_same, read_there, not_with, rest_takes, first_may, some_mark, to_and, from_and, chained_may, strict_stands, tighter_stands, operand_stands, un_stands, operand_from_strict}

-- What begins like the next token can't stand behind, by its kind.
pub not_may : (may : Kind → Bool) (k : Kind) (now : List Token) → kind_next now ≡ Some k → may k ≡ false → NotBehind (ends_by may) now
not_may may k now h f = record { refuses = refused }
  where
    refused : (ts : List Lexeme) → BeginAlike now ts → ends_by may ts → ⊥
    refused [] b e = absurd (begins_with now k [] h b)
    refused (t ∷ ts) b e = false≢true (sym f ∙ ap may (sym (begins_with now k (t ∷ ts) h b)) ∙ e)

-- The tree of a chain.
abbrev pub chain_tree : Chain → ℕ → tree.Expr → List tree.Expr → tree.Expr
chain_tree c at first [] = first
chain_tree c at first (e ∷ es) = tree.lazy at c first (tree.expr e (exprs_from es))

no_rest : {c : Chain} {d : ℕ} {ts us : List Lexeme} → IsRest c d ts us tree.no_exprs → ⊥
no_rest h = elim h [ ]

-- the mark of a chain and its operand
to_next : (c : Chain) (d : ℕ) (ts us : List Lexeme) (b : ℕ × tree.Expr) → Then (At (TakesMark (chain_mark c) d)) (IsOperandOf c d) ts us b → IsNextOperand c d ts us b.1
to_next c d ts us b t = g.rest_last t.first.takes t.second

from_next : (c : Chain) (d : ℕ) (ts us : List Lexeme) (e : tree.Expr) → IsNextOperand c d ts us e → (b : ℕ × tree.Expr) × (e ≡ b.1) × Then (At (TakesMark (chain_mark c) d)) (IsOperandOf c d) ts us b
from_next c d ts us e (g.rest_last t o) = ((place ts, e), refl, record { between = _; first = record { at_is = refl; takes = t }; second = o })
from_next c d ts us e (g.rest_more t o r) = absurd (no_rest r)

pub next_same : (c : Chain) (d : ℕ) (Ends : Follow) (old : List Token) → Same (IsNextOperand c d) (Then (At (TakesMark (chain_mark c) d)) (IsOperandOf c d)) (λ b. b.1) Ends old
next_same c d Ends old = record { to = to_next c d; from = λ ts us e b p h. from_next c d ts us e p }

pub behind_next : (c : Chain) (d : ℕ) → Behind Anything (IsOperandOf c d) (ends_by (behind_operand c))
behind_next c d = last anything_begins (operand_stands c d)

-- the operands of a chain as a list, and back
to_rest : (c : Chain) (d : ℕ) (ts us : List Lexeme) (e : tree.Expr) (es : List tree.Expr) → Repeat (IsNextOperand c d) ts us (e ∷ es) → IsRest c d ts us (tree.expr e (exprs_from es))
to_rest c d ts us e [] (again p rep_stop) = p
to_rest c d ts us e (x ∷ es) (again (g.rest_last t o) r) = g.rest_more t o (to_rest c d _ us x es r)
to_rest c d ts us e (x ∷ es) (again (g.rest_more t o n) r) = absurd (no_rest n)

from_rest : {c : Chain} {d : ℕ} {ts us : List Lexeme} {es : tree.Exprs} → IsRest c d ts us es → (b : tree.Expr × List tree.Expr) × (es ≡ tree.expr b.0 (exprs_from b.1)) × Repeat (IsNextOperand c d) ts us (b.0 ∷ b.1)
from_rest (g.rest_last {e = e} t o) = ((e, []), refl, again (g.rest_last t o) rep_stop)
from_rest (g.rest_more {e = e} t o r) = let b = from_rest r in ((e, b.0.0 ∷ b.0.1), ap (λ x. tree.expr e x) b.1, again (g.rest_last t o) b.2)

to_chained : (c : Chain) (d at : ℕ) (first : tree.Expr) (ts us : List Lexeme) (es : List tree.Expr) → Repeat (IsNextOperand c d) ts us es → IsChained c d at first ts us (chain_tree c at first es)
to_chained c d at first ts us [] rep_stop = alone
to_chained c d at first ts us (e ∷ es) (again p r) = chained (to_rest c d ts us e es (again p r))

from_chained : (c : Chain) (d at : ℕ) (first : tree.Expr) (ts us : List Lexeme) (e : tree.Expr) → IsChained c d at first ts us e → (es : List tree.Expr) × (e ≡ chain_tree c at first es) × Repeat (IsNextOperand c d) ts us es
from_chained c d at first ts us e alone = ([], refl, rep_stop)
from_chained c d at first ts us e (chained r) = let b = from_rest r in (b.0.0 ∷ b.0.1, ap (λ x. tree.lazy at c first x) b.1, b.2)

pub chained_same : (c : Chain) (d at : ℕ) (first : tree.Expr) (Ends : Follow) (old : List Token) → Same (IsChained c d at first) (Repeat (IsNextOperand c d)) (chain_tree c at first) Ends old
chained_same c d at first Ends old = record { to = to_chained c d at first; from = λ ts us e b p h. from_chained c d at first ts us e p }

pub chain_tree_some : (c : Chain) (at : ℕ) (first : tree.Expr) (es : List tree.Expr) → es ≢ [] → chain_tree c at first es ≡ tree.lazy at c first (exprs_from es)
chain_tree_some c at first [] h = absurd (h refl)
chain_tree_some c at first (e ∷ es) h = refl

-- The list of a chain's operands.
chain_mark_more : (c : Chain) → behind_operand c (kind.Mark (chain_mark c)) ≡ true
chain_mark_more chain.And = refl
chain_mark_more chain.Or = refl
chain_mark_more chain.Coalesce = refl

chain_mark_ends : (c : Chain) → behind_chain c (kind.Mark (chain_mark c)) ≡ false
chain_mark_ends chain.And = refl
chain_mark_ends chain.Or = refl
chain_mark_ends chain.Coalesce = refl

chain_else : (c : Chain) → behind_chain c (kind.Keyword key.Else) ≡ false
chain_else chain.And = refl
chain_else chain.Or = refl
chain_else chain.Coalesce = refl

pub behind_chained : (c : Chain) (d : ℕ) → Behind (ends_by (behind_operand c)) (Repeat (IsNextOperand c d)) (ends_by (behind_chain c))
behind_chained c d = behind_repeat (record { may = λ ts us e p. first_may (behind_operand c) (kind.Mark (chain_mark c)) ts (rest_takes p) (chain_mark_more c) }) (chain_behind c) (no_else_behind (behind_chain c) (chain_else c))

pub more_chained : (c : Chain) (now : List Token) → kind_next now ≡ Some (kind.Mark (chain_mark c)) → NotBehind (ends_by (behind_chain c)) now
more_chained c now h = not_may (behind_chain c) (kind.Mark (chain_mark c)) now h (chain_mark_ends c)

pub end_chained : (c : Chain) (d : ℕ) (now : List Token) → ¬ (kind_next now ≡ Some (kind.Mark (chain_mark c))) → NoneBegins (IsNextOperand c d) now
end_chained c d now h = record { refuses = λ ts us e b p. h (sym (first_is_next now ts b) ∙ rest_takes p) }

-- An operand of a chain: of || an operand of && and the chain behind it.
no_operand : (d : ℕ) {Q : tree.Expr → Phrase tree.Expr} (e : tree.Expr) → Dep (IsStrict g.eq d) Q [] [] e → ⊥
no_operand d e p = false≢true (strict_first p.first)

or_here : (d : ℕ) (old : List Token) → SameHere (IsOperandOf chain.Or d) (Dep (IsStrict g.eq d) (IsChained chain.And d (place_next old))) (λ e. e) (ends_by (behind_operand chain.Or)) old
or_here d old = record {
  to = λ ts us e b p. to_and d (place_next old) ts p.between us p.value e (sym (place_is_next old ts b)) p.first p.second;
  from = λ ts us e b p h. from_and d (place_next old) ts us e (sym (place_is_next old ts b)) p;
  can = (operand_stands chain.Or d).begun;
  end_may = tt;
  some = λ e p. no_operand d e p;
}

behind_or : (d at : ℕ) (first : tree.Expr) → Behind (ends_by (behind_strict g.eq)) (IsChained chain.And d at first) (ends_by (behind_operand chain.Or))
behind_or d at first = record {
  may = chained_may chain.And d at first;
  stands = record { begun = record { rest = []; tree = first; is = λ us e. alone }; no_else = no_else_behind (behind_operand chain.Or) refl };
}

pub or_operand : {d : ℕ} {old mid new : List Token} {first : tree.Expr} {r : Result tree.Expr Stop}
    → Parses (IsStrict g.eq d) (ends_by (behind_strict g.eq)) old mid (Ok first) → Parses (IsChained chain.And d (place_next old) first) (ends_by (behind_operand chain.Or)) mid new r → Parses (IsOperandOf chain.Or d) (ends_by (behind_operand chain.Or)) old new r
or_operand {d} {old} {mid} {new} {first} {r} p q = let at : ℕ = place_next old in read_there (or_here d old) (dep_seq (IsChained chain.And d at) (behind_or d at) p q)

pub or_stop : {d : ℕ} {old new : List Token} {s : Stop} → Parses (IsStrict g.eq d) (ends_by (behind_strict g.eq)) old new (Err s) → Parses (IsOperandOf chain.Or d) (ends_by (behind_operand chain.Or)) old new (Err s)
or_stop {d} {old} {new} {s} p = let at : ℕ = place_next old in read_there (or_here d old) (dep_stop (IsChained chain.And d at) (behind_or d at) p)
