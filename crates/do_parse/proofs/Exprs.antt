-- Choices and chains, from their parts.
use Rattle.std.proofs.Common.{◌≡◌, ◌≢◌, ◌+◌, ℕ, zero, suc, Bool, true, false, List, [], ◌∷◌, ◌++◌, Option, Some, None, Result, Ok, Err, refl, sym, ◌∙◌, ap, subst}
use Rattle.std.proofs.Math.Numerals.{add-one}
use Rattle.std.proofs.lemmas.Bool.{false≢true}
use Rattle.do_lex.specs.declared.kind.Kind.{Kind}
use Rattle.do_lex.specs.declared.kind.Kind.TheVariants as kind
use Rattle.do_lex.specs.declared.kind.Keyword.TheVariants as key
use Rattle.do_lex.specs.declared.kind.Mark.{Mark}
use Rattle.do_lex.specs.declared.kind.Mark.TheVariants as mark
use Rattle.do_lex.specs.declared.tokens.Token.{Token}
use Rattle.do_tree.specs.Grammar as g
use Rattle.do_tree.specs.Grammar.{TakesMark, Level, IsExpr, IsShort, IsOperandOf, IsStrict, IsTighter, IsUn, IsPost, IsPrim, IsRest, BeginsWithNo, chain_mark}
use Rattle.do_tree.specs.Lexeme.{Lexeme, place}
use Rattle.do_tree.specs.Tree as tree
use Rattle.do_tree.specs.declared.expr.Chain.{Chain}
use Rattle.do_tree.specs.declared.expr.Chain.TheVariants as chain
use Rattle.do_parse.specs.declared.stop.Stop.{Stop}
use Rattle.do_parse.specs.Chained.{IsBehindTest, IsChained, IsEither, alone, chained, behind_chain}
use Rattle.do_parse.specs.Follow.{behind_expr, behind_short, behind_operand, behind_strict}
use Rattle.do_parse.specs.Lists.{BeginsWith, Repeat, stop as rep_stop, again, IsNextOperand, exprs_from}
use Rattle.do_parse.specs.Parsed.{Phrase, Follow, Anything, ends_by, BeginAlike, CanBegin, Parses}
use Rattle.do_parse.specs.Starts.{kind_next, place_next, begins_expr}
use Rattle.do_parse.specs.Then.{Then, At, with_tree}
use Rattle.do_parse.proofs.Sequence.{Stands, Behind, Same, SameHere, seq, stop, read_as, read_here}
use Rattle.do_parse.proofs.Dependent.{Dep, dep_seq, dep_stop}
use Rattle.do_parse.proofs.Facts.{BeginsBy, token_of, token_takes, place_of_token, no_else, takes_begins, mark_begins, anything_begins, mark_stands, last, before}
use Rattle.do_parse.proofs.FactsExpr.{expr_stands}
use Rattle.do_parse.proofs.First.{kind_first, first_is_next, place_is_next, takes_first, takes_with, expr_first, short_first, strict_first}
use Rattle.do_parse.proofs.Lists.{begins_with, NotBehind, not_behind, with_same, nothing_there}
use Rattle.do_parse.proofs.Follows.{no_else_behind, behind_test, short_behind, operand_behind, and_behind, chain_behind}

-- an expression at one more, either way
pub up : {d : ℕ} {ts us : List Lexeme} {e : tree.Expr} → IsExpr (d + 1) ts us e → IsExpr (suc d) ts us e
up {d} {ts} {us} {e} p = subst (λ k. IsExpr k ts us e) (add-one d) p

pub down : {d : ℕ} {ts us : List Lexeme} {e : tree.Expr} → IsExpr (suc d) ts us e → IsExpr (d + 1) ts us e
down {d} {ts} {us} {e} p = subst (λ k. IsExpr k ts us e) (sym (add-one d)) p

-- The answer of the same phrase, with the same tree.
pub read_same : {A : Type 0} {Is Other : Phrase A} {Ends : Follow} {old new : List Token} {r : Result A Stop} → Same Is Other (λ a. a) Ends old → Parses Other Ends old new r → Parses Is Ends old new r
read_same {A} {Is} {Other} {Ends} {old} {new} {r} same p = subst (λ x. Parses Is Ends old new x) (with_same (λ a. a) (λ a. refl) r) (read_as same p)

pub read_there : {A : Type 0} {Is Other : Phrase A} {Ends : Follow} {old new : List Token} {r : Result A Stop} → SameHere Is Other (λ a. a) Ends old → Parses Other Ends old new r → Parses Is Ends old new r
read_there {A} {Is} {Other} {Ends} {old} {new} {r} same p = subst (λ x. Parses Is Ends old new x) (with_same (λ a. a) (λ a. refl) r) (read_here same p)

-- no token begins an expression where there is none
pub none_begins : (b : Bool) → begins_expr None ≡ b → b ≡ true → ⊥
none_begins b h e = false≢true (h ∙ e)

-- A token that is next isn't one of this kind.
pub not_with : {k : Kind} (now : List Token) (ts us : List Lexeme) {d : ℕ} → ¬ (kind_next now ≡ Some k) → BeginAlike now ts → g.Takes k d ts us → ⊥
not_with {k} now ts us h b t = h (sym (first_is_next now ts b) ∙ takes_first t)

-- What may stand behind a test: the two sides of a choice, or what may stand behind the whole.
pub data ExprTail (d at : ℕ) (test : tree.Expr) : List Lexeme → List Lexeme → tree.Expr → Type 0 where
  no_tail : {ts : List Lexeme} → ExprTail d at test ts ts test
  choice_tail : {ts us : List Lexeme} {e : tree.Expr} → IsBehindTest d at test ts us e → ExprTail d at test ts us e

to_expr : (d at : ℕ) (ts ms us : List Lexeme) (test e : tree.Expr) → at ≡ place ts → IsShort d ts ms test → ExprTail d at test ms us e → IsExpr d ts us e
to_expr d at ts ms us test e h s no_tail = g.short s
to_expr d at ts ms us test e h s (choice_tail b) = subst (λ x. IsExpr d ts us x) (sym b.tree_is) (g.choice h s b.question (up b.first) b.colon (up b.second))

from_expr : (d : ℕ) (old : List Token) (ts us : List Lexeme) (e : tree.Expr) → BeginAlike old ts → IsExpr d ts us e → (x : tree.Expr) × (e ≡ x) × Dep (IsShort d) (ExprTail d (place_next old)) ts us x
from_expr d old ts us e b (g.short s) = (e, refl, record { value = e; between = us; first = s; second = no_tail })
from_expr d old ts us e b (g.choice {test = test} {yes = left} {no = right} p s q y c n) = (
  e,
  refl,
  record {
    value = test;
    between = _;
    first = s;
    second = choice_tail (record { vs = _; ws = _; xs = _; yes = left; no = right; question = q; first = down y; colon = c; second = down n; tree_is = ap (λ a. tree.choice a test left right) (p ∙ place_is_next old ts b) });
  },
)

no_short : (d at : ℕ) (e : tree.Expr) → Dep (IsShort d) (ExprTail d at) [] [] e → ⊥
no_short d at e p = false≢true (short_first p.first)

expr_here : (d : ℕ) (old : List Token) → SameHere (IsExpr d) (Dep (IsShort d) (ExprTail d (place_next old))) (λ e. e) (ends_by behind_expr) old
expr_here d old = record {
  to = λ ts us e b p. to_expr d (place_next old) ts p.between us p.value e (sym (place_is_next old ts b)) p.first p.second;
  from = λ ts us e b p h. from_expr d old ts us e b p;
  can = (expr_stands d).begun;
  end_may = tt;
  some = λ e p. no_short d (place_next old) e p;
}

tail_may : (d at : ℕ) (test : tree.Expr) (ts us : List Lexeme) (e : tree.Expr) → ExprTail d at test ts us e → ends_by behind_expr us → ends_by behind_short ts
tail_may d at test ts us e no_tail h = behind_test ts h
tail_may d at test ts us e (choice_tail b) h = takes_begins behind_short refl b.question

behind_tail : (d at : ℕ) (test : tree.Expr) → Behind (ends_by behind_short) (ExprTail d at test) (ends_by behind_expr)
behind_tail d at test = record {
  may = tail_may d at test;
  stands = record { begun = record { rest = []; tree = test; is = λ us e. no_tail }; no_else = no_else_behind behind_expr refl };
}

from_tail : (d at : ℕ) (test : tree.Expr) (mid : List Token) → kind_next mid ≡ Some (kind.Mark mark.Question) → (ts us : List Lexeme) (e : tree.Expr) → BeginAlike mid ts → ExprTail d at test ts us e → ends_by behind_expr us
    → (x : tree.Expr) × (e ≡ x) × IsBehindTest d at test ts us x
from_tail d at test mid h [] us e b no_tail f = absurd (begins_with mid (kind.Mark mark.Question) [] h b)
from_tail d at test mid h (t ∷ ts) us e b no_tail f = absurd (false≢true (sym (ap behind_expr (begins_with mid (kind.Mark mark.Question) (t ∷ ts) h b)) ∙ f))
from_tail d at test mid h ts us e b (choice_tail c) f = (e, refl, c)

-- An expression is its test and the sides of the choice;
pub expr_choice : {d : ℕ} {old mid new : List Token} {test : tree.Expr} {r : Result tree.Expr Stop} → kind_next mid ≡ Some (kind.Mark mark.Question)
    → Parses (IsShort d) (ends_by behind_short) old mid (Ok test) → Parses (IsBehindTest d (place_next old) test) (ends_by behind_expr) mid new r → Parses (IsExpr d) (ends_by behind_expr) old new r
expr_choice {d} {old} {mid} {new} {test} {r} h p q =
    let at : ℕ = place_next old in
    let tail : Parses (ExprTail d at test) (ends_by behind_expr) mid new r = read_same (record { to = λ ts us e c. choice_tail c; from = from_tail d at test mid h }) q in
    read_there (expr_here d old) (dep_seq (ExprTail d at) (behind_tail d at) p tail)

-- or what would be the test of one;
end_tail : (d at : ℕ) (test : tree.Expr) (mid : List Token) → ¬ (kind_next mid ≡ Some (kind.Mark mark.Question)) → (ts us : List Lexeme) (e : tree.Expr) → BeginAlike mid ts → ExprTail d at test ts us e → (ts ≡ us) × (e ≡ test)
end_tail d at test mid h ts us e b no_tail = (refl, refl)
end_tail d at test mid h ts us e b (choice_tail c) = absurd (not_with mid ts c.vs h b c.question)

pub expr_short : {d : ℕ} {old mid : List Token} {test : tree.Expr} → ¬ (kind_next mid ≡ Some (kind.Mark mark.Question))
    → Parses (IsShort d) (ends_by behind_short) old mid (Ok test) → Parses (IsExpr d) (ends_by behind_expr) old mid (Ok test)
expr_short {d} {old} {mid} {test} h p =
    let at : ℕ = place_next old in
    let tail : Parses (ExprTail d at test) (ends_by behind_expr) mid mid (Ok test) = nothing_there test (λ us e l. no_tail) (λ ts us e b c f. end_tail d at test mid h ts us e b c) in
    read_there (expr_here d old) (dep_seq (ExprTail d at) (behind_tail d at) p tail)

-- or the test stops.
pub expr_stop : {d : ℕ} {old new : List Token} {s : Stop} → Parses (IsShort d) (ends_by behind_short) old new (Err s) → Parses (IsExpr d) (ends_by behind_expr) old new (Err s)
expr_stop {d} {old} {new} {s} p = let at : ℕ = place_next old in read_there (expr_here d old) (dep_stop (ExprTail d at) (behind_tail d at) p)

-- The sides of a choice, one part behind another.
abbrev pub Sides : ℕ → Phrase (ℕ × (tree.Expr × (ℕ × tree.Expr)))
Sides d = Then (At (TakesMark mark.Question d)) (Then (IsExpr (d + 1)) (Then (At (TakesMark mark.Colon d)) (IsExpr (d + 1))))

abbrev pub sides_tree : ℕ → tree.Expr → ℕ × (tree.Expr × (ℕ × tree.Expr)) → tree.Expr
sides_tree at test b = tree.choice at test b.1.0 b.1.1.1

pub sides_same : (d at : ℕ) (test : tree.Expr) (old : List Token) → Same (IsBehindTest d at test) (Sides d) (sides_tree at test) (ends_by behind_expr) old
sides_same d at test old = record {
  to = λ ts us b p. record { vs = p.between; ws = p.second.between; xs = p.second.second.between; yes = b.1.0; no = b.1.1.1; question = p.first.takes; first = p.second.first; colon = p.second.second.first.takes; second = p.second.second.second; tree_is = refl };
  from = λ ts us e b p h. (
    (place ts, (p.yes, (place p.ws, p.no))),
    p.tree_is,
    record {
      between = p.vs;
      first = record { at_is = refl; takes = p.question };
      second = record { between = p.ws; first = p.first; second = record { between = p.xs; first = record { at_is = refl; takes = p.colon }; second = p.second } };
    },
  );
}

pub behind_colon : (d : ℕ) → Behind Anything (IsExpr (d + 1)) (ends_by behind_expr)
behind_colon d = last anything_begins (expr_stands (d + 1))

pub behind_side : (d : ℕ) → Behind (ends_by behind_expr) (Then (At (TakesMark mark.Colon d)) (IsExpr (d + 1))) (ends_by behind_expr)
behind_side d = before (mark_begins behind_expr refl) (mark_stands mark.Colon d) (behind_colon d)

pub behind_question : (d : ℕ) → Behind Anything (Then (IsExpr (d + 1)) (Then (At (TakesMark mark.Colon d)) (IsExpr (d + 1)))) (ends_by behind_expr)
behind_question d = before anything_begins (expr_stands (d + 1)) (behind_side d)

-- A chain of ?? behind its first operand, or chains of && and ||.
pub data ShortTail (d at : ℕ) (first : tree.Expr) : List Lexeme → List Lexeme → tree.Expr → Type 0 where
  coalesced : {ts us : List Lexeme} {es : tree.Exprs} → IsRest chain.Coalesce d ts us es → ShortTail d at first ts us (tree.lazy at chain.Coalesce first es)
  either : {ts us : List Lexeme} {e : tree.Expr} → IsEither d at first ts us e → ShortTail d at first ts us e

-- an operand of || is an operand of && and its chain
pub to_and : (d at : ℕ) (ts ms us : List Lexeme) (first e : tree.Expr) → at ≡ place ts → IsStrict g.eq d ts ms first → IsChained chain.And d at first ms us e → IsOperandOf chain.Or d ts us e
to_and d at ts ms us first e h s alone = g.of_or s
to_and d at ts ms us first e h s (chained r) = g.and h (g.of_and s) r

pub from_and : (d at : ℕ) (ts us : List Lexeme) (e : tree.Expr) → at ≡ place ts → IsOperandOf chain.Or d ts us e → (x : tree.Expr) × (e ≡ x) × Dep (IsStrict g.eq d) (IsChained chain.And d at) ts us x
from_and d at ts us e h (g.of_or s) = (e, refl, record { value = e; between = us; first = s; second = alone })
from_and d at ts us e h (g.and {e = first} {es = es} p (g.of_and s) r) =
    (tree.lazy at chain.And first es, ap (λ a. tree.lazy a chain.And first es) (p ∙ sym h), record { value = first; between = _; first = s; second = chained r })

to_short : (d at : ℕ) (ts ms us : List Lexeme) (first e : tree.Expr) → at ≡ place ts → IsStrict g.eq d ts ms first → ShortTail d at first ms us e → IsShort d ts us e
to_short d at ts ms us first e h s (coalesced r) = g.coalesce h (g.of_coalesce s) r
to_short d at ts ms us first e h s (either b) = ors d at ts b.ms us b.whole e h (to_and d at ts ms b.ms first b.whole h s b.ands) b.ors
  where
    ors : (d at : ℕ) (ts ms us : List Lexeme) (first e : tree.Expr) → at ≡ place ts → IsOperandOf chain.Or d ts ms first → IsChained chain.Or d at first ms us e → IsShort d ts us e
    ors d at ts ms us first e h o alone = g.one o
    ors d at ts ms us first e h o (chained r) = g.or h o r

from_short : (d at : ℕ) (ts us : List Lexeme) (e : tree.Expr) → at ≡ place ts → IsShort d ts us e → (x : tree.Expr) × (e ≡ x) × Dep (IsStrict g.eq d) (ShortTail d at) ts us x
from_short d at ts us e h (g.one o) =
    let a = from_and d at ts us e h o in
    (a.0, a.1, record { value = a.2.value; between = a.2.between; first = a.2.first; second = either (record { ms = us; whole = a.0; ands = a.2.second; ors = alone }) })
from_short d at ts us e h (g.coalesce {e = first} {es = es} p (g.of_coalesce s) r) =
    (tree.lazy at chain.Coalesce first es, ap (λ a. tree.lazy a chain.Coalesce first es) (p ∙ sym h), record { value = first; between = _; first = s; second = coalesced r })
from_short d at ts us e h (g.or {us = ms} {e = first} {es = es} p o r) =
    let a = from_and d at ts ms first h o in (
      tree.lazy at chain.Or a.0 es,
      ap (λ x. tree.lazy x chain.Or first es) (p ∙ sym h) ∙ ap (λ x. tree.lazy at chain.Or x es) a.1,
      record { value = a.2.value; between = a.2.between; first = a.2.first; second = either (record { ms = ms; whole = a.0; ands = a.2.second; ors = chained r }) },
    )

no_strict : (d : ℕ) {Q : tree.Expr → Phrase tree.Expr} (e : tree.Expr) → Dep (IsStrict g.eq d) Q [] [] e → ⊥
no_strict d e p = false≢true (strict_first p.first)

-- A value stands at each level.
pub strict_from_un : {d : ℕ} {ts us : List Lexeme} {e : tree.Expr} (l : Level) → IsUn (suc d) ts us e → IsStrict l d ts us e
strict_from_un g.mul u = g.tighter (g.of_mul u)
strict_from_un g.add u = g.tighter (g.of_add (g.tighter (g.of_mul u)))
strict_from_un g.rel u = g.tighter (g.of_rel (g.tighter (g.of_add (g.tighter (g.of_mul u)))))
strict_from_un g.eq u = g.tighter (g.of_eq (g.tighter (g.of_rel (g.tighter (g.of_add (g.tighter (g.of_mul u)))))))

pub tighter_from_un : {d : ℕ} {ts us : List Lexeme} {e : tree.Expr} (l : Level) → IsUn (suc d) ts us e → IsTighter l d ts us e
tighter_from_un g.mul u = g.of_mul u
tighter_from_un g.add u = g.of_add (strict_from_un g.mul u)
tighter_from_un g.rel u = g.of_rel (strict_from_un g.add u)
tighter_from_un g.eq u = g.of_eq (strict_from_un g.rel u)

pub null_of : ℕ → Lexeme
null_of d = token_of (kind.Keyword key.Null) [] d

pub prim_null : (d : ℕ) (us : List Lexeme) → IsPrim d (null_of d ∷ us) us (tree.null 0)
unfolding null_of
prim_null d us = g.null (place_of_token (kind.Keyword key.Null) [] d us) (token_takes (kind.Keyword key.Null) [] d us)

pub null_no_else : (d : ℕ) (us : List Lexeme) → BeginsWithNo (kind.Keyword key.Else) (null_of d ∷ us)
unfolding null_of
null_no_else d us = no_else (kind.Keyword key.Null) [] d us refl

module _ (d : ℕ) {Ends : Follow} where
  pub prim_stands : Stands (IsPrim d) Ends
  prim_stands = record { begun = record { rest = null_of d ∷ []; tree = tree.null 0; is = λ us e. prim_null d us }; no_else = λ us e. null_no_else d us }

  pub post_stands : Stands (IsPost d) Ends
  post_stands = record { begun = record { rest = null_of d ∷ []; tree = tree.null 0; is = λ us e. g.prim (prim_null d us) }; no_else = λ us e. null_no_else d us }

  pub un_stands : Stands (IsUn d) Ends
  un_stands = record { begun = record { rest = null_of d ∷ []; tree = tree.null 0; is = λ us e. g.post (g.prim (prim_null d us)) }; no_else = λ us e. null_no_else d us }

  pub strict_stands : (l : Level) → Stands (IsStrict l d) Ends
  strict_stands l = record { begun = record { rest = null_of (suc d) ∷ []; tree = tree.null 0; is = λ us e. strict_from_un l (g.post (g.prim (prim_null (suc d) us))) }; no_else = λ us e. null_no_else (suc d) us }

  pub tighter_stands : (l : Level) → Stands (IsTighter l d) Ends
  tighter_stands l = record { begun = record { rest = null_of (suc d) ∷ []; tree = tree.null 0; is = λ us e. tighter_from_un l (g.post (g.prim (prim_null (suc d) us))) }; no_else = λ us e. null_no_else (suc d) us }

  pub short_stands : Stands (IsShort d) Ends
  short_stands = record { begun = record { rest = null_of (suc d) ∷ []; tree = tree.null 0; is = λ us e. g.one (g.of_or (strict_from_un g.eq (g.post (g.prim (prim_null (suc d) us))))) }; no_else = λ us e. null_no_else (suc d) us }

-- an operand of a chain is one of the operators' expressions
pub operand_from_strict : {d : ℕ} {ts us : List Lexeme} {e : tree.Expr} (c : Chain) → IsStrict g.eq d ts us e → IsOperandOf c d ts us e
operand_from_strict chain.Coalesce s = g.of_coalesce s
operand_from_strict chain.And s = g.of_and s
operand_from_strict chain.Or s = g.of_or s

pub operand_stands : (c : Chain) (d : ℕ) {Ends : Follow} → Stands (IsOperandOf c d) Ends
operand_stands c d = record { begun = record { rest = null_of (suc d) ∷ []; tree = tree.null 0; is = λ us e. operand_from_strict c (strict_from_un g.eq (g.post (g.prim (prim_null (suc d) us)))) }; no_else = λ us e. null_no_else (suc d) us }

short_here : (d : ℕ) (old : List Token) → SameHere (IsShort d) (Dep (IsStrict g.eq d) (ShortTail d (place_next old))) (λ e. e) (ends_by behind_short) old
short_here d old = record {
  to = λ ts us e b p. to_short d (place_next old) ts p.between us p.value e (sym (place_is_next old ts b)) p.first p.second;
  from = λ ts us e b p h. from_short d (place_next old) ts us e (sym (place_is_next old ts b)) p;
  can = (short_stands d).begun;
  end_may = tt;
  some = λ e p. no_strict d e p;
}

-- With what the rest of a chain begins.
pub rest_takes : {c : Chain} {d : ℕ} {ts us : List Lexeme} {es : tree.Exprs} → IsRest c d ts us es → kind_first ts ≡ Some (kind.Mark (chain_mark c))
rest_takes (g.rest_last t o) = takes_first t
rest_takes (g.rest_more t o r) = takes_first t

pub first_may : (may : Kind → Bool) (k : Kind) (ts : List Lexeme) → kind_first ts ≡ Some k → may k ≡ true → ends_by may ts
first_may may k [] h e = tt
first_may may k (t ∷ ts) h e = ap may (some_same t.kind k h) ∙ e
  where
    some_same : (a b : Kind) → Some a ≡ Some b → a ≡ b
    some_same a b h = cc

chained_mark_may : (c : Chain) → behind_strict g.eq (kind.Mark (chain_mark c)) ≡ true
chained_mark_may chain.And = refl
chained_mark_may chain.Or = refl
chained_mark_may chain.Coalesce = refl

pub chained_may : (c : Chain) (d at : ℕ) (first : tree.Expr) (ts us : List Lexeme) (e : tree.Expr) → IsChained c d at first ts us e → ends_by (behind_chain c) us → ends_by (behind_strict g.eq) ts
chained_may c d at first ts us e alone h = operand_behind c ts (chain_behind c ts h)
chained_may c d at first ts us e (chained r) h = first_may (behind_strict g.eq) (kind.Mark (chain_mark c)) ts (rest_takes r) (chained_mark_may c)

pub ors_may : (d at : ℕ) (first : tree.Expr) (ts us : List Lexeme) (e : tree.Expr) → IsChained chain.Or d at first ts us e → ends_by behind_short us → ends_by (behind_chain chain.And) ts
ors_may d at first ts us e alone h = short_behind chain.Or ts h
ors_may d at first ts us e (chained r) h = first_may (behind_operand chain.Or) (kind.Mark mark.Or) ts (rest_takes r) refl

either_may : (d at : ℕ) (first : tree.Expr) (ts us : List Lexeme) (e : tree.Expr) → IsEither d at first ts us e → ends_by behind_short us → ends_by (behind_strict g.eq) ts
either_may d at first ts us e b h = chained_may chain.And d at first ts b.ms b.whole b.ands (ors_may d at b.whole b.ms us e b.ors h)

short_tail_may : (d at : ℕ) (first : tree.Expr) (ts us : List Lexeme) (e : tree.Expr) → ShortTail d at first ts us e → ends_by behind_short us → ends_by (behind_strict g.eq) ts
short_tail_may d at first ts us e (coalesced r) h = first_may (behind_strict g.eq) (kind.Mark mark.Coalesce) ts (rest_takes r) refl
short_tail_may d at first ts us e (either b) h = either_may d at first ts us e b h

nothing_chained : (d at : ℕ) (first : tree.Expr) (us : List Lexeme) → IsEither d at first us us first
nothing_chained d at first us = record { ms = us; whole = first; ands = alone; ors = alone }

chain_no_else : (c : Chain) → behind_chain c (kind.Keyword key.Else) ≡ false
chain_no_else chain.And = refl
chain_no_else chain.Or = refl
chain_no_else chain.Coalesce = refl

behind_first : (d at : ℕ) (first : tree.Expr) → Behind (ends_by (behind_strict g.eq)) (ShortTail d at first) (ends_by behind_short)
behind_first d at first = record {
  may = short_tail_may d at first;
  stands = record { begun = record { rest = []; tree = first; is = λ us e. either (nothing_chained d at first us) }; no_else = no_else_behind behind_short refl };
}

-- behind the first operand with ?? next
pub some_mark : (a b : Kind) → Some a ≡ Some b → a ≡ b
some_mark a b h = cc

marks_differ : (m : Mark) (ts : List Lexeme) (mid : List Token) → kind.Mark m ≢ kind.Mark mark.Coalesce → kind_next mid ≡ Some (kind.Mark mark.Coalesce) → BeginAlike mid ts → kind_first ts ≡ Some (kind.Mark m) → ⊥
marks_differ m ts mid n h b k = n (some_mark (kind.Mark m) (kind.Mark mark.Coalesce) (sym k ∙ first_is_next mid ts b ∙ h))

or_differs : kind.Mark mark.Or ≢ kind.Mark mark.Coalesce
or_differs h = cc

and_differs : kind.Mark mark.And ≢ kind.Mark mark.Coalesce
and_differs h = cc

plain : (d at : ℕ) (first whole e : tree.Expr) (mid : List Token) → kind_next mid ≡ Some (kind.Mark mark.Coalesce) → (ts ms us : List Lexeme) → BeginAlike mid ts → IsChained chain.And d at first ts ms whole → IsChained chain.Or d at whole ms us e → IsChained chain.Coalesce d at first ts us e
plain d at first whole e mid h ts ms us b alone alone = alone
plain d at first whole e mid h ts ms us b alone (chained r) = absurd (marks_differ mark.Or ts mid or_differs h b (rest_takes r))
plain d at first whole e mid h ts ms us b (chained r) o = absurd (marks_differ mark.And ts mid and_differs h b (rest_takes r))

from_coalesced : (d at : ℕ) (first : tree.Expr) (mid : List Token) → kind_next mid ≡ Some (kind.Mark mark.Coalesce) → (ts us : List Lexeme) (e : tree.Expr) → BeginAlike mid ts → ShortTail d at first ts us e
    → (x : tree.Expr) × (e ≡ x) × IsChained chain.Coalesce d at first ts us x
from_coalesced d at first mid h ts us e b (coalesced r) = (e, refl, chained r)
from_coalesced d at first mid h ts us e b (either c) = (e, refl, plain d at first c.whole e mid h ts c.ms us b c.ands c.ors)

to_coalesced : (d at : ℕ) (first : tree.Expr) (ts us : List Lexeme) (e : tree.Expr) → IsChained chain.Coalesce d at first ts us e → ShortTail d at first ts us e
to_coalesced d at first ts us e alone = either (nothing_chained d at first ts)
to_coalesced d at first ts us e (chained r) = coalesced r

pub short_coalesce : {d : ℕ} {old mid new : List Token} {first : tree.Expr} {r : Result tree.Expr Stop} → kind_next mid ≡ Some (kind.Mark mark.Coalesce)
    → Parses (IsStrict g.eq d) (ends_by (behind_strict g.eq)) old mid (Ok first) → Parses (IsChained chain.Coalesce d (place_next old) first) (ends_by behind_short) mid new r → Parses (IsShort d) (ends_by behind_short) old new r
short_coalesce {d} {old} {mid} {new} {first} {r} h p q =
    let at : ℕ = place_next old in
    let tail : Parses (ShortTail d at first) (ends_by behind_short) mid new r = read_same (record { to = to_coalesced d at first; from = λ ts us e b t f. from_coalesced d at first mid h ts us e b t }) q in
    read_there (short_here d old) (dep_seq (ShortTail d at) (behind_first d at) p tail)

-- behind it with none
from_either : (d at : ℕ) (first : tree.Expr) (mid : List Token) → ¬ (kind_next mid ≡ Some (kind.Mark mark.Coalesce)) → (ts us : List Lexeme) (e : tree.Expr) → BeginAlike mid ts → ShortTail d at first ts us e
    → (x : tree.Expr) × (e ≡ x) × IsEither d at first ts us x
from_either d at first mid h ts us e b (coalesced r) = absurd (h (sym (first_is_next mid ts b) ∙ rest_takes r))
from_either d at first mid h ts us e b (either c) = (e, refl, c)

pub short_either : {d : ℕ} {old mid new : List Token} {first : tree.Expr} {r : Result tree.Expr Stop} → ¬ (kind_next mid ≡ Some (kind.Mark mark.Coalesce))
    → Parses (IsStrict g.eq d) (ends_by (behind_strict g.eq)) old mid (Ok first) → Parses (IsEither d (place_next old) first) (ends_by behind_short) mid new r → Parses (IsShort d) (ends_by behind_short) old new r
short_either {d} {old} {mid} {new} {first} {r} h p q =
    let at : ℕ = place_next old in
    let tail : Parses (ShortTail d at first) (ends_by behind_short) mid new r = read_same (record { to = λ ts us e c. either c; from = λ ts us e b t f. from_either d at first mid h ts us e b t }) q in
    read_there (short_here d old) (dep_seq (ShortTail d at) (behind_first d at) p tail)

pub short_stop : {d : ℕ} {old new : List Token} {s : Stop} → Parses (IsStrict g.eq d) (ends_by (behind_strict g.eq)) old new (Err s) → Parses (IsShort d) (ends_by behind_short) old new (Err s)
short_stop {d} {old} {new} {s} p = let at : ℕ = place_next old in read_there (short_here d old) (dep_stop (ShortTail d at) (behind_first d at) p)

-- Chains of && and ||, one behind the other.
either_same : (d at : ℕ) (first : tree.Expr) (old : List Token) → Same (IsEither d at first) (Dep (IsChained chain.And d at first) (IsChained chain.Or d at)) (λ e. e) (ends_by behind_short) old
either_same d at first old = record {
  to = λ ts us e p. record { ms = p.between; whole = p.value; ands = p.first; ors = p.second };
  from = λ ts us e b p h. (e, refl, record { value = p.whole; between = p.ms; first = p.ands; second = p.ors });
}

behind_ands : (d at : ℕ) (whole : tree.Expr) → Behind (ends_by (behind_chain chain.And)) (IsChained chain.Or d at whole) (ends_by behind_short)
behind_ands d at whole = record {
  may = ors_may d at whole;
  stands = record { begun = record { rest = []; tree = whole; is = λ us e. alone }; no_else = no_else_behind behind_short refl };
}

pub either_ors : {d at : ℕ} {old mid new : List Token} {first whole : tree.Expr} {r : Result tree.Expr Stop}
    → Parses (IsChained chain.And d at first) (ends_by (behind_chain chain.And)) old mid (Ok whole) → Parses (IsChained chain.Or d at whole) (ends_by behind_short) mid new r → Parses (IsEither d at first) (ends_by behind_short) old new r
either_ors {d} {at} {old} {mid} {new} {first} {whole} {r} p q = read_same (either_same d at first old) (dep_seq (IsChained chain.Or d at) (behind_ands d at) p q)

pub either_stop : {d at : ℕ} {old new : List Token} {first : tree.Expr} {s : Stop} → Parses (IsChained chain.And d at first) (ends_by (behind_chain chain.And)) old new (Err s) → Parses (IsEither d at first) (ends_by behind_short) old new (Err s)
either_stop {d} {at} {old} {new} {first} {s} p = read_same (either_same d at first old) (dep_stop (IsChained chain.Or d at) (behind_ands d at) p)
