-- Values, from their parts.
use Rattle.std.proofs.Common.{◌≡◌, ◌≢◌, ◌≤◌, ◌+◌, ℕ, zero, suc, pos, ℤ, Bool, true, false, List, [], ◌∷◌, ◌++◌, ◌⊎◌, inl, inr, Option, Some, None, Result, Ok, Err, refl, sym, ◌∙◌, ap, subst, codes}
use Rattle.std.proofs.Math.Numerals.{add-one}
use Rattle.std.proofs.lemmas.Bool.{false≢true}
use Rattle.do_lex.specs.declared.kind.Kind.{Kind}
use Rattle.do_lex.specs.declared.kind.Kind.TheVariants as kind
use Rattle.do_lex.specs.declared.kind.Keyword.{Keyword}
use Rattle.do_lex.specs.declared.kind.Keyword.TheVariants as key
use Rattle.do_lex.specs.declared.kind.Mark.{Mark}
use Rattle.do_lex.specs.declared.kind.Mark.TheVariants as mark
use Rattle.do_lex.specs.declared.tokens.Token.{Token}
use Rattle.do_tree.specs.Grammar as g
use Rattle.do_tree.specs.Grammar.{Takes, TakesMark, TakesKey, TakesName, TakesWord, TakesAnyWord, TakesText, IsExpr, IsExprs, IsPairs, IsPair, IsOptionExpr, IsPrim, BeginsWithNo}
use Rattle.do_tree.specs.Lexeme.{Lexeme, place, text_of, number_of}
use Rattle.do_tree.specs.Tree as tree
use Rattle.do_parse.specs.declared.stop.Stop.{Stop}
use Rattle.do_parse.specs.declared.starts.ExprStart.{ExprStart}
use Rattle.do_parse.specs.declared.starts.ExprStart.TheVariants as start
use Rattle.do_parse.specs.Follow.{behind_expr, behind_element, behind_option}
use Rattle.do_parse.specs.Lists.{BeginsWith, Starting, CommaList, IsOnePair, Pair, exprs_from, pairs_from}
use Rattle.do_parse.specs.Lists.CommaList.{none as comma_none, last as comma_last, last_comma as comma_last_comma, more as comma_more}
use Rattle.do_parse.specs.Parsed.{Phrase, Follow, Anything, ends_by, BeginAlike, CanBegin, Parses}
use Rattle.do_parse.specs.Pieces.{IsPairValue, IsOptionValue, no_value, some_value, IsKeyPair, bool_key}
use Rattle.do_parse.specs.Starts.{kind_next, place_next, expr_start, begins_expr, expr_mark, expr_key, is_some_start}
use Rattle.do_parse.specs.Taken.{IsName, IsAnyName, IsTextName}
use Rattle.do_parse.specs.Then.{Then, At, with_tree}
use Rattle.do_parse.proofs.Sequence.{Stands, Behind, Same, seq, stop, read_as}
use Rattle.do_parse.proofs.Facts.{BeginsBy, takes_begins, mark_begins, anything_begins, mark_stands, key_stands, last, before}
use Rattle.do_parse.proofs.FactsExpr.{expr_stands}
use Rattle.do_parse.proofs.First.{kind_first, first_is_next, place_is_next, takes_first, takes_with, first_with, expr_first}
use Rattle.do_parse.proofs.Lists.{nothing_there}
use Rattle.do_parse.proofs.Exprs.{up, down, read_same, not_with}
use Rattle.do_parse.proofs.Follows.{no_else_behind}
use Rattle.do_parse.proofs.Taking.{OneToken, held, held_is, takes_only, token_is}

-- What a value begins with, by its tree.
abbrev pub prim_start : tree.Expr → ExprStart
prim_start (tree.number at n) = start.Number
prim_start (tree.text at bytes) = start.Text
prim_start (tree.boolean at true) = start.True
prim_start (tree.boolean at false) = start.False
prim_start (tree.null at) = start.Null
prim_start (tree.undefined at) = start.Undefined
prim_start (tree.this at) = start.This
prim_start (tree.variable n) = start.Name
prim_start (tree.group at e) = start.Group
prim_start (tree.list at es) = start.List
prim_start (tree.rec at ps) = start.Record
prim_start (tree.new_error at m) = start.New
prim_start _ = start.Nothing

pub prim_kind : {d : ℕ} {ts us : List Lexeme} {e : tree.Expr} → IsPrim d ts us e → expr_start (kind_first ts) ≡ prim_start e
prim_kind (g.number p t n) = ap expr_start (takes_first t)
prim_kind (g.text t) = ap expr_start (takes_first t.takes)
prim_kind (g.yes p t) = ap expr_start (takes_first t)
prim_kind (g.no p t) = ap expr_start (takes_first t)
prim_kind (g.null p t) = ap expr_start (takes_first t)
prim_kind (g.undefined p t) = ap expr_start (takes_first t)
prim_kind (g.this p t) = ap expr_start (takes_first t)
prim_kind (g.variable t) = ap expr_start (takes_first t.takes)
prim_kind (g.group p t e c) = ap expr_start (takes_first t)
prim_kind (g.list p t e c) = ap expr_start (takes_first t)
prim_kind (g.rec p t e c) = ap expr_start (takes_first t)
prim_kind (g.new_error p t w o m c) = ap expr_start (takes_first t)

-- a value that begins with this kind
begun_with : {d : ℕ} {ts us : List Lexeme} {e : tree.Expr} (k : Kind) → BeginsWith k ts → IsPrim d ts us e → expr_start (Some k) ≡ prim_start e
begun_with {ts = ts} k b p = sym (ap expr_start (first_with k ts b)) ∙ prim_kind p

from_null : (d : ℕ) (ts us : List Lexeme) (e : tree.Expr) → BeginsWith (kind.Keyword key.Null) ts → IsPrim d ts us e → (b : ℕ) × (e ≡ tree.null b) × At (TakesKey key.Null d) ts us b
from_null d ts us e h (g.null {at = at} p t) = (at, refl, record { at_is = p; takes = t })
from_null d ts us e h p = let q : start.Null ≡ prim_start e = begun_with (kind.Keyword key.Null) h p in absurd (cc)

pub null_same : (d : ℕ) (old : List Token) → Same (Starting (kind.Keyword key.Null) (IsPrim d)) (At (TakesKey key.Null d)) (λ b. tree.null b) Anything old
null_same d old = record { to = λ ts us b t. (takes_with t.takes, g.null t.at_is t.takes); from = λ ts us e b p f. from_null d ts us e p.0 p.1 }

from_undefined : (d : ℕ) (ts us : List Lexeme) (e : tree.Expr) → BeginsWith (kind.Keyword key.Undefined) ts → IsPrim d ts us e → (b : ℕ) × (e ≡ tree.undefined b) × At (TakesKey key.Undefined d) ts us b
from_undefined d ts us e h (g.undefined {at = at} p t) = (at, refl, record { at_is = p; takes = t })
from_undefined d ts us e h p = let q : start.Undefined ≡ prim_start e = begun_with (kind.Keyword key.Undefined) h p in absurd (cc)

pub undefined_same : (d : ℕ) (old : List Token) → Same (Starting (kind.Keyword key.Undefined) (IsPrim d)) (At (TakesKey key.Undefined d)) (λ b. tree.undefined b) Anything old
undefined_same d old = record { to = λ ts us b t. (takes_with t.takes, g.undefined t.at_is t.takes); from = λ ts us e b p f. from_undefined d ts us e p.0 p.1 }

from_this : (d : ℕ) (ts us : List Lexeme) (e : tree.Expr) → BeginsWith (kind.Keyword key.This) ts → IsPrim d ts us e → (b : ℕ) × (e ≡ tree.this b) × At (TakesKey key.This d) ts us b
from_this d ts us e h (g.this {at = at} p t) = (at, refl, record { at_is = p; takes = t })
from_this d ts us e h p = let q : start.This ≡ prim_start e = begun_with (kind.Keyword key.This) h p in absurd (cc)

pub this_same : (d : ℕ) (old : List Token) → Same (Starting (kind.Keyword key.This) (IsPrim d)) (At (TakesKey key.This d)) (λ b. tree.this b) Anything old
this_same d old = record { to = λ ts us b t. (takes_with t.takes, g.this t.at_is t.takes); from = λ ts us e b p f. from_this d ts us e p.0 p.1 }

from_true : (d : ℕ) (ts us : List Lexeme) (e : tree.Expr) → BeginsWith (kind.Keyword key.True) ts → IsPrim d ts us e → (b : ℕ) × (e ≡ tree.boolean b true) × At (TakesKey key.True d) ts us b
from_true d ts us e h (g.yes {at = at} p t) = (at, refl, record { at_is = p; takes = t })
from_true d ts us e h p = let q : start.True ≡ prim_start e = begun_with (kind.Keyword key.True) h p in absurd (cc)

pub true_same : (d : ℕ) (old : List Token) → Same (Starting (kind.Keyword key.True) (IsPrim d)) (At (TakesKey key.True d)) (λ b. tree.boolean b true) Anything old
true_same d old = record { to = λ ts us b t. (takes_with t.takes, g.yes t.at_is t.takes); from = λ ts us e b p f. from_true d ts us e p.0 p.1 }

from_false : (d : ℕ) (ts us : List Lexeme) (e : tree.Expr) → BeginsWith (kind.Keyword key.False) ts → IsPrim d ts us e → (b : ℕ) × (e ≡ tree.boolean b false) × At (TakesKey key.False d) ts us b
from_false d ts us e h (g.no {at = at} p t) = (at, refl, record { at_is = p; takes = t })
from_false d ts us e h p = let q : start.False ≡ prim_start e = begun_with (kind.Keyword key.False) h p in absurd (cc)

pub false_same : (d : ℕ) (old : List Token) → Same (Starting (kind.Keyword key.False) (IsPrim d)) (At (TakesKey key.False d)) (λ b. tree.boolean b false) Anything old
false_same d old = record { to = λ ts us b t. (takes_with t.takes, g.no t.at_is t.takes); from = λ ts us e b p f. from_false d ts us e p.0 p.1 }

from_variable : (d : ℕ) (ts us : List Lexeme) (e : tree.Expr) → BeginsWith (kind.Word) ts → IsPrim d ts us e → (b : tree.Named) × (e ≡ tree.variable b) × IsName d ts us b
from_variable d ts us e h (g.variable {n = n} t) = (n, refl, t)
from_variable d ts us e h p = let q : start.Name ≡ prim_start e = begun_with (kind.Word) h p in absurd (cc)

pub variable_same : (d : ℕ) (old : List Token) → Same (Starting (kind.Word) (IsPrim d)) (IsName d) (λ b. tree.variable b) Anything old
variable_same d old = record { to = λ ts us b t. (takes_with t.takes, g.variable t); from = λ ts us e b p f. from_variable d ts us e p.0 p.1 }

from_text : (d : ℕ) (ts us : List Lexeme) (e : tree.Expr) → BeginsWith (kind.Text) ts → IsPrim d ts us e → (b : tree.Named) × (e ≡ tree.text b.at b.text) × IsTextName d ts us b
from_text d ts us e h (g.text {at = at} {bytes = bytes} t) = (record { at = at; text = bytes }, refl, t)
from_text d ts us e h p = let q : start.Text ≡ prim_start e = begun_with (kind.Text) h p in absurd (cc)

pub text_same : (d : ℕ) (old : List Token) → Same (Starting (kind.Text) (IsPrim d)) (IsTextName d) (λ b. tree.text b.at b.text) Anything old
text_same d old = record { to = λ ts us b t. (takes_with t.takes, g.text t); from = λ ts us e b p f. from_text d ts us e p.0 p.1 }

-- a truth value
pub boolean_same : (value : Bool) (d : ℕ) (old : List Token) → Same (Starting (kind.Keyword (bool_key value)) (IsPrim d)) (At (TakesKey (bool_key value) d)) (λ at. tree.boolean at value) Anything old
boolean_same true d old = true_same d old
boolean_same false d old = false_same d old

-- A number.
number_tree : (d : ℕ) (l : Lexeme) (ts us : List Lexeme) (e : tree.Expr) → l.kind ≡ kind.Number → IsPrim d (l ∷ ts) us e → (t : Takes kind.Number d (l ∷ ts) us) × (e ≡ tree.number l.at (pos (number_of t.token)))
number_tree d l ts us e h (g.number {n = n} p t v) = (t, ap (λ a. tree.number a (pos n)) p ∙ ap (λ a. tree.number l.at (pos a)) v)
number_tree d l ts us e h p = let q : start.Number ≡ prim_start e = begun_with kind.Number h p in absurd (cc)

pub number_one : (d : ℕ) (t : Token) → t.kind ≡ kind.Number → OneToken (Starting kind.Number (IsPrim d)) t d (tree.number t.at (pos (number_of (held t d))))
number_one d t h = record {
  is = λ us. (h, g.number refl (record { token = held t d; first = refl; kind_is = h; inside_is = refl }) refl);
  only = λ l ts us other i p.
      let n = number_tree d l ts us other p.0 p.1 in
      let x = takes_only t l ts us i n.0 in
      let same = token_is l n.0.token ts us n.0.first ∙ held_is t l d i x.0 in
      (x.0, x.1, n.1 ∙ ap (λ y. tree.number l.at (pos (number_of y))) same ∙ ap (λ a. tree.number a (pos (number_of (held t d)))) i.at);
}

-- An expression in parentheses.
abbrev pub Group : ℕ → Phrase (ℕ × (tree.Expr × ℕ))
Group d = Then (At (TakesMark mark.OpenParen d)) (Then (IsExpr (d + 1)) (At (TakesMark mark.CloseParen d)))

from_group : (d : ℕ) (ts us : List Lexeme) (e : tree.Expr) → BeginsWith (kind.Mark mark.OpenParen) ts → IsPrim d ts us e → (b : ℕ × (tree.Expr × ℕ)) × (e ≡ tree.group b.0 b.1.0) × Group d ts us b
from_group d ts us e h (g.group {at = at} {us = us'} {vs = vs} {e = inside} p o e' c) = ((at, (inside, place vs)), refl, record { between = us'; first = record { at_is = p; takes = o }; second = record { between = vs; first = down e'; second = record { at_is = refl; takes = c } } })
from_group d ts us e h p = let q : start.Group ≡ prim_start e = begun_with (kind.Mark mark.OpenParen) h p in absurd (cc)

pub group_same : (d : ℕ) (old : List Token) → Same (Starting (kind.Mark mark.OpenParen) (IsPrim d)) (Group d) (λ b. tree.group b.0 b.1.0) Anything old
group_same d old = record { to = λ ts us b t. (takes_with t.first.takes, g.group t.first.at_is t.first.takes (up t.second.first) t.second.second.takes); from = λ ts us e b p f. from_group d ts us e p.0 p.1 }

-- the items of a list
to_exprs : (d : ℕ) (ts us : List Lexeme) (xs : List tree.Expr) → CommaList (IsExpr (d + 1)) d ts us xs → IsExprs d ts us (exprs_from xs)
to_exprs d ts us [] comma_none = g.exprs_none
to_exprs d ts us (x ∷ []) (comma_last p) = g.exprs_last (up p)
to_exprs d ts us (x ∷ []) (comma_last_comma p t) = g.exprs_last_comma (up p) t
to_exprs d ts us (x ∷ y ∷ xs) (comma_more p t r) = g.exprs_more (λ h. cc) (up p) t (to_exprs d _ us (y ∷ xs) r)

more_exprs : (d : ℕ) (ts us vs ws : List Lexeme) (e : tree.Expr) (rest : tree.Exprs) → rest ≢ tree.no_exprs → IsExpr (d + 1) ts us e → TakesMark mark.Comma d us vs
    → (xs : List tree.Expr) × (rest ≡ exprs_from xs) × CommaList (IsExpr (d + 1)) d vs ws xs → (xs : List tree.Expr) × (tree.expr e rest ≡ exprs_from xs) × CommaList (IsExpr (d + 1)) d ts ws xs
more_exprs d ts us vs ws e rest n p t ([], h, r) = absurd (n h)
more_exprs d ts us vs ws e rest n p t (y ∷ xs, h, r) = (e ∷ y ∷ xs, ap (λ x. tree.expr e x) h, comma_more p t r)

from_exprs : (d : ℕ) (ts us : List Lexeme) (es : tree.Exprs) → IsExprs d ts us es → (xs : List tree.Expr) × (es ≡ exprs_from xs) × CommaList (IsExpr (d + 1)) d ts us xs
from_exprs d ts us es g.exprs_none = ([], refl, comma_none)
from_exprs d ts us es (g.exprs_last {e = e} p) = (e ∷ [], refl, comma_last (down p))
from_exprs d ts us es (g.exprs_last_comma {e = e} p t) = (e ∷ [], refl, comma_last_comma (down p) t)
from_exprs d ts us es (g.exprs_more {us = vs} {vs = ws} {e = e} {es = rest} n p t r) = more_exprs d ts vs ws us e rest n (down p) t (from_exprs d ws us rest r)

-- A list.
abbrev pub Listed : ℕ → Phrase (ℕ × (List tree.Expr × ℕ))
Listed d = Then (At (TakesMark mark.OpenBracket d)) (Then (CommaList (IsExpr (d + 1)) d) (At (TakesMark mark.CloseBracket d)))

from_list : (d : ℕ) (ts us : List Lexeme) (e : tree.Expr) → BeginsWith (kind.Mark mark.OpenBracket) ts → IsPrim d ts us e → (b : ℕ × (List tree.Expr × ℕ)) × (e ≡ tree.list b.0 (exprs_from b.1.0)) × Listed d ts us b
from_list d ts us e h (g.list {at = at} {us = us'} {vs = vs} {es = es} p o is c) =
    let x = from_exprs d us' vs es is in
    ((at, (x.0, place vs)), ap (λ y. tree.list at y) x.1, record { between = us'; first = record { at_is = p; takes = o }; second = record { between = vs; first = x.2; second = record { at_is = refl; takes = c } } })
from_list d ts us e h p = let q : start.List ≡ prim_start e = begun_with (kind.Mark mark.OpenBracket) h p in absurd (cc)

pub list_same : (d : ℕ) (old : List Token) → Same (Starting (kind.Mark mark.OpenBracket) (IsPrim d)) (Listed d) (λ b. tree.list b.0 (exprs_from b.1.0)) Anything old
list_same d old = record {
  to = λ ts us b t. (takes_with t.first.takes, g.list t.first.at_is t.first.takes (to_exprs d t.between t.second.between b.1.0 t.second.first) t.second.second.takes);
  from = λ ts us e b p f. from_list d ts us e p.0 p.1;
}

-- the pairs of a record
to_pairs : (d : ℕ) (ts us : List Lexeme) (xs : List Pair) → CommaList (IsOnePair d) d ts us xs → IsPairs d ts us (pairs_from xs)
to_pairs d ts us [] comma_none = g.pairs_none
to_pairs d ts us (x ∷ []) (comma_last p) = g.pairs_last p
to_pairs d ts us (x ∷ []) (comma_last_comma p t) = g.pairs_last_comma p t
to_pairs d ts us (x ∷ y ∷ xs) (comma_more p t r) = g.pairs_more (λ h. cc) p t (to_pairs d _ us (y ∷ xs) r)

more_pairs : (d : ℕ) (ts us vs ws : List Lexeme) (n : tree.Named) (v : tree.OptionExpr) (rest : tree.Pairs) → rest ≢ tree.no_pairs → IsPair d ts us n v → TakesMark mark.Comma d us vs
    → (xs : List Pair) × (rest ≡ pairs_from xs) × CommaList (IsOnePair d) d vs ws xs → (xs : List Pair) × (tree.pair n v rest ≡ pairs_from xs) × CommaList (IsOnePair d) d ts ws xs
more_pairs d ts us vs ws n v rest h p t ([], e, r) = absurd (h e)
more_pairs d ts us vs ws n v rest h p t (y ∷ xs, e, r) = (record { key = n; value = v } ∷ y ∷ xs, ap (λ x. tree.pair n v x) e, comma_more p t r)

from_pairs : (d : ℕ) (ts us : List Lexeme) (ps : tree.Pairs) → IsPairs d ts us ps → (xs : List Pair) × (ps ≡ pairs_from xs) × CommaList (IsOnePair d) d ts us xs
from_pairs d ts us ps g.pairs_none = ([], refl, comma_none)
from_pairs d ts us ps (g.pairs_last {n = n} {v = v} p) = (record { key = n; value = v } ∷ [], refl, comma_last p)
from_pairs d ts us ps (g.pairs_last_comma {n = n} {v = v} p t) = (record { key = n; value = v } ∷ [], refl, comma_last_comma p t)
from_pairs d ts us ps (g.pairs_more {us = vs} {vs = ws} {n = n} {v = v} {ps = rest} h p t r) = more_pairs d ts vs ws us n v rest h p t (from_pairs d ws us rest r)

-- A record.
abbrev pub Recorded : ℕ → Phrase (ℕ × (List Pair × ℕ))
Recorded d = Then (At (TakesMark mark.OpenBrace d)) (Then (CommaList (IsOnePair d) d) (At (TakesMark mark.CloseBrace d)))

from_record : (d : ℕ) (ts us : List Lexeme) (e : tree.Expr) → BeginsWith (kind.Mark mark.OpenBrace) ts → IsPrim d ts us e → (b : ℕ × (List Pair × ℕ)) × (e ≡ tree.rec b.0 (pairs_from b.1.0)) × Recorded d ts us b
from_record d ts us e h (g.rec {at = at} {us = us'} {vs = vs} {ps = ps} p o is c) =
    let x = from_pairs d us' vs ps is in
    ((at, (x.0, place vs)), ap (λ y. tree.rec at y) x.1, record { between = us'; first = record { at_is = p; takes = o }; second = record { between = vs; first = x.2; second = record { at_is = refl; takes = c } } })
from_record d ts us e h p = let q : start.Record ≡ prim_start e = begun_with (kind.Mark mark.OpenBrace) h p in absurd (cc)

pub record_same : (d : ℕ) (old : List Token) → Same (Starting (kind.Mark mark.OpenBrace) (IsPrim d)) (Recorded d) (λ b. tree.rec b.0 (pairs_from b.1.0)) Anything old
record_same d old = record {
  to = λ ts us b t. (takes_with t.first.takes, g.rec t.first.at_is t.first.takes (to_pairs d t.between t.second.between b.1.0 t.second.first) t.second.second.takes);
  from = λ ts us e b p f. from_record d ts us e p.0 p.1;
}

-- new Error( .. )
abbrev pub NewError : ℕ → Phrase (ℕ × (ℕ × (ℕ × (tree.OptionExpr × ℕ))))
NewError d = Then (At (TakesKey key.New d)) (Then (At (TakesWord (codes "Error") d)) (Then (At (TakesMark mark.OpenParen d)) (Then (IsOptionExpr d) (At (TakesMark mark.CloseParen d)))))

from_new : (d : ℕ) (ts us : List Lexeme) (e : tree.Expr) → BeginsWith (kind.Keyword key.New) ts → IsPrim d ts us e → (b : ℕ × (ℕ × (ℕ × (tree.OptionExpr × ℕ)))) × (e ≡ tree.new_error b.0 b.1.1.1.0) × NewError d ts us b
from_new d ts us e h (g.new_error {at = at} {us = us'} {vs = vs} {ws = ws} {xs = xs} {m = m} p n w o v c) = (
  (at, (place us', (place vs, (m, place xs)))),
  refl,
  record {
    between = us';
    first = record { at_is = p; takes = n };
    second = record {
      between = vs;
      first = record { at_is = refl; takes = w };
      second =
          record { between = ws; first = record { at_is = refl; takes = o }; second = record { between = xs; first = v; second = record { at_is = refl; takes = c } } };
    };
  },
)
from_new d ts us e h p = let q : start.New ≡ prim_start e = begun_with (kind.Keyword key.New) h p in absurd (cc)

pub new_same : (d : ℕ) (old : List Token) → Same (Starting (kind.Keyword key.New) (IsPrim d)) (NewError d) (λ b. tree.new_error b.0 b.1.1.1.0) Anything old
new_same d old = record {
  to = λ ts us b t. (takes_with t.first.takes, g.new_error t.first.at_is t.first.takes t.second.first.takes t.second.second.first.takes t.second.second.second.first t.second.second.second.second.takes);
  from = λ ts us e b p f. from_new d ts us e p.0 p.1;
}
