-- Operators before a value, and the steps of a path.
use Rattle.std.proofs.Common.{◌≡◌, ◌≢◌, ◌≤◌, ◌+◌, ℕ, zero, suc, pos, ℤ, Bool, true, false, List, [], ◌∷◌, ◌++◌, ◌⊎◌, inl, inr, Option, Some, None, Result, Ok, Err, refl, sym, ◌∙◌, ap, subst, codes}
use Rattle.std.proofs.Math.Numerals.{add-one}
use Rattle.std.proofs.lemmas.Bool.{false≢true}
use Rattle.do_lex.specs.declared.kind.Kind.{Kind}
use Rattle.do_lex.specs.declared.kind.Kind.TheVariants as kind
use Rattle.do_lex.specs.declared.kind.Keyword.{Keyword}
use Rattle.do_lex.specs.declared.kind.Keyword.TheVariants as key
use Rattle.do_lex.specs.declared.kind.Mark.{Mark}
use Rattle.do_lex.specs.declared.kind.Mark.TheVariants as mark
use Rattle.do_lex.specs.declared.tokens.Token.{Token}
use Rattle.do_tree.specs.Grammar as g
use Rattle.do_tree.specs.Grammar.{Takes, TakesMark, TakesKey, TakesName, TakesWord, TakesAnyWord, TakesText, IsExpr, IsExprs, IsPairs, IsPair, IsOptionExpr, IsPrim, IsPost, IsUn, IsLinks, IsArgs, IsArg, IsOptionName, IsBlock, BeginsWithNo}
use Rattle.do_tree.specs.Lexeme.{Lexeme, place, text_of, number_of}
use Rattle.do_tree.specs.Tree as tree
use Rattle.do_parse.specs.declared.stop.Stop.{Stop}
use Rattle.do_parse.specs.declared.starts.ExprStart.{ExprStart}
use Rattle.do_parse.specs.declared.starts.ExprStart.TheVariants as start
use Rattle.do_parse.specs.Follow.{behind_expr, behind_element, behind_option, behind_un}
use Rattle.do_parse.specs.Lists.{BeginsWith, Starting, CommaList, Repeat, Link, field, index, call, with_link, links_from, IsLink, Arg, value, callback, with_arg, args_from, IsOneArg, IsOnePair, Pair, exprs_from, pairs_from}
use Rattle.do_parse.specs.Lists.Repeat.{stop as rep_stop, again}
use Rattle.do_parse.specs.Lists.CommaList.{none as comma_none, last as comma_last, last_comma as comma_last_comma, more as comma_more}
use Rattle.do_parse.specs.Parsed.{Phrase, Follow, Anything, ends_by, BeginAlike, CanBegin, Parses}
use Rattle.do_parse.specs.Pieces.{IsPairValue, IsOptionValue, no_value, some_value, IsKeyPair, IsCallbackHead, IsBlockAt, Blocked}
use Rattle.do_parse.specs.Starts.{kind_next, place_next, expr_start, begins_expr, expr_mark, expr_key, is_some_start}
use Rattle.do_parse.specs.Taken.{IsName, IsAnyName, IsTextName}
use Rattle.do_parse.specs.Then.{Then, Placed, At, with_tree}
use Rattle.do_parse.proofs.Sequence.{Stands, Behind, Same, SameHere, seq, stop, read_as, read_here}
use Rattle.do_parse.proofs.Facts.{BeginsBy, takes_begins, mark_begins, anything_begins, mark_stands, key_stands, last, before}
use Rattle.do_parse.proofs.FactsExpr.{expr_stands}
use Rattle.do_parse.proofs.First.{kind_first, first_is_next, place_is_next, takes_first, takes_with, first_with, expr_first}
use Rattle.do_parse.proofs.Lists.{nothing_there}
use Rattle.do_parse.proofs.Exprs.{up, down, read_same, not_with}
use Rattle.do_parse.proofs.Follows.{no_else_behind}
use Rattle.do_parse.proofs.Taking.{OneToken, held, held_is, takes_only, token_is}
use Rattle.do_value.specs.declared.operator.UnOp.{UnOp}
use Rattle.do_value.specs.declared.operator.UnOp.TheVariants as unary
use Rattle.do_parse.proofs.Exprs.{prim_stands, post_stands, un_stands}

-- A value begins so, without operators.
abbrev pub is_value : ExprStart → Bool
is_value start.Minus = false
is_value start.Not = false
is_value start.Await = false
is_value start.Nothing = false
is_value _ = true

abbrev pub value_first : Option Kind → Bool
value_first k = is_value (expr_start k)

pub prim_value : {d : ℕ} {ts us : List Lexeme} {e : tree.Expr} → IsPrim d ts us e → value_first (kind_first ts) ≡ true
prim_value (g.number p t n) = ap value_first (takes_first t)
prim_value (g.text t) = ap value_first (takes_first t.takes)
prim_value (g.yes p t) = ap value_first (takes_first t)
prim_value (g.no p t) = ap value_first (takes_first t)
prim_value (g.null p t) = ap value_first (takes_first t)
prim_value (g.undefined p t) = ap value_first (takes_first t)
prim_value (g.this p t) = ap value_first (takes_first t)
prim_value (g.variable t) = ap value_first (takes_first t.takes)
prim_value (g.group p t e c) = ap value_first (takes_first t)
prim_value (g.list p t e c) = ap value_first (takes_first t)
prim_value (g.rec p t e c) = ap value_first (takes_first t)
prim_value (g.new_error p t w o m c) = ap value_first (takes_first t)

pub post_value : {d : ℕ} {ts us : List Lexeme} {e : tree.Expr} → IsPost d ts us e → value_first (kind_first ts) ≡ true
post_value (g.prim p) = prim_value p
post_value (g.path at some p l) = prim_value p

-- a token of another kind
pub other_kind : {k j : Kind} {d : ℕ} (ts us : List Lexeme) (test : Kind → ExprStart) → BeginsWith k ts → Takes j d ts us → test k ≡ test j
other_kind {k} {j} ts us test b t = ap test (some_same k j (sym (first_with k ts b) ∙ takes_first t))
  where
    some_same : (a b : Kind) → Some a ≡ Some b → a ≡ b
    some_same a b h = cc

abbrev start_at : Kind → ExprStart
start_at k = expr_start (Some k)

pub un_up : {d : ℕ} {ts us : List Lexeme} {e : tree.Expr} → IsUn (d + 1) ts us e → IsUn (suc d) ts us e
un_up {d} {ts} {us} {e} p = subst (λ k. IsUn k ts us e) (add-one d) p

pub un_down : {d : ℕ} {ts us : List Lexeme} {e : tree.Expr} → IsUn (suc d) ts us e → IsUn (d + 1) ts us e
un_down {d} {ts} {us} {e} p = subst (λ k. IsUn k ts us e) (sym (add-one d)) p

from_negative : (d : ℕ) (ts us : List Lexeme) (e : tree.Expr) → BeginsWith (kind.Mark mark.Minus) ts → IsUn d ts us e → (b : ℕ × tree.Expr) × (e ≡ tree.unary b.0 unary.Neg b.1) × Then (At (TakesMark mark.Minus d)) (IsUn (d + 1)) ts us b
from_negative d ts us e h (g.negative {at = at} {us = ms} {e = inside} p t u) = ((at, inside), refl, record { between = ms; first = record { at_is = p; takes = t }; second = un_down u })
from_negative d ts us e h (g.opposite p t u) = let q : start.Minus ≡ start.Not = other_kind ts _ start_at h t in absurd (cc)
from_negative d ts us e h (g.await p t u) = let q : start.Minus ≡ start.Await = other_kind ts _ start_at h t in absurd (cc)
from_negative d ts us e h (g.post p) = absurd (false≢true (sym (ap value_first (first_with (kind.Mark mark.Minus) ts h)) ∙ post_value p))

pub negative_same : (d : ℕ) (old : List Token) → Same (Starting (kind.Mark mark.Minus) (IsUn d)) (Then (At (TakesMark mark.Minus d)) (IsUn (d + 1))) (λ b. tree.unary b.0 unary.Neg b.1) (ends_by behind_un) old
negative_same d old = record {
  to = λ ts us b t. (takes_with t.first.takes, g.negative t.first.at_is t.first.takes (un_up t.second));
  from = λ ts us e b p f. from_negative d ts us e p.0 p.1;
}

from_opposite : (d : ℕ) (ts us : List Lexeme) (e : tree.Expr) → BeginsWith (kind.Mark mark.Not) ts → IsUn d ts us e → (b : ℕ × tree.Expr) × (e ≡ tree.unary b.0 unary.Not b.1) × Then (At (TakesMark mark.Not d)) (IsUn (d + 1)) ts us b
from_opposite d ts us e h (g.negative p t u) = let q : start.Not ≡ start.Minus = other_kind ts _ start_at h t in absurd (cc)
from_opposite d ts us e h (g.opposite {at = at} {us = ms} {e = inside} p t u) = ((at, inside), refl, record { between = ms; first = record { at_is = p; takes = t }; second = un_down u })
from_opposite d ts us e h (g.await p t u) = let q : start.Not ≡ start.Await = other_kind ts _ start_at h t in absurd (cc)
from_opposite d ts us e h (g.post p) = absurd (false≢true (sym (ap value_first (first_with (kind.Mark mark.Not) ts h)) ∙ post_value p))

pub opposite_same : (d : ℕ) (old : List Token) → Same (Starting (kind.Mark mark.Not) (IsUn d)) (Then (At (TakesMark mark.Not d)) (IsUn (d + 1))) (λ b. tree.unary b.0 unary.Not b.1) (ends_by behind_un) old
opposite_same d old = record {
  to = λ ts us b t. (takes_with t.first.takes, g.opposite t.first.at_is t.first.takes (un_up t.second));
  from = λ ts us e b p f. from_opposite d ts us e p.0 p.1;
}

from_await : (d : ℕ) (ts us : List Lexeme) (e : tree.Expr) → BeginsWith (kind.Keyword key.Await) ts → IsUn d ts us e → (b : ℕ × tree.Expr) × (e ≡ tree.await b.0 b.1) × Then (At (TakesKey key.Await d)) (IsUn (d + 1)) ts us b
from_await d ts us e h (g.negative p t u) = let q : start.Await ≡ start.Minus = other_kind ts _ start_at h t in absurd (cc)
from_await d ts us e h (g.opposite p t u) = let q : start.Await ≡ start.Not = other_kind ts _ start_at h t in absurd (cc)
from_await d ts us e h (g.await {at = at} {us = ms} {e = inside} p t u) = ((at, inside), refl, record { between = ms; first = record { at_is = p; takes = t }; second = un_down u })
from_await d ts us e h (g.post p) = absurd (false≢true (sym (ap value_first (first_with (kind.Keyword key.Await) ts h)) ∙ post_value p))

pub await_same : (d : ℕ) (old : List Token) → Same (Starting (kind.Keyword key.Await) (IsUn d)) (Then (At (TakesKey key.Await d)) (IsUn (d + 1))) (λ b. tree.await b.0 b.1) (ends_by behind_un) old
await_same d old = record {
  to = λ ts us b t. (takes_with t.first.takes, g.await t.first.at_is t.first.takes (un_up t.second));
  from = λ ts us e b p f. from_await d ts us e p.0 p.1;
}

pub behind_prefix : (d : ℕ) → Behind Anything (IsUn (d + 1)) (ends_by behind_un)
behind_prefix d = last anything_begins (un_stands (d + 1))

-- No operator is next: the phrase is a value with its path.
pub record NoPrefix (now : Option Kind) : Type 0 where
  pub minus : ¬ (expr_start now ≡ start.Minus)
  pub not_is : ¬ (expr_start now ≡ start.Not)
  pub await_is : ¬ (expr_start now ≡ start.Await)

started_by : {k : Kind} {d : ℕ} (now : List Token) (ts us : List Lexeme) → BeginAlike now ts → Takes k d ts us → expr_start (kind_next now) ≡ expr_start (Some k)
started_by now ts us b t = ap expr_start (sym (first_is_next now ts b) ∙ takes_first t)

from_post : (d : ℕ) (now : List Token) → NoPrefix (kind_next now) → (ts us : List Lexeme) (e : tree.Expr) → BeginAlike now ts → IsUn d ts us e → (b : tree.Expr) × (e ≡ b) × IsPost d ts us b
from_post d now h ts us e b (g.negative p t u) = absurd (h.minus (started_by now ts _ b t))
from_post d now h ts us e b (g.opposite p t u) = absurd (h.not_is (started_by now ts _ b t))
from_post d now h ts us e b (g.await p t u) = absurd (h.await_is (started_by now ts _ b t))
from_post d now h ts us e b (g.post p) = (e, refl, p)

pub un_post : {d : ℕ} {old new : List Token} {r : Result tree.Expr Stop} → NoPrefix (kind_next old) → Parses (IsPost d) (ends_by behind_un) old new r → Parses (IsUn d) (ends_by behind_un) old new r
un_post {d} {old} {new} {r} h p = read_same (record { to = λ ts us e q. g.post q; from = λ ts us e b q f. from_post d old h ts us e b q }) p

-- the steps of a path as a list, and back
no_links_end : {d : ℕ} {ts us : List Lexeme} → IsLinks d ts us tree.no_links → us ≡ ts
no_links_end g.link_none = refl

abbrev move : (d : ℕ) (ts us vs : List Lexeme) (ls : tree.Links) → ts ≡ us → IsLinks d ts vs ls → IsLinks d us vs ls
move d ts us vs ls h p = subst (λ x. IsLinks d x vs ls) h p

add_link : (d : ℕ) (ts ms us : List Lexeme) (l : Link) (ls : tree.Links) → IsLink d ts ms l → IsLinks d ms us ls → IsLinks d ts us (with_link l ls)
add_link d ts ms us (field n) ls (g.link_field t w r) q = g.link_field t w (move d ms _ us ls (no_links_end r) q)
add_link d ts ms us (index at e) ls (g.link_index p o i c r) q = g.link_index p o i c (move d ms _ us ls (no_links_end r) q)
add_link d ts ms us (call at as_) ls (g.link_call p o i c r) q = g.link_call p o i c (move d ms _ us ls (no_links_end r) q)

to_links : (d : ℕ) (ts us : List Lexeme) (ls : List Link) → Repeat (IsLink d) ts us ls → IsLinks d ts us (links_from ls)
to_links d ts us [] rep_stop = g.link_none
to_links d ts us (l ∷ ls) (again {us = ms} p r) = add_link d ts ms us l (links_from ls) p (to_links d ms us ls r)

from_links : (d : ℕ) (ts us : List Lexeme) (ls : tree.Links) → IsLinks d ts us ls → (xs : List Link) × (ls ≡ links_from xs) × Repeat (IsLink d) ts us xs
from_links d ts us ls g.link_none = ([], refl, rep_stop)
from_links d ts us ls (g.link_field {vs = ms} {n = n} t w r) = let x = from_links d ms us _ r in (field n ∷ x.0, ap (λ y. tree.field n y) x.1, again (g.link_field t w g.link_none) x.2)
from_links d ts us ls (g.link_index {at = at} {ws = ms} {e = e} p o i c r) = let x = from_links d ms us _ r in (index at e ∷ x.0, ap (λ y. tree.index at e y) x.1, again (g.link_index p o i c g.link_none) x.2)
from_links d ts us ls (g.link_call {at = at} {ws = ms} {a = a} p o i c r) = let x = from_links d ms us _ r in (call at a ∷ x.0, ap (λ y. tree.call at a y) x.1, again (g.link_call p o i c g.link_none) x.2)

-- A value with its path.
abbrev pub path_tree : ℕ → tree.Expr × List Link → tree.Expr
path_tree at (base, []) = base
path_tree at (base, l ∷ ls) = tree.path at base (links_from (l ∷ ls))

some_link : (l : Link) (ls : tree.Links) → with_link l ls ≢ tree.no_links
some_link (field n) ls h = cc
some_link (index at e) ls h = cc
some_link (call at as_) ls h = cc

to_post : (d at : ℕ) (ts ms us : List Lexeme) (base : tree.Expr) (ls : List Link) → at ≡ place ts → IsPrim d ts ms base → Repeat (IsLink d) ms us ls → IsPost d ts us (path_tree at (base, ls))
to_post d at ts ms us base [] h p rep_stop = g.prim p
to_post d at ts ms us base (l ∷ ls) h p r = g.path h (some_link l (links_from ls)) p (to_links d ms us (l ∷ ls) r)

path_of : (d at place_is : ℕ) (base : tree.Expr) (ls : tree.Links) (ms us : List Lexeme) → ls ≢ tree.no_links → at ≡ place_is → (xs : List Link) × (ls ≡ links_from xs) × Repeat (IsLink d) ms us xs
    → (xs : List Link) × (tree.path at base ls ≡ path_tree place_is (base, xs)) × Repeat (IsLink d) ms us xs
path_of d at place_is base ls ms us n h ([], e, r) = absurd (n e)
path_of d at place_is base ls ms us n h (x ∷ xs, e, r) = (x ∷ xs, ap (λ a. tree.path a base ls) h ∙ ap (λ y. tree.path place_is base y) e, r)

from_whole : (d : ℕ) (old : List Token) (ts us : List Lexeme) (e : tree.Expr) → BeginAlike old ts → IsPost d ts us e → (b : tree.Expr × List Link) × (e ≡ path_tree (place_next old) b) × Then (IsPrim d) (Repeat (IsLink d)) ts us b
from_whole d old ts us e b (g.prim p) = ((e, []), refl, record { between = us; first = p; second = rep_stop })
from_whole d old ts us e b (g.path {at = at} {us = ms} {e = base} {ls = ls} h n p l) =
    let x = path_of d at (place_next old) base ls ms us n (h ∙ place_is_next old ts b) (from_links d ms us ls l) in
    ((base, x.0), x.1, record { between = ms; first = p; second = x.2 })

no_post : (d : ℕ) (b : tree.Expr × List Link) → Then (IsPrim d) (Repeat (IsLink d)) [] [] b → ⊥
no_post d b p = false≢true (prim_value p.first)

pub post_here : (d : ℕ) (old : List Token) → SameHere (IsPost d) (Then (IsPrim d) (Repeat (IsLink d))) (path_tree (place_next old)) (ends_by behind_un) old
post_here d old = record {
  to = λ ts us b a t. to_post d (place_next old) ts t.between us b.0 b.1 (sym (place_is_next old ts a)) t.first t.second;
  from = λ ts us e a p f. from_whole d old ts us e a p;
  can = (post_stands d).begun;
  end_may = tt;
  some = λ b p. no_post d b p;
}

pub behind_value : (d : ℕ) → Behind Anything (Repeat (IsLink d)) (ends_by behind_un)
behind_value d = record {
  may = λ ts us xs p e. tt;
  stands = record { begun = record { rest = []; tree = []; is = λ us e. rep_stop }; no_else = no_else_behind behind_un refl };
}

pub path_tree_some : (at : ℕ) (base : tree.Expr) (ls : List Link) → ls ≢ [] → path_tree at (base, ls) ≡ tree.path at base (links_from ls)
path_tree_some at base [] h = absurd (h refl)
path_tree_some at base (l ∷ ls) h = refl
