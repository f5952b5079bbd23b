-- Arguments, pairs and parts that may be missing, from their parts.
use Rattle.std.proofs.Common.{◌≡◌, ◌≢◌, ◌≤◌, ◌+◌, ℕ, zero, suc, pos, ℤ, Bool, true, false, List, [], ◌∷◌, ◌++◌, ◌⊎◌, inl, inr, Option, Some, None, Result, Ok, Err, refl, sym, ◌∙◌, ap, subst, codes}
use Rattle.std.proofs.Math.Numerals.{add-one}
use Rattle.std.proofs.lemmas.Bool.{false≢true}
use Rattle.do_lex.specs.declared.kind.Kind.{Kind}
use Rattle.do_lex.specs.declared.kind.Kind.TheVariants as kind
use Rattle.do_lex.specs.declared.kind.Keyword.{Keyword}
use Rattle.do_lex.specs.declared.kind.Keyword.TheVariants as key
use Rattle.do_lex.specs.declared.kind.Mark.{Mark}
use Rattle.do_lex.specs.declared.kind.Mark.TheVariants as mark
use Rattle.do_lex.specs.declared.tokens.Token.{Token}
use Rattle.do_tree.specs.Grammar as g
use Rattle.do_tree.specs.Grammar.{Takes, TakesMark, TakesKey, TakesName, TakesWord, TakesAnyWord, TakesText, IsExpr, IsExprs, IsPairs, IsPair, IsOptionExpr, IsPrim, IsPost, IsUn, IsLinks, IsArgs, IsArg, IsOptionName, IsBlock, BeginsWithNo}
use Rattle.do_tree.specs.Lexeme.{Lexeme, place, text_of, number_of}
use Rattle.do_tree.specs.Tree as tree
use Rattle.do_parse.specs.declared.stop.Stop.{Stop}
use Rattle.do_parse.specs.declared.starts.ExprStart.{ExprStart}
use Rattle.do_parse.specs.declared.starts.ExprStart.TheVariants as start
use Rattle.do_parse.specs.Follow.{behind_expr, behind_element, behind_option, behind_un}
use Rattle.do_parse.specs.Lists.{BeginsWith, Starting, CommaList, Repeat, Link, field, index, call, with_link, links_from, IsLink, Arg, value, callback, with_arg, args_from, IsOneArg, IsOnePair, Pair, exprs_from, pairs_from}
use Rattle.do_parse.specs.Lists.Repeat.{stop as rep_stop, again}
use Rattle.do_parse.specs.Lists.CommaList.{none as comma_none, last as comma_last, last_comma as comma_last_comma, more as comma_more}
use Rattle.do_parse.specs.Parsed.{Phrase, Follow, Anything, ends_by, BeginAlike, CanBegin, Parses}
use Rattle.do_parse.specs.Pieces.{IsPairValue, IsOptionValue, no_value, some_value, IsKeyPair, IsCallbackHead, IsBlockAt, Blocked}
use Rattle.do_parse.specs.Starts.{kind_next, place_next, expr_start, begins_expr, expr_mark, expr_key, is_some_start}
use Rattle.do_parse.specs.Taken.{IsName, IsAnyName, IsTextName}
use Rattle.do_parse.specs.Then.{Then, Placed, At, with_tree}
use Rattle.do_parse.proofs.Sequence.{Stands, Behind, Same, SameHere, seq, stop, read_as, read_here}
use Rattle.do_parse.proofs.Facts.{BeginsBy, takes_begins, mark_begins, anything_begins, mark_stands, key_stands, last, before}
use Rattle.do_parse.proofs.FactsExpr.{expr_stands}
use Rattle.do_parse.proofs.First.{kind_first, first_is_next, place_is_next, takes_first, takes_with, first_with, expr_first}
use Rattle.do_parse.proofs.Lists.{nothing_there}
use Rattle.do_parse.proofs.Exprs.{up, down, read_same, not_with}
use Rattle.do_parse.proofs.Follows.{no_else_behind}
use Rattle.do_parse.proofs.Taking.{OneToken, held, held_is, takes_only, token_is}
use Rattle.do_value.specs.declared.operator.UnOp.{UnOp}
use Rattle.do_value.specs.declared.operator.UnOp.TheVariants as unary
use Rattle.do_parse.proofs.Exprs.{prim_stands, post_stands, un_stands}
use Rattle.do_parse.specs.Starts.{begins_link, link_mark}
use Rattle.do_parse.proofs.Lists.{NotBehind, NoneBegins, not_behind, behind_repeat, behind_comma}
use Rattle.do_parse.proofs.Lists as lists
use Rattle.do_parse.proofs.Chains.{not_may}
use Rattle.do_parse.proofs.Lists.{begins_with}

-- what begins like the next token begins with its kind or not
pub first_next : {k : Kind} (now : List Token) (ts us : List Lexeme) {d : ℕ} → BeginAlike now ts → Takes k d ts us → kind_next now ≡ Some k
first_next now ts us b t = sym (first_is_next now ts b) ∙ takes_first t

-- An argument that is no callback.
from_value : (d : ℕ) (now : List Token) → ¬ (kind_next now ≡ Some (kind.Keyword key.Async)) → (ts us : List Lexeme) (a : Arg) → BeginAlike now ts → IsOneArg d ts us a → (b : tree.Expr) × (a ≡ value b) × IsExpr (d + 1) ts us b
from_value d now h ts us (value e) b (g.arg_value p) = (e, refl, down p)
from_value d now h ts us (callback at n body) b (g.arg_callback p a o m c w bl) = absurd (not_with now ts _ h b a)

pub value_same : (d : ℕ) {Ends : Follow} (now : List Token) → ¬ (kind_next now ≡ Some (kind.Keyword key.Async)) → Same (IsOneArg d) (IsExpr (d + 1)) (λ e. value e) Ends now
value_same d now h = record { to = λ ts us e p. g.arg_value (up p); from = λ ts us a b p f. from_value d now h ts us a b p }

-- async ( NAME ) => BLOCK
abbrev pub Callback : ℕ → Phrase ((ℕ × Option tree.Named) × Blocked)
Callback d = Then (Placed (IsCallbackHead d)) (IsBlockAt d)

async_begins : (d : ℕ) (ts us : List Lexeme) (e : tree.Expr) → BeginsWith (kind.Keyword key.Async) ts → IsExpr (suc d) ts us e → ⊥
async_begins d ts us e h p = false≢true (sym (ap begins_expr (first_with (kind.Keyword key.Async) ts h)) ∙ expr_first p)

from_callback : (d : ℕ) (ts us : List Lexeme) (a : Arg) → BeginsWith (kind.Keyword key.Async) ts → IsOneArg d ts us a → (b : (ℕ × Option tree.Named) × Blocked) × (a ≡ callback b.0.0 b.0.1 b.1.items) × Callback d ts us b
from_callback d ts us (value e) h (g.arg_value p) = absurd (async_begins d ts us e h p)
from_callback d ts us (callback at n body) h (g.arg_callback {us = vs} {vs = ws} {ws = xs} {xs = ys} {ys = zs} p a o m c w bl) = (
  ((at, n), record { at = place zs; items = body }),
  refl,
  record {
    between = zs;
    first = record { at_is = p; phrase = record { vs = vs; ws = ws; xs = xs; ys = ys; async = a; open_paren = o; name = m; close_paren = c; arrow = w } };
    second = record { at_is = refl; block_is = bl };
  },
)

pub callback_same : (d : ℕ) (old : List Token) → Same (Starting (kind.Keyword key.Async) (IsOneArg d)) (Callback d) (λ b. callback b.0.0 b.0.1 b.1.items) Anything old
callback_same d old = record {
  to = λ ts us b t. let h = t.first.phrase in (takes_with h.async, g.arg_callback t.first.at_is h.async h.open_paren h.name h.close_paren h.arrow t.second.block_is);
  from = λ ts us a b p f. from_callback d ts us a p.0 p.1;
}

-- its first tokens
abbrev pub Head : ℕ → Phrase (ℕ × (ℕ × (Option tree.Named × (ℕ × ℕ))))
Head d = Then (At (TakesKey key.Async d)) (Then (At (TakesMark mark.OpenParen d)) (Then (IsOptionName d) (Then (At (TakesMark mark.CloseParen d)) (At (TakesMark mark.Arrow d)))))

pub head_same : (d : ℕ) (old : List Token) → Same (Placed (IsCallbackHead d)) (Head d) (λ b. (b.0, b.1.1.0)) Anything old
head_same d old = record {
  to = λ ts us b t. record {
    at_is = t.first.at_is;
    phrase = record {
      vs = t.between;
      ws = t.second.between;
      xs = t.second.second.between;
      ys = t.second.second.second.between;
      async = t.first.takes;
      open_paren = t.second.first.takes;
      name = t.second.second.first;
      close_paren = t.second.second.second.first.takes;
      arrow = t.second.second.second.second.takes;
    };
  };
  from = λ ts us a b p f. let h = p.phrase in (
    (a.0, (place h.vs, (a.1, (place h.xs, place h.ys)))),
    refl,
    record {
      between = h.vs;
      first = record { at_is = p.at_is; takes = h.async };
      second =
          record {
            between = h.ws;
            first = record { at_is = refl; takes = h.open_paren };
            second = record {
              between = h.xs;
              first = h.name;
              second =
                  record { between = h.ys; first = record { at_is = refl; takes = h.close_paren }; second = record { at_is = refl; takes = h.arrow } };
            };
          };
    },
  );
}

-- A name, where a word is next.
from_named : (d : ℕ) (now : List Token) → kind_next now ≡ Some kind.Word → (ts us : List Lexeme) (n : Option tree.Named) → BeginAlike now ts → IsOptionName d ts us n → BeginsWith (kind.Mark mark.CloseParen) us
    → (b : tree.Named) × (n ≡ Some b) × IsName d ts us b
from_named d now h [] us n b g.option_name_none f = absurd f
from_named d now h (t ∷ ts) us n b g.option_name_none f = let q : Path Kind kind.Word (kind.Mark mark.CloseParen) = sym (begins_with now kind.Word (t ∷ ts) h b) ∙ f in absurd (cc)
from_named d now h ts us n b (g.option_name_name {n = m} t) f = (m, refl, t)

pub named_same : (d : ℕ) (now : List Token) → kind_next now ≡ Some kind.Word → Same (IsOptionName d) (IsName d) (λ n. Some n) (BeginsWith (kind.Mark mark.CloseParen)) now
named_same d now h = record { to = λ ts us n t. g.option_name_name t; from = λ ts us n b p f. from_named d now h ts us n b p f }

no_name : (d : ℕ) (now : List Token) → ¬ (kind_next now ≡ Some kind.Word) → (ts us : List Lexeme) (n : Option tree.Named) → BeginAlike now ts → IsOptionName d ts us n → (ts ≡ us) × (n ≡ None)
no_name d now h ts us n b g.option_name_none = (refl, refl)
no_name d now h ts us n b (g.option_name_name t) = absurd (not_with now ts us h b t.takes)

pub name_missing : (d : ℕ) (now : List Token) → ¬ (kind_next now ≡ Some kind.Word) → Parses (IsOptionName d) (BeginsWith (kind.Mark mark.CloseParen)) now now (Ok None)
name_missing d now h = nothing_there None (λ us e l. g.option_name_none) (λ ts us n b p f. no_name d now h ts us n b p)

-- : VALUE
pub pair_value_same : (d : ℕ) {Ends : Follow} (old : List Token) → Same (IsPairValue d) (Then (At (TakesMark mark.Colon d)) (IsExpr (d + 1))) (λ b. b.1) Ends old
pair_value_same d old = record {
  to = λ ts us b t. record { vs = t.between; colon = t.first.takes; value = t.second };
  from = λ ts us e b p f. ((place ts, e), refl, record { between = p.vs; first = record { at_is = refl; takes = p.colon }; second = p.value });
}

-- The value of a pair, where a colon is next.
from_some_value : (d : ℕ) (now : List Token) → kind_next now ≡ Some (kind.Mark mark.Colon) → (ts us : List Lexeme) (v : tree.OptionExpr) → BeginAlike now ts → IsOptionValue d ts us v → ends_by (behind_element mark.CloseBrace) us
    → (b : tree.Expr) × (v ≡ tree.some_expr b) × IsPairValue d ts us b
from_some_value d now h [] us v b no_value f = absurd (begins_with now (kind.Mark mark.Colon) [] h b)
from_some_value d now h (t ∷ ts) us v b no_value f = absurd (false≢true (sym (ap (behind_element mark.CloseBrace) (begins_with now (kind.Mark mark.Colon) (t ∷ ts) h b)) ∙ f))
from_some_value d now h ts us v b (some_value {e = e} p) f = (e, refl, p)

pub some_value_same : (d : ℕ) (now : List Token) → kind_next now ≡ Some (kind.Mark mark.Colon) → Same (IsOptionValue d) (IsPairValue d) (λ e. tree.some_expr e) (ends_by (behind_element mark.CloseBrace)) now
some_value_same d now h = record { to = λ ts us e p. some_value p; from = λ ts us v b p f. from_some_value d now h ts us v b p f }

value_none : (d : ℕ) (now : List Token) → ¬ (kind_next now ≡ Some (kind.Mark mark.Colon)) → (ts us : List Lexeme) (v : tree.OptionExpr) → BeginAlike now ts → IsOptionValue d ts us v → (ts ≡ us) × (v ≡ tree.no_expr)
value_none d now h ts us v b no_value = (refl, refl)
value_none d now h ts us v b (some_value p) = absurd (not_with now ts p.vs h b p.colon)

pub value_missing : (d : ℕ) (now : List Token) → ¬ (kind_next now ≡ Some (kind.Mark mark.Colon)) → Parses (IsOptionValue d) (ends_by (behind_element mark.CloseBrace)) now now (Ok tree.no_expr)
value_missing d now h = nothing_there tree.no_expr (λ us e l. no_value) (λ ts us v b p f. value_none d now h ts us v b p)

-- An expression that may be missing.
from_some_expr : (d : ℕ) (now : List Token) → begins_expr (kind_next now) ≡ true → (ts us : List Lexeme) (v : tree.OptionExpr) → BeginAlike now ts → IsOptionExpr d ts us v → ends_by behind_option us
    → (b : tree.Expr) × (v ≡ tree.some_expr b) × IsExpr (d + 1) ts us b
from_some_expr d now h ts us v b g.option_expr_none f = absurd (ends_no ts (ap begins_expr (first_is_next now ts b) ∙ h) f)
  where
    option_kind : (k : Kind) → begins_expr (Some k) ≡ true → behind_option k ≡ true → ⊥
    option_kind (kind.Mark mark.Semicolon) h f = false≢true h
    option_kind (kind.Mark mark.CloseParen) h f = false≢true h
    option_kind (kind.Mark m) h f = false≢true f
    option_kind kind.Word h f = false≢true f
    option_kind kind.Number h f = false≢true f
    option_kind kind.Text h f = false≢true f
    option_kind (kind.Keyword k) h f = false≢true f

    ends_no : (xs : List Lexeme) → begins_expr (kind_first xs) ≡ true → ends_by behind_option xs → ⊥
    ends_no [] h f = false≢true h
    ends_no (x ∷ xs) h f = option_kind x.kind h f
from_some_expr d now h ts us v b (g.option_expr_some {e = e} p) f = (e, refl, down p)

pub some_expr_same : (d : ℕ) (now : List Token) → begins_expr (kind_next now) ≡ true → Same (IsOptionExpr d) (IsExpr (d + 1)) (λ e. tree.some_expr e) (ends_by behind_option) now
some_expr_same d now h = record { to = λ ts us e p. g.option_expr_some (up p); from = λ ts us v b p f. from_some_expr d now h ts us v b p f }

expr_none : (d : ℕ) (now : List Token) → begins_expr (kind_next now) ≡ false → (ts us : List Lexeme) (v : tree.OptionExpr) → BeginAlike now ts → IsOptionExpr d ts us v → (ts ≡ us) × (v ≡ tree.no_expr)
expr_none d now h ts us v b g.option_expr_none = (refl, refl)
expr_none d now h ts us v b (g.option_expr_some p) = absurd (false≢true (sym (ap begins_expr (first_is_next now ts b) ∙ h) ∙ expr_first p))

pub expr_missing : (d : ℕ) (now : List Token) → begins_expr (kind_next now) ≡ false → Parses (IsOptionExpr d) (ends_by behind_option) now now (Ok tree.no_expr)
expr_missing d now h = nothing_there tree.no_expr (λ us e l. g.option_expr_none) (λ ts us v b p f. expr_none d now h ts us v b p)

-- Pairs: by a text, by a word and its value, by a name that may be all.
abbrev pub TextPair : ℕ → Phrase (tree.Named × tree.Expr)
TextPair d = Then (IsTextName d) (IsPairValue d)

abbrev pub pair_tree : tree.Named × tree.Expr → Pair
pair_tree b = record { key = b.0; value = tree.some_expr b.1 }

from_text_pair : (d : ℕ) (ts us : List Lexeme) (n : tree.Named) (v : tree.OptionExpr) → BeginsWith kind.Text ts → IsPair d ts us n v → (b : tree.Named × tree.Expr) × Path Pair (record { key = n; value = v }) (pair_tree b) × TextPair d ts us b
from_text_pair d ts us n v h (g.pair_word w c e) = absurd (word_no_text ts w.token (ap kind_first w.first) (first_with kind.Text ts h) w.kind_is)
  where
    word_no_text : (xs : List Lexeme) (t : Lexeme) → kind_first xs ≡ Some t.kind → kind_first xs ≡ Some kind.Text → (t.kind ≡ kind.Word) ⊎ ((k : Keyword) × (t.kind ≡ kind.Keyword k)) → ⊥
    word_no_text xs t a b (inl w) = let q : Path (Option Kind) (Some kind.Text) (Some kind.Word) = sym b ∙ a ∙ ap (λ k. Some k) w in cc
    word_no_text xs t a b (inr w) = let q : Path (Option Kind) (Some kind.Text) (Some (kind.Keyword w.0)) = sym b ∙ a ∙ ap (λ k. Some k) w.1 in cc
from_text_pair d ts us n v h (g.pair_text {us = ms} {vs = vs} {e = e} t c p) = ((n, e), refl, record { between = ms; first = t; second = record { vs = vs; colon = c; value = down p } })
from_text_pair d ts us n v h (g.pair_name t) = let q : Path (Option Kind) (Some kind.Text) (Some kind.Word) = sym (first_with kind.Text ts h) ∙ takes_first t.takes in absurd (cc)

pub text_pair_same : (d : ℕ) {Ends : Follow} (old : List Token) → Same (Starting kind.Text (IsOnePair d)) (TextPair d) pair_tree Ends old
text_pair_same d old = record {
  to = λ ts us b t. (takes_with t.first.takes, g.pair_text t.first t.second.colon (up t.second.value));
  from = λ ts us p b q f. from_text_pair d ts us p.key p.value q.0 q.1;
}

-- a name with its value, or alone
abbrev pub NamePair : ℕ → Phrase (tree.Named × tree.OptionExpr)
NamePair d = Then (IsName d) (IsOptionValue d)

named_pair : tree.Named × tree.OptionExpr → Pair
named_pair b = record { key = b.0; value = b.1 }

word_is_name : (d : ℕ) (ts us : List Lexeme) (n : tree.Named) → BeginsWith kind.Word ts → TakesAnyWord n d ts us → IsName d ts us n
word_is_name d ts us n h w = record { takes = record { token = w.token; first = w.first; kind_is = is_word_kind; inside_is = w.inside_is }; at_is = w.at_is; text_is = w.text_is }
  where
    is_word_kind : w.token.kind ≡ kind.Word
    is_word_kind = let q : Path (Option Kind) (Some w.token.kind) (Some kind.Word) = sym (ap kind_first w.first) ∙ first_with kind.Word ts h in cc

from_name_pair : (d : ℕ) (ts us : List Lexeme) (n : tree.Named) (v : tree.OptionExpr) → BeginsWith kind.Word ts → IsPair d ts us n v → (b : tree.Named × tree.OptionExpr) × Path Pair (record { key = n; value = v }) (record { key = b.0; value = b.1 }) × NamePair d ts us b
from_name_pair d ts us n v h (g.pair_word {us = ms} {vs = vs} {e = e} w c p) = ((n, tree.some_expr e), refl, record { between = ms; first = word_is_name d ts ms n h w; second = some_value (record { vs = vs; colon = c; value = down p }) })
from_name_pair d ts us n v h (g.pair_text t c p) = let q : Path (Option Kind) (Some kind.Word) (Some kind.Text) = sym (first_with kind.Word ts h) ∙ takes_first t.takes in absurd (cc)
from_name_pair d ts us n v h (g.pair_name t) = ((n, tree.no_expr), refl, record { between = us; first = t; second = no_value })

name_is_word : (d : ℕ) (ts us : List Lexeme) (n : tree.Named) → IsName d ts us n → TakesAnyWord n d ts us
name_is_word d ts us n t = record { token = t.takes.token; first = t.takes.first; kind_is = inl t.takes.kind_is; inside_is = t.takes.inside_is; at_is = t.at_is; text_is = t.text_is }

to_name_pair : (d : ℕ) (ts ms us : List Lexeme) (n : tree.Named) (v : tree.OptionExpr) → IsName d ts ms n → IsOptionValue d ms us v → IsPair d ts us n v
to_name_pair d ts ms us n v t no_value = g.pair_name t
to_name_pair d ts ms us n v t (some_value p) = g.pair_word (name_is_word d ts ms n t) p.colon (up p.value)

pub name_pair_same : (d : ℕ) {Ends : Follow} (old : List Token) → Same (Starting kind.Word (IsOnePair d)) (NamePair d) (λ b. record { key = b.0; value = b.1 }) Ends old
name_pair_same d old = record {
  to = λ ts us b t. (takes_with t.first.takes, to_name_pair d ts t.between us b.0 b.1 t.first t.second);
  from = λ ts us p b q f. from_name_pair d ts us p.key p.value q.0 q.1;
}

-- any word with its value
abbrev pub WordPair : ℕ → Phrase (tree.Named × tree.Expr)
WordPair d = Then (IsAnyName d) (IsPairValue d)

pub key_pair_same : (d : ℕ) {Ends : Follow} (old : List Token) → Same (IsKeyPair d) (WordPair d) pair_tree Ends old
key_pair_same d old = record {
  to = λ ts us b t. record { vs = t.between; e = b.1; word = t.first; value = t.second; value_is = refl };
  from = λ ts us p b q f. ((p.key, q.e), ap (λ v. record { key = p.key; value = v }) q.value_is, record { between = q.vs; first = q.word; second = q.value });
}

-- A pair that begins with no text and no name.
from_key_pair : (d : ℕ) (now : List Token) → ¬ (kind_next now ≡ Some kind.Text) → ¬ (kind_next now ≡ Some kind.Word) → (ts us : List Lexeme) (n : tree.Named) (v : tree.OptionExpr) → BeginAlike now ts → IsPair d ts us n v → IsKeyPair d ts us (record { key = n; value = v })
from_key_pair d now h k ts us n v b (g.pair_word {us = ms} {vs = vs} {e = e} w c p) = record { vs = ms; e = e; word = w; value = record { vs = vs; colon = c; value = down p }; value_is = refl }
from_key_pair d now h k ts us n v b (g.pair_text t c p) = absurd (not_with now ts _ h b t.takes)
from_key_pair d now h k ts us n v b (g.pair_name t) = absurd (not_with now ts us k b t.takes)

to_key_pair : (d : ℕ) (ts us : List Lexeme) (p : Pair) → IsKeyPair d ts us p → IsOnePair d ts us p
to_key_pair d ts us p q = subst (λ v. IsPair d ts us p.key v) (sym q.value_is) (g.pair_word q.word q.value.colon (up q.value.value))

pub other_pair : {d : ℕ} {Ends : Follow} {old new : List Token} {r : Result Pair Stop} → ¬ (kind_next old ≡ Some kind.Text) → ¬ (kind_next old ≡ Some kind.Word)
    → Parses (IsKeyPair d) Ends old new r → Parses (IsOnePair d) Ends old new r
other_pair {d} {Ends} {old} {new} {r} h k p = read_same (record { to = to_key_pair d; from = λ ts us p b q f. (p, refl, from_key_pair d old h k ts us p.key p.value b q) }) p
