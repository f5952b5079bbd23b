-- The steps of a path, arguments and pairs, from their parts.
use Rattle.std.proofs.Common.{◌≡◌, ◌≢◌, ◌≤◌, ◌+◌, ℕ, zero, suc, pos, ℤ, Bool, true, false, List, [], ◌∷◌, ◌++◌, ◌⊎◌, inl, inr, Option, Some, None, Result, Ok, Err, refl, sym, ◌∙◌, ap, subst, codes}
use Rattle.std.proofs.Math.Numerals.{add-one}
use Rattle.std.proofs.lemmas.Bool.{false≢true}
use Rattle.do_lex.specs.declared.kind.Kind.{Kind}
use Rattle.do_lex.specs.declared.kind.Kind.TheVariants as kind
use Rattle.do_lex.specs.declared.kind.Keyword.{Keyword}
use Rattle.do_lex.specs.declared.kind.Keyword.TheVariants as key
use Rattle.do_lex.specs.declared.kind.Mark.{Mark}
use Rattle.do_lex.specs.declared.kind.Mark.TheVariants as mark
use Rattle.do_lex.specs.declared.tokens.Token.{Token}
use Rattle.do_tree.specs.Grammar as g
use Rattle.do_tree.specs.Grammar.{Takes, TakesMark, TakesKey, TakesName, TakesWord, TakesAnyWord, TakesText, IsExpr, IsExprs, IsPairs, IsPair, IsOptionExpr, IsPrim, IsPost, IsUn, IsLinks, IsArgs, IsArg, IsOptionName, IsBlock, BeginsWithNo}
use Rattle.do_tree.specs.Lexeme.{Lexeme, place, text_of, number_of}
use Rattle.do_tree.specs.Tree as tree
use Rattle.do_parse.specs.declared.stop.Stop.{Stop}
use Rattle.do_parse.specs.declared.starts.ExprStart.{ExprStart}
use Rattle.do_parse.specs.declared.starts.ExprStart.TheVariants as start
use Rattle.do_parse.specs.Follow.{behind_expr, behind_element, behind_option, behind_un}
use Rattle.do_parse.specs.Lists.{BeginsWith, Starting, CommaList, Repeat, Link, field, index, call, with_link, links_from, IsLink, Arg, value, callback, with_arg, args_from, IsOneArg, IsOnePair, Pair, exprs_from, pairs_from}
use Rattle.do_parse.specs.Lists.Repeat.{stop as rep_stop, again}
use Rattle.do_parse.specs.Lists.CommaList.{none as comma_none, last as comma_last, last_comma as comma_last_comma, more as comma_more}
use Rattle.do_parse.specs.Parsed.{Phrase, Follow, Anything, ends_by, BeginAlike, CanBegin, Parses}
use Rattle.do_parse.specs.Pieces.{IsPairValue, IsOptionValue, no_value, some_value, IsKeyPair, IsCallbackHead, IsBlockAt, Blocked}
use Rattle.do_parse.specs.Starts.{kind_next, place_next, expr_start, begins_expr, expr_mark, expr_key, is_some_start}
use Rattle.do_parse.specs.Taken.{IsName, IsAnyName, IsTextName}
use Rattle.do_parse.specs.Then.{Then, Placed, At, with_tree}
use Rattle.do_parse.proofs.Sequence.{Stands, Behind, Same, SameHere, seq, stop, read_as, read_here}
use Rattle.do_parse.proofs.Facts.{BeginsBy, takes_begins, mark_begins, anything_begins, mark_stands, key_stands, last, before}
use Rattle.do_parse.proofs.FactsExpr.{expr_stands}
use Rattle.do_parse.proofs.First.{kind_first, first_is_next, place_is_next, takes_first, takes_with, first_with, expr_first}
use Rattle.do_parse.proofs.Lists.{nothing_there}
use Rattle.do_parse.proofs.Exprs.{up, down, read_same, not_with}
use Rattle.do_parse.proofs.Follows.{no_else_behind}
use Rattle.do_parse.proofs.Taking.{OneToken, held, held_is, takes_only, token_is}
use Rattle.do_value.specs.declared.operator.UnOp.{UnOp}
use Rattle.do_value.specs.declared.operator.UnOp.TheVariants as unary
use Rattle.do_parse.proofs.Exprs.{prim_stands, post_stands, un_stands}
use Rattle.do_parse.specs.Starts.{begins_link, link_mark}
use Rattle.do_parse.proofs.Lists.{NotBehind, NoneBegins, not_behind, behind_repeat, behind_comma}
use Rattle.do_parse.proofs.Lists as lists
use Rattle.do_parse.proofs.Chains.{not_may}
use Rattle.do_parse.proofs.Deep.{lexeme}

-- With what each step of a path begins.
pub link_first : {d : ℕ} (ts us : List Lexeme) (l : Link) → IsLink d ts us l → begins_link (kind_first ts) ≡ true
link_first ts us (field n) (g.link_field t w r) = ap begins_link (takes_first t)
link_first ts us (index at e) (g.link_index p o i c r) = ap begins_link (takes_first o)
link_first ts us (call at as_) (g.link_call p o i c r) = ap begins_link (takes_first o)

link_kind : (k : Kind) → begins_link (Some k) ≡ true → behind_un k ≡ false
link_kind (kind.Mark mark.Dot) h = refl
link_kind (kind.Mark mark.OpenBracket) h = refl
link_kind (kind.Mark mark.OpenParen) h = refl
link_kind (kind.Mark m) h = absurd (false≢true h)
link_kind kind.Word h = absurd (false≢true h)
link_kind kind.Number h = absurd (false≢true h)
link_kind kind.Text h = absurd (false≢true h)
link_kind (kind.Keyword k) h = absurd (false≢true h)

more_by : (now : List Token) (k : Option Kind) → kind_next now ≡ k → begins_link k ≡ true → NotBehind (ends_by behind_un) now
more_by now None h b = absurd (false≢true b)
more_by now (Some k) h b = not_may behind_un k now h (link_kind k b)

pub more_links : (now : List Token) → begins_link (kind_next now) ≡ true → NotBehind (ends_by behind_un) now
more_links now b = more_by now (kind_next now) refl b

pub end_links : (d : ℕ) (now : List Token) → begins_link (kind_next now) ≡ false → NoneBegins (IsLink d) now
end_links d now h = record { refuses = λ ts us l b p. false≢true (sym h ∙ ap begins_link (sym (first_is_next now ts b)) ∙ link_first ts us l p) }

pub behind_link : (d : ℕ) → Behind Anything (Repeat (IsLink d)) (ends_by behind_un)
behind_link d = record {
  may = λ ts us xs p e. tt;
  stands = record { begun = record { rest = []; tree = []; is = λ us e. rep_stop }; no_else = no_else_behind behind_un refl };
}

-- the mark of a token
pub mark_of : {m n : Mark} {d : ℕ} {us : List Lexeme} (ts : List Lexeme) → BeginsWith (kind.Mark m) ts → Takes (kind.Mark n) d ts us → m ≡ n
mark_of {m} {n} ts b t = let q : Path (Option Kind) (Some (kind.Mark m)) (Some (kind.Mark n)) = sym (first_with (kind.Mark m) ts b) ∙ takes_first t in cc

-- .WORD
from_field : (d : ℕ) (ts us : List Lexeme) (l : Link) → BeginsWith (kind.Mark mark.Dot) ts → IsLink d ts us l → (b : ℕ × tree.Named) × (l ≡ field b.1) × Then (At (TakesMark mark.Dot d)) (IsAnyName d) ts us b
from_field d ts us (field n) h (g.link_field {us = ms} t w g.link_none) = ((place ts, n), refl, record { between = ms; first = record { at_is = refl; takes = t }; second = w })
from_field d ts us (index at e) h (g.link_index p o i c r) = let q : Path Mark mark.Dot mark.OpenBracket = mark_of ts h o in absurd (cc)
from_field d ts us (call at as_) h (g.link_call p o i c r) = let q : Path Mark mark.Dot mark.OpenParen = mark_of ts h o in absurd (cc)

pub field_same : (d : ℕ) (old : List Token) → Same (Starting (kind.Mark mark.Dot) (IsLink d)) (Then (At (TakesMark mark.Dot d)) (IsAnyName d)) (λ b. field b.1) Anything old
field_same d old = record {
  to = λ ts us b t. (takes_with t.first.takes, g.link_field t.first.takes t.second g.link_none);
  from = λ ts us l b p f. from_field d ts us l p.0 p.1;
}

-- [ EXPR ]
abbrev pub Index : ℕ → Phrase (ℕ × (tree.Expr × ℕ))
Index d = Then (At (TakesMark mark.OpenBracket d)) (Then (IsExpr (d + 1)) (At (TakesMark mark.CloseBracket d)))

from_index : (d : ℕ) (ts us : List Lexeme) (l : Link) → BeginsWith (kind.Mark mark.OpenBracket) ts → IsLink d ts us l → (b : ℕ × (tree.Expr × ℕ)) × (l ≡ index b.0 b.1.0) × Index d ts us b
from_index d ts us (field n) h (g.link_field t w r) = let q : Path Mark mark.OpenBracket mark.Dot = mark_of ts h t in absurd (cc)
from_index d ts us (index at e) h (g.link_index {us = ms} {vs = vs} p o i c g.link_none) =
    ((at, (e, place vs)), refl, record { between = ms; first = record { at_is = p; takes = o }; second = record { between = vs; first = down i; second = record { at_is = refl; takes = c } } })
from_index d ts us (call at as_) h (g.link_call p o i c r) = let q : Path Mark mark.OpenBracket mark.OpenParen = mark_of ts h o in absurd (cc)

pub index_same : (d : ℕ) (old : List Token) → Same (Starting (kind.Mark mark.OpenBracket) (IsLink d)) (Index d) (λ b. index b.0 b.1.0) Anything old
index_same d old = record {
  to = λ ts us b t. (takes_with t.first.takes, g.link_index t.first.at_is t.first.takes (up t.second.first) t.second.second.takes g.link_none);
  from = λ ts us l b p f. from_index d ts us l p.0 p.1;
}

-- the arguments of a call
with_rest : (d : ℕ) (ts us : List Lexeme) (a : Arg) (rest : tree.Args) → IsOneArg d ts us a → IsArg d ts us rest (with_arg a rest)
with_rest d ts us (value e) rest (g.arg_value p) = g.arg_value p
with_rest d ts us (callback at n body) rest (g.arg_callback p a o m c w b) = g.arg_callback p a o m c w b

alone_arg : (d : ℕ) (ts us : List Lexeme) (rest a : tree.Args) → IsArg d ts us rest a → (x : Arg) × (a ≡ with_arg x rest) × IsOneArg d ts us x
alone_arg d ts us rest a (g.arg_value {e = e} p) = (value e, refl, g.arg_value p)
alone_arg d ts us rest a (g.arg_callback {at = at} {n = n} {body = body} p a' o m c w b) = (callback at n body, refl, g.arg_callback p a' o m c w b)

some_args : (a : Arg) (rest : tree.Args) → with_arg a rest ≢ tree.no_args
some_args (value e) rest h = cc
some_args (callback at n body) rest h = cc

to_args : (d : ℕ) (ts us : List Lexeme) (xs : List Arg) → CommaList (IsOneArg d) d ts us xs → IsArgs d ts us (args_from xs)
to_args d ts us [] comma_none = g.args_none
to_args d ts us (x ∷ []) (comma_last p) = g.args_last p
to_args d ts us (x ∷ []) (comma_last_comma p t) = g.args_last_comma p t
to_args d ts us (x ∷ y ∷ xs) (comma_more {us = ms} {vs = vs} p t r) = g.args_more (some_args y (args_from xs)) (with_rest d ts ms x (args_from (y ∷ xs)) p) t (to_args d vs us (y ∷ xs) r)

more_args : (d : ℕ) (ts us vs ws : List Lexeme) (a rest : tree.Args) → rest ≢ tree.no_args → (x : Arg) × (a ≡ with_arg x rest) × IsOneArg d ts us x → TakesMark mark.Comma d us vs
    → (xs : List Arg) × (rest ≡ args_from xs) × CommaList (IsOneArg d) d vs ws xs → (xs : List Arg) × (a ≡ args_from xs) × CommaList (IsOneArg d) d ts ws xs
more_args d ts us vs ws a rest n x t ([], e, r) = absurd (n e)
more_args d ts us vs ws a rest n x t (y ∷ xs, e, r) = (x.0 ∷ y ∷ xs, x.1 ∙ ap (λ z. with_arg x.0 z) e, comma_more x.2 t r)

from_args : (d : ℕ) (ts us : List Lexeme) (a : tree.Args) → IsArgs d ts us a → (xs : List Arg) × (a ≡ args_from xs) × CommaList (IsOneArg d) d ts us xs
from_args d ts us a g.args_none = ([], refl, comma_none)
from_args d ts us a (g.args_last p) = let x = alone_arg d ts us tree.no_args a p in (x.0 ∷ [], x.1, comma_last x.2)
from_args d ts us a (g.args_last_comma {us = ms} p t) = let x = alone_arg d ts ms tree.no_args a p in (x.0 ∷ [], x.1, comma_last_comma x.2 t)
from_args d ts us a (g.args_more {us = vs} {vs = ws} {rest = rest} n p t r) = more_args d ts vs ws us a rest n (alone_arg d ts vs rest a p) t (from_args d ws us rest r)

-- ( ARGS )
abbrev pub Call : ℕ → Phrase (ℕ × (List Arg × ℕ))
Call d = Then (At (TakesMark mark.OpenParen d)) (Then (CommaList (IsOneArg d) d) (At (TakesMark mark.CloseParen d)))

from_call : (d : ℕ) (ts us : List Lexeme) (l : Link) → BeginsWith (kind.Mark mark.OpenParen) ts → IsLink d ts us l → (b : ℕ × (List Arg × ℕ)) × (l ≡ call b.0 (args_from b.1.0)) × Call d ts us b
from_call d ts us (field n) h (g.link_field t w r) = let q : Path Mark mark.OpenParen mark.Dot = mark_of ts h t in absurd (cc)
from_call d ts us (index at e) h (g.link_index p o i c r) = let q : Path Mark mark.OpenParen mark.OpenBracket = mark_of ts h o in absurd (cc)
from_call d ts us (call at as_) h (g.link_call {us = ms} {vs = vs} p o i c g.link_none) =
    let x = from_args d ms vs as_ i in
    ((at, (x.0, place vs)), ap (λ y. call at y) x.1, record { between = ms; first = record { at_is = p; takes = o }; second = record { between = vs; first = x.2; second = record { at_is = refl; takes = c } } })

pub call_same : (d : ℕ) (old : List Token) → Same (Starting (kind.Mark mark.OpenParen) (IsLink d)) (Call d) (λ b. call b.0 (args_from b.1.0)) Anything old
call_same d old = record {
  to = λ ts us b t. (takes_with t.first.takes, g.link_call t.first.at_is t.first.takes (to_args d t.between t.second.between b.1.0 t.second.first) t.second.second.takes g.link_none);
  from = λ ts us l b p f. from_call d ts us l p.0 p.1;
}

-- no [ and no ( is next: the step is .WORD
from_dot : (d : ℕ) (now : List Token) → ¬ (kind_next now ≡ Some (kind.Mark mark.OpenBracket)) → ¬ (kind_next now ≡ Some (kind.Mark mark.OpenParen)) → (ts us : List Lexeme) (l : Link) → BeginAlike now ts → IsLink d ts us l
    → (b : Link) × (l ≡ b) × Starting (kind.Mark mark.Dot) (IsLink d) ts us b
from_dot d now h k ts us (field n) b (g.link_field t w r) = (field n, refl, (takes_with t, g.link_field t w r))
from_dot d now h k ts us (index at e) b (g.link_index p o i c r) = absurd (not_with now ts _ h b o)
from_dot d now h k ts us (call at as_) b (g.link_call p o i c r) = absurd (not_with now ts _ k b o)

pub link_field : {d : ℕ} {old new : List Token} {r : Result Link Stop} → ¬ (kind_next old ≡ Some (kind.Mark mark.OpenBracket)) → ¬ (kind_next old ≡ Some (kind.Mark mark.OpenParen))
    → Parses (Starting (kind.Mark mark.Dot) (IsLink d)) Anything old new r → Parses (IsLink d) Anything old new r
link_field {d} {old} {new} {r} h k p = read_same (record { to = λ ts us l q. q.1; from = λ ts us l b q f. from_dot d old h k ts us l b q }) p

-- behind a dot
any_word_stands : (d : ℕ) {Ends : Follow} → Stands (IsAnyName d) Ends
any_word_stands d = record {
  begun = record { rest = lexeme kind.Word [] 0 d ∷ []; tree = record { at = 0; text = [] }; is = λ us e. record { token = lexeme kind.Word [] 0 d; first = refl; kind_is = inl refl; inside_is = refl; at_is = refl; text_is = refl } };
  no_else = λ us e h. let q : Path Kind kind.Word (kind.Keyword key.Else) = h in absurd (cc);
}

pub behind_word : (d : ℕ) → Behind Anything (IsAnyName d) Anything
behind_word d = last anything_begins (any_word_stands d)
