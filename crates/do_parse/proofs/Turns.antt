-- What the proofs of the loops share.
use Rattle.std.proofs.Common.{◌≡◌, ◌≢◌, ◌≤◌, ◌+◌, ℕ, zero, suc, pos, ℤ, Bool, true, false, List, [], ◌∷◌, ◌++◌, ◌⊎◌, inl, inr, Option, Some, None, Result, Ok, Err, refl, sym, ◌∙◌, ap, subst, codes}
use Rattle.std.proofs.Math.Numerals.{add-one}
use Rattle.std.proofs.lemmas.Bool.{false≢true}
use Rattle.do_lex.specs.declared.kind.Kind.{Kind}
use Rattle.do_lex.specs.declared.kind.Kind.TheVariants as kind
use Rattle.do_lex.specs.declared.kind.Keyword.{Keyword}
use Rattle.do_lex.specs.declared.kind.Keyword.TheVariants as key
use Rattle.do_lex.specs.declared.kind.Mark.{Mark}
use Rattle.do_lex.specs.declared.kind.Mark.TheVariants as mark
use Rattle.do_lex.specs.declared.tokens.Token.{Token}
use Rattle.do_tree.specs.Grammar as g
use Rattle.do_tree.specs.Grammar.{Takes, TakesMark, TakesKey, TakesName, TakesWord, TakesAnyWord, TakesText, IsExpr, IsExprs, IsPairs, IsPair, IsOptionExpr, IsPrim, IsPost, IsUn, IsLinks, IsArgs, IsArg, IsOptionName, IsBlock, BeginsWithNo}
use Rattle.do_tree.specs.Lexeme.{Lexeme, place, text_of, number_of}
use Rattle.do_tree.specs.Tree as tree
use Rattle.do_parse.specs.declared.stop.Stop.{Stop}
use Rattle.do_parse.specs.declared.starts.ExprStart.{ExprStart}
use Rattle.do_parse.specs.declared.starts.ExprStart.TheVariants as start
use Rattle.do_parse.specs.Follow.{behind_expr, behind_element, behind_option, behind_un}
use Rattle.do_parse.specs.Lists.{BeginsWith, Starting, CommaList, Repeat, Link, field, index, call, with_link, links_from, IsLink, Arg, value, callback, with_arg, args_from, IsOneArg, IsOnePair, Pair, exprs_from, pairs_from}
use Rattle.do_parse.specs.Lists.Repeat.{stop as rep_stop, again}
use Rattle.do_parse.specs.Lists.CommaList.{none as comma_none, last as comma_last, last_comma as comma_last_comma, more as comma_more}
use Rattle.do_parse.specs.Parsed.{Phrase, Follow, Anything, ends_by, BeginAlike, CanBegin, Parses}
use Rattle.do_parse.specs.Pieces.{IsPairValue, IsOptionValue, no_value, some_value, IsKeyPair, IsCallbackHead, IsBlockAt, Blocked}
use Rattle.do_parse.specs.Starts.{kind_next, place_next, expr_start, begins_expr, expr_mark, expr_key, is_some_start}
use Rattle.do_parse.specs.Taken.{IsName, IsAnyName, IsTextName}
use Rattle.do_parse.specs.Then.{Then, Placed, At, with_tree}
use Rattle.do_parse.proofs.Sequence.{Stands, Behind, Same, SameHere, seq, stop, read_as, read_here}
use Rattle.do_parse.proofs.Facts.{BeginsBy, takes_begins, mark_begins, anything_begins, mark_stands, key_stands, last, before}
use Rattle.do_parse.proofs.FactsExpr.{expr_stands}
use Rattle.do_parse.proofs.First.{kind_first, first_is_next, place_is_next, takes_first, takes_with, first_with, expr_first}
use Rattle.do_parse.proofs.Lists.{nothing_there}
use Rattle.do_parse.proofs.Exprs.{up, down, read_same, not_with}
use Rattle.do_parse.proofs.Follows.{no_else_behind}
use Rattle.do_parse.proofs.Taking.{OneToken, held, held_is, takes_only, token_is}
use Rattle.do_value.specs.declared.operator.UnOp.{UnOp}
use Rattle.do_value.specs.declared.operator.UnOp.TheVariants as unary
use Rattle.do_parse.proofs.Exprs.{prim_stands, post_stands, un_stands}
use Rattle.do_parse.specs.Starts.{begins_link, link_mark}
use Rattle.do_parse.proofs.Lists.{NotBehind, NoneBegins, not_behind, behind_repeat, behind_comma}
use Rattle.do_parse.proofs.Lists as lists
use Rattle.do_parse.proofs.Chains.{not_may}
use Rattle.do_parse.proofs.Lists.{begins_with}
use Rattle.std.proofs.Common.{map}
use Rattle.std.proofs.lemmas.List.{map-append}
use Rattle.std.specs.Result.{IsErrAnd}
use Rattle.std.proofs.lemmas.Result.{err_from_is_err_and}
use Rattle.do_parse.specs.declared.stop.Stop.TheVariants.{Unexpected, NoMemory}
use Rattle.do_parse.specs.Follow.{of_mark, ends_element, ends_expr, ends_option}
use Rattle.do_parse.proofs.Deep.{lexeme, lexeme_takes}
use Rattle.do_parse.proofs.Exprs.{prim_stands}
use Rattle.do_parse.proofs.Follows.{wider, of_marks}
use Rattle.do_parse.proofs.Lists.{Grows, grows_first, with_same, with_two}
use Rattle.do_parse.proofs.Sequence.{wrong_here, narrow}
use Rattle.do_parse.proofs.Standing.{block_at_stands, behind_then, mark_with, word_stands, name_stands}
use Rattle.do_parse.proofs.Steps.{prim_value, value_first, is_value}
use Rattle.std.specs.Bool.{IsTrue}
use Rattle.std.proofs.lemmas.Option.{none-some}
use Rattle.do_tree.specs.Grammar.{IsOperandOf, IsStrict, IsRest, IsTighter, chain_mark}
use Rattle.do_tree.specs.declared.expr.Chain.{Chain}
use Rattle.do_tree.specs.declared.expr.Chain.TheVariants as chain
use Rattle.do_parse.specs.Follow.{behind_operand, behind_strict}
use Rattle.do_parse.specs.Lists.{IsNextOperand}
use Rattle.do_parse.proofs.Chains.{or_stop}
use Rattle.do_parse.proofs.Exprs.{rest_takes, operand_from_strict}
use Rattle.do_parse.proofs.Follows.{operand_behind}
use Rattle.do_parse.proofs.Lists.{CommaTail, behind_element as behind_one}
use Rattle.do_parse.proofs.Links.{link_first}

-- A test that holds, and one that doesn't.
pub next_yes : {P : Type 0} (b : Bool) → ((IsTrue b → P) × (P → IsTrue b)) → b ≡ true → P
next_yes b e h = e.0 h

pub next_no : {P : Type 0} (b : Bool) → ((IsTrue b → P) × (P → IsTrue b)) → b ≡ false → ¬ P
next_no b e h = λ p. false≢true (sym h ∙ e.1 p)

-- Another kind is next.
pub other_next : (k j : Kind) (now : List Token) → kind_next now ≡ Some k → k ≢ j → ¬ (kind_next now ≡ Some j)
other_next k j now h n e = n (kinds k j (sym h ∙ e))
  where
    kinds : (a b : Kind) → Some a ≡ Some b → a ≡ b
    kinds a b h = cc

pub comma_no_close : (m : Mark) → m ≢ mark.Comma → kind.Mark mark.Comma ≢ kind.Mark m
comma_no_close m n h = n (marks m h)
  where
    marks : (m : Mark) → kind.Mark mark.Comma ≡ kind.Mark m → m ≡ mark.Comma
    marks m h = cc

-- no phrase is empty
pub no_token : {k : Kind} {d at : ℕ} → At (Takes k d) [] [] at → ⊥
no_token {k} p = none-some k (takes_first p.takes)

pub no_next : {c : Chain} {d : ℕ} {e : tree.Expr} → IsNextOperand c d [] [] e → ⊥
no_next {c} p = none-some (kind.Mark (chain_mark c)) (rest_takes p)

pub no_link : {d : ℕ} (l : Link) → IsLink d [] [] l → ⊥
no_link {d} l p = false≢true (link_first [] [] l p)

pub no_expr : {d : ℕ} {e : tree.Expr} → IsExpr d [] [] e → ⊥
no_expr p = false≢true (expr_first p)

pub no_arg : {d : ℕ} (a : Arg) → IsOneArg d [] [] a → ⊥
no_arg (value e) (g.arg_value p) = false≢true (expr_first p)
no_arg (callback at n body) (g.arg_callback p a o m c w b) = none-some (kind.Keyword key.Async) (takes_first a)

pub no_pair : {d : ℕ} {n : tree.Named} {v : tree.OptionExpr} → IsPair d [] [] n v → ⊥
no_pair (g.pair_word w c e) = none-some w.token.kind (ap kind_first w.first)
no_pair (g.pair_text t c e) = none-some kind.Text (takes_first t.takes)
no_pair (g.pair_name t) = none-some kind.Word (takes_first t.takes)

-- no element begins with the mark that closes the list
pub end_exprs : (d : ℕ) (m : Mark) (now : List Token) → kind_next now ≡ Some (kind.Mark m) → begins_expr (Some (kind.Mark m)) ≡ false → NoneBegins (IsExpr d) now
end_exprs d m now h f = record { refuses = λ ts us e b p. false≢true (sym f ∙ ap begins_expr (sym (first_is_next now ts b ∙ h)) ∙ expr_first p) }

arg_close : (d : ℕ) (now : List Token) → kind_next now ≡ Some (kind.Mark mark.CloseParen) → (ts us : List Lexeme) (a : Arg) → BeginAlike now ts → IsOneArg d ts us a → ⊥
arg_close d now h ts us (value e) b (g.arg_value p) = (end_exprs (suc d) mark.CloseParen now h refl).refuses ts us e b p
arg_close d now h ts us (callback at n body) b (g.arg_callback p a o m c w bl) = let q : Path (Option Kind) (Some (kind.Keyword key.Async)) (Some (kind.Mark mark.CloseParen)) = sym (takes_first a) ∙ first_is_next now ts b ∙ h in cc

pub end_args : (d : ℕ) (now : List Token) → kind_next now ≡ Some (kind.Mark mark.CloseParen) → NoneBegins (IsOneArg d) now
end_args d now h = record { refuses = arg_close d now h }

pair_close : (d : ℕ) (now : List Token) → kind_next now ≡ Some (kind.Mark mark.CloseBrace) → (ts us : List Lexeme) (n : tree.Named) (v : tree.OptionExpr) → BeginAlike now ts → IsPair d ts us n v → ⊥
pair_close d now h ts us n v b (g.pair_word w c e) = word_close w.token.kind (ap kind_first w.first) w.kind_is
  where
    word_close : (k : Kind) → kind_first ts ≡ Some k → (k ≡ kind.Word) ⊎ ((x : Keyword) × (k ≡ kind.Keyword x)) → ⊥
    word_close k f (inl y) = let q : Path (Option Kind) (Some kind.Word) (Some (kind.Mark mark.CloseBrace)) = ap (λ z. Some z) (sym y) ∙ sym f ∙ first_is_next now ts b ∙ h in cc
    word_close k f (inr y) = let q : Path (Option Kind) (Some (kind.Keyword y.0)) (Some (kind.Mark mark.CloseBrace)) = ap (λ z. Some z) (sym y.1) ∙ sym f ∙ first_is_next now ts b ∙ h in cc
pair_close d now h ts us n v b (g.pair_text t c e) = let q : Path (Option Kind) (Some kind.Text) (Some (kind.Mark mark.CloseBrace)) = sym (takes_first t.takes) ∙ first_is_next now ts b ∙ h in cc
pair_close d now h ts us n v b (g.pair_name t) = let q : Path (Option Kind) (Some kind.Word) (Some (kind.Mark mark.CloseBrace)) = sym (takes_first t.takes) ∙ first_is_next now ts b ∙ h in cc

pub end_pairs : (d : ℕ) (now : List Token) → kind_next now ≡ Some (kind.Mark mark.CloseBrace) → NoneBegins (IsOnePair d) now
end_pairs d now h = record { refuses = λ ts us p b q. pair_close d now h ts us p.key p.value b q }

-- what stands behind an element
with_may : (may : Kind → Bool) (k : Kind) → may k ≡ true → (us : List Lexeme) → BeginsWith k us → ends_by may us
with_may may k h [] b = absurd b
with_may may k h (t ∷ us) b = ap may b ∙ h

close_no_else : (m : Mark) (us : List Lexeme) → BeginsWith (kind.Mark m) us → BeginsWithNo (kind.Keyword key.Else) us
close_no_else m [] b = tt
close_no_else m (t ∷ us) b = λ h. let q : Path Kind (kind.Mark m) (kind.Keyword key.Else) = sym b ∙ h in cc

pub behind_item : {A : Type 0} (P : Phrase A) (d : ℕ) (m : Mark) (may : Kind → Bool) → may (kind.Mark mark.Comma) ≡ true → may (kind.Mark m) ≡ true → Behind (ends_by may) (CommaTail P d) (BeginsWith (kind.Mark m))
behind_item P d m may comma close = behind_one P d may comma (with_may may (kind.Mark m) close) (close_no_else m)

pub behind_comma_item : {A : Type 0} (P : Phrase A) (d : ℕ) (m : Mark) → Behind Anything (CommaList P d) (BeginsWith (kind.Mark m))
behind_comma_item P d m = behind_comma P d (close_no_else m)

-- a list of nodes is there
pub list_on : {A N : Type 0} {Is : Phrase (List A)} {Ends : Follow} {old new : List Token} (seen : N → A) (xs ys : List N) (x : N) → ys ≡ xs ++ x ∷ [] → Parses Is Ends old new (Ok (map seen xs ++ seen x ∷ [])) → Parses Is Ends old new (Ok (map seen ys))
list_on {A} {N} {Is} {Ends} {old} {new} seen xs ys x h p = subst (λ zs. Parses Is Ends old new (Ok zs)) (sym (ap (map seen) h ∙ map-append seen xs (x ∷ []))) p

-- A value doesn't begin so.
pub not_value : (s : ExprStart) → (s ≡ start.Minus) ⊎ ((s ≡ start.Not) ⊎ ((s ≡ start.Await) ⊎ (s ≡ start.Nothing))) → is_value s ≡ false
not_value s (inl h) = ap is_value h
not_value s (inr (inl h)) = ap is_value h
not_value s (inr (inr (inl h))) = ap is_value h
not_value s (inr (inr (inr h))) = ap is_value h

pub some_starts : (s : ExprStart) → ¬ (s ≡ start.Nothing) → is_some_start s ≡ true
some_starts start.Nothing h = absurd (h refl)
some_starts s h = refl

-- An operand of && or ?? is one of the operators' expressions.
from_operand : (c : Chain) (d : ℕ) (ts us : List Lexeme) (e : tree.Expr) → (c ≡ chain.And) ⊎ (c ≡ chain.Coalesce) → IsOperandOf c d ts us e → (x : tree.Expr) × (e ≡ x) × IsStrict g.eq d ts us x
from_operand chain.And d ts us e h (g.of_and s) = (e, refl, s)
from_operand chain.Coalesce d ts us e h (g.of_coalesce s) = (e, refl, s)
from_operand chain.Or d ts us e (inl h) p = let q : chain.Or ≡ chain.And = h in absurd (cc)
from_operand chain.Or d ts us e (inr h) p = let q : chain.Or ≡ chain.Coalesce = h in absurd (cc)

pub operand_alone : {d : ℕ} {old new : List Token} {r : Result tree.Expr Stop} (c : Chain) → (c ≡ chain.And) ⊎ (c ≡ chain.Coalesce) → Parses (IsStrict g.eq d) (ends_by (behind_strict g.eq)) old new r → Parses (IsOperandOf c d) (ends_by (behind_operand c)) old new r
operand_alone {d} {old} {new} {r} c h p = read_same (record { to = λ ts us e q. operand_from_strict c q; from = λ ts us e b q f. from_operand c d ts us e h q }) (narrow (operand_behind c) p)

pub operand_stop : {d : ℕ} {old new : List Token} {s : Stop} (c : Chain) → Parses (IsStrict g.eq d) (ends_by (behind_strict g.eq)) old new (Err s) → Parses (IsOperandOf c d) (ends_by (behind_operand c)) old new (Err s)
operand_stop chain.Or p = or_stop p
operand_stop chain.And p = operand_alone chain.And (inl refl) p
operand_stop chain.Coalesce p = operand_alone chain.Coalesce (inr refl) p
