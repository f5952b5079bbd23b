-- What the proofs of the functions share.
use Rattle.std.proofs.Common.{◌≡◌, ◌≢◌, ◌≤◌, ◌+◌, ℕ, zero, suc, pos, ℤ, Bool, true, false, List, [], ◌∷◌, ◌++◌, ◌⊎◌, inl, inr, Option, Some, None, Result, Ok, Err, refl, sym, ◌∙◌, ap, subst, codes}
use Rattle.std.proofs.Math.Numerals.{add-one}
use Rattle.std.proofs.lemmas.Bool.{false≢true}
use Rattle.do_lex.specs.declared.kind.Kind.{Kind}
use Rattle.do_lex.specs.declared.kind.Kind.TheVariants as kind
use Rattle.do_lex.specs.declared.kind.Keyword.{Keyword}
use Rattle.do_lex.specs.declared.kind.Keyword.TheVariants as key
use Rattle.do_lex.specs.declared.kind.Mark.{Mark}
use Rattle.do_lex.specs.declared.kind.Mark.TheVariants as mark
use Rattle.do_lex.specs.declared.tokens.Token.{Token}
use Rattle.do_tree.specs.Grammar as g
use Rattle.do_tree.specs.Grammar.{Takes, TakesMark, TakesKey, TakesName, TakesWord, TakesAnyWord, TakesText, IsExpr, IsExprs, IsPairs, IsPair, IsOptionExpr, IsPrim, IsPost, IsUn, IsLinks, IsArgs, IsArg, IsOptionName, IsBlock, BeginsWithNo}
use Rattle.do_tree.specs.Lexeme.{Lexeme, place, text_of, number_of}
use Rattle.do_tree.specs.Tree as tree
use Rattle.do_parse.specs.declared.stop.Stop.{Stop}
use Rattle.do_parse.specs.declared.starts.ExprStart.{ExprStart}
use Rattle.do_parse.specs.declared.starts.ExprStart.TheVariants as start
use Rattle.do_parse.specs.Follow.{behind_expr, behind_element, behind_option, behind_un}
use Rattle.do_parse.specs.Lists.{BeginsWith, Starting, CommaList, Repeat, Link, field, index, call, with_link, links_from, IsLink, Arg, value, callback, with_arg, args_from, IsOneArg, IsOnePair, Pair, exprs_from, pairs_from}
use Rattle.do_parse.specs.Lists.Repeat.{stop as rep_stop, again}
use Rattle.do_parse.specs.Lists.CommaList.{none as comma_none, last as comma_last, last_comma as comma_last_comma, more as comma_more}
use Rattle.do_parse.specs.Parsed.{Phrase, Follow, Anything, ends_by, BeginAlike, CanBegin, Parses}
use Rattle.do_parse.specs.Pieces.{IsPairValue, IsOptionValue, no_value, some_value, IsKeyPair, IsCallbackHead, IsBlockAt, Blocked}
use Rattle.do_parse.specs.Starts.{kind_next, place_next, expr_start, begins_expr, expr_mark, expr_key, is_some_start}
use Rattle.do_parse.specs.Taken.{IsName, IsAnyName, IsTextName}
use Rattle.do_parse.specs.Then.{Then, Placed, At, with_tree}
use Rattle.do_parse.proofs.Sequence.{Stands, Behind, Same, SameHere, seq, stop, read_as, read_here}
use Rattle.do_parse.proofs.Facts.{BeginsBy, takes_begins, mark_begins, anything_begins, mark_stands, key_stands, last, before}
use Rattle.do_parse.proofs.FactsExpr.{expr_stands}
use Rattle.do_parse.proofs.First.{kind_first, first_is_next, place_is_next, takes_first, takes_with, first_with, expr_first}
use Rattle.do_parse.proofs.Lists.{nothing_there}
use Rattle.do_parse.proofs.Exprs.{up, down, read_same, not_with}
use Rattle.do_parse.proofs.Follows.{no_else_behind}
use Rattle.do_parse.proofs.Taking.{OneToken, held, held_is, takes_only, token_is}
use Rattle.do_value.specs.declared.operator.UnOp.{UnOp}
use Rattle.do_value.specs.declared.operator.UnOp.TheVariants as unary
use Rattle.do_parse.proofs.Exprs.{prim_stands, post_stands, un_stands}
use Rattle.do_parse.specs.Starts.{begins_link, link_mark}
use Rattle.do_parse.proofs.Lists.{NotBehind, NoneBegins, not_behind, behind_repeat, behind_comma}
use Rattle.do_parse.proofs.Lists as lists
use Rattle.do_parse.proofs.Chains.{not_may}
use Rattle.do_parse.proofs.Lists.{begins_with}
use Rattle.std.proofs.Common.{map}
use Rattle.std.proofs.lemmas.List.{map-append}
use Rattle.std.specs.Result.{IsErrAnd}
use Rattle.std.proofs.lemmas.Result.{err_from_is_err_and}
use Rattle.do_parse.specs.declared.stop.Stop.TheVariants.{Unexpected, NoMemory}
use Rattle.do_parse.specs.Follow.{of_mark, ends_element, ends_expr, ends_option}
use Rattle.do_parse.proofs.Deep.{lexeme, lexeme_takes}
use Rattle.do_parse.proofs.Exprs.{prim_stands}
use Rattle.do_parse.proofs.Follows.{wider, of_marks}
use Rattle.do_parse.proofs.Lists.{Grows, grows_first, with_same, with_two}
use Rattle.do_parse.proofs.Sequence.{wrong_here, narrow}
use Rattle.do_parse.proofs.Standing.{block_at_stands, behind_then, mark_with, word_stands, name_stands}
use Rattle.do_parse.proofs.Steps.{prim_value, value_first, is_value}

-- An error is handed on.
pub handed : {A : Type 0} {Is : Phrase A} {Ends : Follow} {old new : List Token} {s : Stop} (r : Result A Stop) → IsErrAnd r (λ y. y ≡ s) → Parses Is Ends old new (Err s) → Parses Is Ends old new r
handed {A} {Is} {Ends} {old} {new} {s} r is p = let e = err_from_is_err_and r is in subst (λ x. Parses Is Ends old new x) (sym (e.1 ∙ ap (λ y. Err y) e.2)) p

-- No memory was left.
pub no_memory : {A N : Type 0} {Is : Phrase A} {Ends : Follow} {old new : List Token} (tree : N → A) (r : Result N Stop) → IsErrAnd r (λ y. y ≡ NoMemory) → Parses Is Ends old new (with_tree tree r)
no_memory {A} {N} {Is} {Ends} {old} {new} tree r is =
    let e = err_from_is_err_and r is in
    subst (λ x. Parses Is Ends old new (with_tree tree x)) (sym (e.1 ∙ ap (λ y. Err y) e.2)) (record { so = tt })

-- The answer of the second part alone.
pub second : {A B : Type 0} {Is : Phrase B} {Ends : Follow} {old new : List Token} (a : A) {r : Result B Stop} → Parses Is Ends old new (with_tree (λ (b : A × B). b.1) (with_tree (λ (b : B). (a, b)) r)) → Parses Is Ends old new r
second {A} {B} {Is} {Ends} {old} {new} a {r} p = subst (λ x. Parses Is Ends old new x) (with_two (λ (b : A × B). b.1) (λ (b : B). (a, b)) (λ b. b) (λ b. refl) r ∙ with_same (λ b. b) (λ b. refl) r) p

-- A list of nodes with one more.
pub grows_on : {A N : Type 0} {Whole L : Phrase (List A)} {E : Follow} {start now : List Token} (seen : N → A) (xs ys : List N) (x : N) → ys ≡ xs ++ x ∷ [] → Grows Whole L E start now (map seen xs ++ seen x ∷ []) → Grows Whole L E start now (map seen ys)
grows_on {A} {N} {Whole} {L} {E} {start} {now} seen xs ys x h g = subst (λ zs. Grows Whole L E start now zs) (sym (ap (map seen) h ∙ map-append seen xs (x ∷ []))) g

-- A list of nodes begins.
pub grows_none : {A N : Type 0} {L : Phrase (List A)} {E : Follow} (start : List Token) (seen : N → A) (xs : List N) → xs ≡ [] → Grows L L E start start (map seen xs)
grows_none {A} {N} {L} {E} start seen xs h = subst (λ zs. Grows L L E start start (map seen zs)) (sym h) (grows_first start)

-- The kind with which an expression begins so.
abbrev pub kind_of_start : ExprStart → Option Kind
kind_of_start start.Minus = Some (kind.Mark mark.Minus)
kind_of_start start.Not = Some (kind.Mark mark.Not)
kind_of_start start.Await = Some (kind.Keyword key.Await)
kind_of_start start.Number = Some kind.Number
kind_of_start start.Text = Some kind.Text
kind_of_start start.True = Some (kind.Keyword key.True)
kind_of_start start.False = Some (kind.Keyword key.False)
kind_of_start start.Null = Some (kind.Keyword key.Null)
kind_of_start start.Undefined = Some (kind.Keyword key.Undefined)
kind_of_start start.This = Some (kind.Keyword key.This)
kind_of_start start.Name = Some kind.Word
kind_of_start start.Group = Some (kind.Mark mark.OpenParen)
kind_of_start start.List = Some (kind.Mark mark.OpenBracket)
kind_of_start start.Record = Some (kind.Mark mark.OpenBrace)
kind_of_start start.New = Some (kind.Keyword key.New)
kind_of_start start.Nothing = None

start_kind : (k : Option Kind) → is_some_start (expr_start k) ≡ true → k ≡ kind_of_start (expr_start k)
start_kind None h = refl
start_kind (Some kind.Word) h = refl
start_kind (Some kind.Number) h = refl
start_kind (Some kind.Text) h = refl
start_kind (Some (kind.Mark mark.Minus)) h = refl
start_kind (Some (kind.Mark mark.Not)) h = refl
start_kind (Some (kind.Mark mark.OpenParen)) h = refl
start_kind (Some (kind.Mark mark.OpenBracket)) h = refl
start_kind (Some (kind.Mark mark.OpenBrace)) h = refl
start_kind (Some (kind.Mark m)) h = absurd (false≢true h)
start_kind (Some (kind.Keyword key.Await)) h = refl
start_kind (Some (kind.Keyword key.True)) h = refl
start_kind (Some (kind.Keyword key.False)) h = refl
start_kind (Some (kind.Keyword key.Null)) h = refl
start_kind (Some (kind.Keyword key.Undefined)) h = refl
start_kind (Some (kind.Keyword key.This)) h = refl
start_kind (Some (kind.Keyword key.New)) h = refl
start_kind (Some (kind.Keyword k)) h = absurd (false≢true h)

pub starts_with : (k : Option Kind) (s : ExprStart) → expr_start k ≡ s → is_some_start s ≡ true → k ≡ kind_of_start s
starts_with k s h t = start_kind k (ap is_some_start h ∙ t) ∙ ap kind_of_start h

-- No value begins with the next token.
pub no_value_here : (d : ℕ) (now : List Token) → value_first (kind_next now) ≡ false → Parses (IsPrim d) Anything now now (Err Unexpected)
no_value_here d now h = wrong_here (prim_stands d {Ends = Anything}).begun (λ ts us e b p f. false≢true (sym h ∙ ap value_first (sym (first_is_next now ts b)) ∙ prim_value p))

-- narrower follows
element_marks : (m : Mark) → ends_element mark.CloseBrace m ≡ true → ends_expr m ≡ true
element_marks mark.Comma h = refl
element_marks mark.CloseBrace h = refl
element_marks m h = absurd (false≢true h)

argument_marks : (m : Mark) → ends_element mark.CloseParen m ≡ true → ends_expr m ≡ true
argument_marks mark.Comma h = refl
argument_marks mark.CloseParen h = refl
argument_marks m h = absurd (false≢true h)

option_marks : (m : Mark) → ends_option m ≡ true → ends_expr m ≡ true
option_marks mark.Semicolon h = refl
option_marks mark.CloseParen h = refl
option_marks m h = absurd (false≢true h)

pub element_behind : (us : List Lexeme) → ends_by (behind_element mark.CloseBrace) us → ends_by behind_expr us
element_behind us = wider (behind_element mark.CloseBrace) behind_expr (of_marks (ends_element mark.CloseBrace) ends_expr element_marks) us

pub argument_behind : (us : List Lexeme) → ends_by (behind_element mark.CloseParen) us → ends_by behind_expr us
argument_behind us = wider (behind_element mark.CloseParen) behind_expr (of_marks (ends_element mark.CloseParen) ends_expr argument_marks) us

pub option_behind : (us : List Lexeme) → ends_by behind_option us → ends_by behind_expr us
option_behind us = wider behind_option behind_expr (of_marks ends_option ends_expr option_marks) us

-- What stands behind what, one part behind another.
pub behind_open : (m : Mark) (d : ℕ) → behind_expr (kind.Mark m) ≡ true → Behind Anything (Then (IsExpr (d + 1)) (At (TakesMark m d))) Anything
behind_open m d h = before anything_begins (expr_stands (d + 1)) (behind_then m d h)

mark_no_else : (m : Mark) (us : List Lexeme) → BeginsWith (kind.Mark m) us → BeginsWithNo (kind.Keyword key.Else) us
mark_no_else m [] b = tt
mark_no_else m (t ∷ us) b = λ h. let q : Path Kind (kind.Mark m) (kind.Keyword key.Else) = sym b ∙ h in cc

pub comma_list_stands : {A : Type 0} (P : Phrase A) (d : ℕ) (m : Mark) → Stands (CommaList P d) (BeginsWith (kind.Mark m))
comma_list_stands P d m = record { begun = record { rest = []; tree = []; is = λ us e. comma_none }; no_else = mark_no_else m }

pub behind_list : (m : Mark) (d : ℕ) → Behind (BeginsWith (kind.Mark m)) (At (TakesMark m d)) Anything
behind_list m d = last mark_with (mark_stands m d)

pub behind_opened : {A : Type 0} (P : Phrase A) (m : Mark) (d : ℕ) → Behind Anything (Then (CommaList P d) (At (TakesMark m d))) Anything
behind_opened P m d = before anything_begins (comma_list_stands P d m) (behind_list m d)

-- new Error( .. )
option_may : (d : ℕ) (ts us : List Lexeme) (at : ℕ) → At (TakesMark mark.CloseParen d) ts us at → ends_by behind_option ts
option_may d ts us at p = takes_begins behind_option refl p.takes

pub behind_message : (d : ℕ) → Behind (ends_by behind_option) (At (TakesMark mark.CloseParen d)) Anything
behind_message d = last (record { may = option_may d }) (mark_stands mark.CloseParen d)

option_expr_stands : (d : ℕ) → Stands (IsOptionExpr d) (ends_by behind_option)
option_expr_stands d = record { begun = record { rest = []; tree = tree.no_expr; is = λ us e. g.option_expr_none }; no_else = no_else_behind behind_option refl }

pub behind_error_open : (d : ℕ) → Behind Anything (Then (IsOptionExpr d) (At (TakesMark mark.CloseParen d))) Anything
behind_error_open d = before anything_begins (option_expr_stands d) (behind_message d)

pub behind_error_word : (d : ℕ) → Behind Anything (Then (At (TakesMark mark.OpenParen d)) (Then (IsOptionExpr d) (At (TakesMark mark.CloseParen d)))) Anything
behind_error_word d = before anything_begins (mark_stands mark.OpenParen d) (behind_error_open d)

pub behind_new : (d : ℕ) → Behind Anything (Then (At (TakesWord (codes "Error") d)) (Then (At (TakesMark mark.OpenParen d)) (Then (IsOptionExpr d) (At (TakesMark mark.CloseParen d))))) Anything
behind_new d = before anything_begins (word_stands (codes "Error") d) (behind_error_word d)

-- async ( NAME ) => BLOCK
pub behind_head : (d : ℕ) → Behind Anything (IsBlockAt d) Anything
behind_head d = last anything_begins (block_at_stands d)

pub behind_close : (d : ℕ) → Behind Anything (At (TakesMark mark.Arrow d)) Anything
behind_close d = last anything_begins (mark_stands mark.Arrow d)

pub behind_parameter : (d : ℕ) → Behind (BeginsWith (kind.Mark mark.CloseParen)) (Then (At (TakesMark mark.CloseParen d)) (At (TakesMark mark.Arrow d))) Anything
behind_parameter d = before mark_with (mark_stands mark.CloseParen d) (behind_close d)

option_name_stands : (d : ℕ) → Stands (IsOptionName d) (BeginsWith (kind.Mark mark.CloseParen))
option_name_stands d = record { begun = record { rest = []; tree = None; is = λ us e. g.option_name_none }; no_else = mark_no_else mark.CloseParen }

pub behind_head_open : (d : ℕ) → Behind Anything (Then (IsOptionName d) (Then (At (TakesMark mark.CloseParen d)) (At (TakesMark mark.Arrow d)))) Anything
behind_head_open d = before anything_begins (option_name_stands d) (behind_parameter d)

pub behind_async : (d : ℕ) → Behind Anything (Then (At (TakesMark mark.OpenParen d)) (Then (IsOptionName d) (Then (At (TakesMark mark.CloseParen d)) (At (TakesMark mark.Arrow d))))) Anything
behind_async d = before anything_begins (mark_stands mark.OpenParen d) (behind_head_open d)

-- the value of a pair
colon_no_else : (d : ℕ) (us : List Lexeme) → BeginsWithNo (kind.Keyword key.Else) (lexeme (kind.Mark mark.Colon) [] 0 d ∷ us)
colon_no_else d us h = let q : Path Kind (kind.Mark mark.Colon) (kind.Keyword key.Else) = h in cc

pub behind_value_colon : (d : ℕ) {Ends : Follow} → Behind Anything (IsExpr (d + 1)) Ends
behind_value_colon d = last anything_begins (expr_stands (d + 1))

pair_value_stands : (d : ℕ) {Ends : Follow} → Stands (IsPairValue d) Ends
pair_value_stands d {Ends} = record {
  begun = record {
    rest = lexeme (kind.Mark mark.Colon) [] 0 d ∷ (expr_stands (d + 1) {Ends = Ends}).begun.rest;
    tree = (expr_stands (d + 1) {Ends = Ends}).begun.tree;
    is = λ us e. record { vs = (expr_stands (d + 1) {Ends = Ends}).begun.rest ++ us; colon = lexeme_takes (kind.Mark mark.Colon) [] 0 d _; value = (expr_stands (d + 1) {Ends = Ends}).begun.is us e };
  };
  no_else = λ us e. colon_no_else d ((expr_stands (d + 1) {Ends = Ends}).begun.rest ++ us);
}

pub behind_key : (d : ℕ) {Ends : Follow} → Behind Anything (IsPairValue d) Ends
behind_key d = last anything_begins (pair_value_stands d)

option_value_stands : (d : ℕ) → Stands (IsOptionValue d) (ends_by (behind_element mark.CloseBrace))
option_value_stands d = record { begun = record { rest = []; tree = tree.no_expr; is = λ us e. no_value }; no_else = no_else_behind (behind_element mark.CloseBrace) refl }

pub behind_name : (d : ℕ) → Behind Anything (IsOptionValue d) (ends_by (behind_element mark.CloseBrace))
behind_name d = last anything_begins (option_value_stands d)
