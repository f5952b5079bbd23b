-- Statements and their parts can stand.
use Rattle.std.proofs.Common.{◌≡◌, ◌≢◌, ℕ, zero, suc, ◌+◌, Bool, true, false, List, [], ◌∷◌, ◌++◌, ◌⊎◌, inl, inr, Option, Some, None, refl, sym, ◌∙◌, ap, subst, codes}
use Rattle.std.proofs.lemmas.Bool.{false≢true}
use Rattle.do_lex.specs.declared.kind.Kind.{Kind}
use Rattle.do_lex.specs.declared.kind.Kind.TheVariants as kind
use Rattle.do_lex.specs.declared.kind.Keyword.{Keyword}
use Rattle.do_lex.specs.declared.kind.Keyword.TheVariants as key
use Rattle.do_lex.specs.declared.kind.Mark.{Mark}
use Rattle.do_lex.specs.declared.kind.Mark.TheVariants as mark
use Rattle.do_tree.specs.Grammar as g
use Rattle.do_tree.specs.Grammar.{Takes, TakesMark, TakesKey, TakesName, TakesWord, IsExpr, IsOptionExpr, IsStmt, IsElse, IsSimple, IsBlock, IsCaught, BeginsWithNo, binding_key}
use Rattle.do_tree.specs.Lexeme.{Lexeme, place}
use Rattle.do_tree.specs.Tree as tree
use Rattle.do_parse.specs.Follow.{behind_expr}
use Rattle.do_parse.specs.Lists.{BeginsWith, Starting, Repeat}
use Rattle.do_parse.specs.Lists.Repeat.{stop as rep_stop}
use Rattle.do_parse.specs.Parsed.{BeginAlike, Phrase, Follow, Anything, ends_by, CanBegin}
use Rattle.do_parse.specs.Pieces.{InParens, IsExprThen, IsBlockAt, Blocked}
use Rattle.do_parse.specs.Taken.{IsName}
use Rattle.do_parse.specs.Then.{Then, At}
use Rattle.do_parse.proofs.Deep.{block_is, block_stmt_is, mark_token, lexeme, lexeme_takes, word_takes}
use Rattle.do_parse.proofs.Facts.{BeginsBy, anything_begins, mark_begins, mark_stands, key_stands, stands_then, last, before, takes_begins}
use Rattle.do_parse.proofs.FactsExpr.{expr_stands}
use Rattle.do_parse.proofs.Sequence.{Stands, Behind}
use Rattle.do_parse.proofs.Tokens.{is_else}

-- what stands in another reading
pub stands_as : {A B : Type 0} {Is : Phrase A} {Other : Phrase B} {Ends : Follow} (f : B → A) → ((ts us : List Lexeme) (b : B) → Other ts us b → Is ts us (f b)) → Stands Other Ends → Stands Is Ends
stands_as f to s = record {
  begun = record { rest = s.begun.rest; tree = f s.begun.tree; is = λ us e. to (s.begun.rest ++ us) us s.begun.tree (s.begun.is us e) };
  no_else = s.no_else;
}

-- a mark that stands behind a list
pub mark_with : {m : Mark} {d : ℕ} → BeginsBy (At (TakesMark m d)) (BeginsWith (kind.Mark m))
mark_with {m} = record { may = λ ts us at t. subst (λ xs. BeginsWith (kind.Mark m) xs) (sym t.takes.first) t.takes.kind_is }

pub mark_no_else : (m : Mark) (us : List Lexeme) → BeginsWith (kind.Mark m) us → BeginsWithNo (kind.Keyword key.Else) us
mark_no_else m [] b = tt
mark_no_else m (t ∷ us) b = λ h. false≢true (ap is_else (sym b ∙ h))

-- a list may be empty
pub list_stands : {A : Type 0} (P : Phrase A) (m : Mark) → Stands (Repeat P) (BeginsWith (kind.Mark m))
list_stands P m = record { begun = record { rest = []; tree = []; is = λ us e. rep_stop }; no_else = mark_no_else m }

-- blocks and statements
pub block_at_stands : (d : ℕ) {Ends : Follow} → Stands (IsBlockAt d) Ends
block_at_stands d = record {
  begun = record { rest = mark_token mark.OpenBrace d ∷ mark_token mark.CloseBrace d ∷ []; tree = record { at = 0; items = tree.no_items }; is = λ us e. record { at_is = refl; block_is = block_is d us } };
  no_else = λ us e h. false≢true (ap is_else h);
}

pub stmt_stands : (d : ℕ) {Ends : Follow} → Stands (IsStmt d) Ends
stmt_stands d = record {
  begun = record { rest = mark_token mark.OpenBrace d ∷ mark_token mark.CloseBrace d ∷ []; tree = tree.block 0 tree.no_items; is = λ us e. block_stmt_is d us };
  no_else = λ us e h. false≢true (ap is_else h);
}

-- an expression and a mark
pub behind_then : (m : Mark) (d : ℕ) → behind_expr (kind.Mark m) ≡ true → Behind (ends_by behind_expr) (At (TakesMark m d)) Anything
behind_then m d h = last (mark_begins behind_expr h) (mark_stands m d)

pub expr_then_stands : (m : Mark) (d : ℕ) → behind_expr (kind.Mark m) ≡ true → {Ends : Follow} → Stands (IsExprThen m d) Ends
expr_then_stands m d h {Ends} =
    stands_as (λ (b : tree.Expr × ℕ). b.0) (λ ts us b t. record { vs = _; expr = t.first; mark_is = t.second.takes })
    (stands_then (expr_stands (d + 1) {Ends = ends_by behind_expr}) (last {Ends' = Ends} (mark_begins {d = d} behind_expr h) (mark_stands m d)))

pub in_parens_stands : (d : ℕ) {Ends : Follow} → Stands (InParens d) Ends
in_parens_stands d {Ends} =
    stands_as (λ (b : ℕ × tree.Expr). b.1) (λ ts us b t. record { vs = _; ws = _; open_paren = t.first.takes; inside = t.second.expr; close_paren = t.second.mark_is })
    (stands_then (mark_stands mark.OpenParen d) (last {Ends' = Ends} anything_begins (expr_then_stands mark.CloseParen d refl)))

-- a name, a word
pub name_stands : (d : ℕ) {Ends : Follow} → Stands (IsName d) Ends
name_stands d = record {
  begun = record { rest = lexeme kind.Word [] 0 d ∷ []; tree = record { at = 0; text = [] }; is = λ us e. record { takes = lexeme_takes kind.Word [] 0 d us; at_is = refl; text_is = refl } };
  no_else = λ us e h. false≢true (ap is_else h);
}

pub word_stands : (word : List ℕ) (d : ℕ) {Ends : Follow} → Stands (At (TakesWord word d)) Ends
word_stands word d = record {
  begun = record { rest = lexeme kind.Word word 0 d ∷ []; tree = 0; is = λ us e. record { at_is = refl; takes = word_takes word d us } };
  no_else = λ us e h. false≢true (ap is_else h);
}
