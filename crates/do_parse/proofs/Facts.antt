-- Tokens as phrases: with what they begin, and that they can stand.
use Rattle.std.proofs.Common.{◌≡◌, ◌≢◌, ℕ, Bool, true, false, List, [], ◌∷◌, ◌++◌, refl, sym, ◌∙◌, ap, subst, append_assoc, codes}
use Rattle.std.proofs.lemmas.Bool.{false≢true}
use Rattle.do_lex.specs.declared.kind.Kind.{Kind}
use Rattle.do_lex.specs.declared.kind.Kind.TheVariants as kind
use Rattle.do_lex.specs.declared.kind.Keyword.{Keyword}
use Rattle.do_lex.specs.declared.kind.Keyword.TheVariants as key
use Rattle.do_lex.specs.declared.kind.Mark.{Mark}
use Rattle.do_tree.specs.Grammar.{Takes, TakesMark, TakesKey, TakesName, TakesWord, TakesText, BeginsWithNo}
use Rattle.do_tree.specs.Lexeme.{Lexeme, place, text_of}
use Rattle.do_tree.specs.Tree.{Named}
use Rattle.do_parse.specs.Parsed.{Phrase, Follow, Anything, ends_by, CanBegin}
use Rattle.do_parse.specs.Then.{Then, At}
use Rattle.do_parse.proofs.Tokens.{is_else}
use Rattle.do_parse.proofs.Sequence.{Stands, Behind, begun_then}

-- What the phrase begins with may stand there.
pub record BeginsBy {A : Type 0} (P : Phrase A) (Ends : Follow) : Type 0 where
  pub may : (ts us : List Lexeme) (a : A) → P ts us a → Ends ts

-- one token, where its kind passes the test
pub takes_begins : {k : Kind} {d : ℕ} {ts us : List Lexeme} (may : Kind → Bool) → may k ≡ true → Takes k d ts us → ends_by may ts
takes_begins {k} {d} {ts} {us} may h t = subst (λ xs. ends_by may xs) (sym t.first) (ap may t.kind_is ∙ h)

pub mark_begins : {m : Mark} {d : ℕ} (may : Kind → Bool) → may (kind.Mark m) ≡ true → BeginsBy (At (TakesMark m d)) (ends_by may)
mark_begins may h = record { may = λ ts us a t. takes_begins may h t.takes }

-- anything may stand there
pub anything_begins : {A : Type 0} {P : Phrase A} → BeginsBy P Anything
anything_begins = record { may = λ ts us a p. tt }

-- a token
pub token_of : Kind → List ℕ → ℕ → Lexeme
token_of k text d = record { kind = k; text = text; at = 0; inside = d }

pub token_takes : (k : Kind) (text : List ℕ) (d : ℕ) (us : List Lexeme) → Takes k d (token_of k text d ∷ us) us
unfolding token_of
token_takes k text d us = record { token = token_of k text d; first = refl; kind_is = refl; inside_is = refl }

-- it is no else
pub no_else : (k : Kind) (text : List ℕ) (d : ℕ) (us : List Lexeme) → is_else k ≡ false → BeginsWithNo (kind.Keyword key.Else) (token_of k text d ∷ us)
unfolding token_of
no_else k text d us h e = false≢true (sym h ∙ ap is_else e)

pub place_of_token : (k : Kind) (text : List ℕ) (d : ℕ) (us : List Lexeme) → 0 ≡ place (token_of k text d ∷ us)
unfolding token_of
place_of_token k text d us = refl

-- each token can stand
pub key_stands : (k : Keyword) (d : ℕ) {Ends : Follow} → is_else (kind.Keyword k) ≡ false → Stands (At (TakesKey k d)) Ends
key_stands k d h = record {
  begun = record {
    rest = token_of (kind.Keyword k) [] d ∷ [];
    tree = 0;
    is = λ us e. record { at_is = place_of_token (kind.Keyword k) [] d us; takes = token_takes (kind.Keyword k) [] d us };
  };
  no_else = λ us e. no_else (kind.Keyword k) [] d us h;
}

pub mark_stands : (m : Mark) (d : ℕ) {Ends : Follow} → Stands (At (TakesMark m d)) Ends
mark_stands m d = record {
  begun = record {
    rest = token_of (kind.Mark m) [] d ∷ [];
    tree = 0;
    is = λ us e. record { at_is = place_of_token (kind.Mark m) [] d us; takes = token_takes (kind.Mark m) [] d us };
  };
  no_else = λ us e. no_else (kind.Mark m) [] d us refl;
}

-- a phrase behind which another one can stand
pub stands_then : {A B : Type 0} {P : Phrase A} {Q : Phrase B} {Ends Ends' : Follow} → Stands P Ends → Behind Ends Q Ends' → Stands (Then P Q) Ends'
stands_then s n = record {
  begun = begun_then n s.begun;
  no_else = λ us e.
      let q = n.stands.begun.is us e in
      let ms : List Lexeme = n.stands.begun.rest ++ us in
      subst (λ xs. BeginsWithNo (kind.Keyword key.Else) xs) (sym (append_assoc s.begun.rest n.stands.begun.rest us)) (s.no_else ms (n.may ms us n.stands.begun.tree q e));
}

-- a phrase can stand behind another, as the last one or with one more behind it
pub last : {B : Type 0} {Q : Phrase B} {Ends Ends' : Follow} → BeginsBy Q Ends → Stands Q Ends' → Behind Ends Q Ends'
last b s = record { may = λ ts us x q e. b.may ts us x q; stands = s }

pub before : {A B : Type 0} {P : Phrase A} {Q : Phrase B} {Ends Between Ends' : Follow} → BeginsBy P Ends → Stands P Between → Behind Between Q Ends' → Behind Ends (Then P Q) Ends'
before b s n = record { may = λ ts us x t e. b.may ts t.between x.0 t.first; stands = stands_then s n }
