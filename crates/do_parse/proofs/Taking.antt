-- One token as a phrase.
use Rattle.std.proofs.Common.{◌≡◌, ◌≢◌, arith, ◌≤◌, ◌+◌, ℕ, zero, suc, pos, ℤ, Bool, true, false, List, [], ◌∷◌, ◌++◌, ◌⊎◌, inl, inr, Option, Some, None, Result, Ok, Err, All, refl, sym, ◌∙◌, ap, subst}
use Rattle.std.proofs.lemmas.Bool.{false≢true}
use Rattle.std.proofs.lemmas.Option.{none-some}
use Rattle.std.proofs.lemmas.List.Elements.{All-cons, All-nil}
use Rattle.do_lex.specs.declared.kind.Kind.{Kind}
use Rattle.do_lex.specs.declared.kind.Kind.TheVariants as kind
use Rattle.do_lex.specs.declared.kind.Keyword.{Keyword}
use Rattle.do_lex.specs.declared.kind.Mark.{Mark}
use Rattle.do_lex.specs.declared.tokens.Token.{Token}
use Rattle.do_tree.specs.Accepts.{most_inside, IsShallow}
use Rattle.do_tree.specs.Grammar as g
use Rattle.do_tree.specs.Grammar.{Takes, TakesMark, TakesKey, TakesName, TakesWord, TakesAnyWord, TakesText, IsPrim}
use Rattle.do_tree.specs.Lexeme.{Lexeme, place, text_of, number_of}
use Rattle.do_tree.specs.Tree as tree
use Rattle.do_tree.specs.Tree.{Named}
use Rattle.do_parse.specs.declared.stop.Stop.{Stop}
use Rattle.do_parse.specs.declared.stop.Stop.TheVariants.{Unexpected, TooNested, NoMemory}
use Rattle.do_parse.specs.Lists.{BeginsWith, Starting}
use Rattle.do_parse.specs.Parsed.{Phrase, Anything, IsLexeme, HasRead, Agree, BeginAlike, AreLexemesOf, CanBegin, Parses}
use Rattle.do_parse.specs.Starts.{kind_next, is_word}
use Rattle.do_parse.specs.Taken.{IsTaken, IsName, IsAnyName, IsTextName, IsGivenText}
use Rattle.do_parse.specs.Then.{At}
use Rattle.do_parse.proofs.Deep.{lexeme, lexeme_takes}
use Rattle.do_parse.proofs.First.{kind_first, first_is_next, takes_first}
use Rattle.do_parse.proofs.Sequence.{wrong_here}
use Rattle.do_parse.proofs.Tokens.{begins_so, heads_alike, tails_alike}

-- The token, held by so many phrases.
abbrev pub held : Token → ℕ → Lexeme
held t d = lexeme t.kind t.text.now t.at d

-- a lexeme is that token where it is held so
pub held_is : (t : Token) (l : Lexeme) (d : ℕ) → IsLexeme t l → l.inside ≡ d → l ≡ held t d
held_is t l d i h = λ j. record { kind = i.kind j; text = i.text j; at = i.at j; inside = h j }

shallow_one : (l : Lexeme) → l.inside ≤ most_inside → IsShallow (l ∷ [])
shallow_one l h = All-cons (λ t. t.inside ≤ most_inside) l [] h (All-nil (λ t. t.inside ≤ most_inside))

-- A phrase of one token.
pub record OneToken {A : Type 0} (P : Phrase A) (t : Token) (d : ℕ) (a : A) : Type 0 where
  pub is : (us : List Lexeme) → P (held t d ∷ us) us a
  pub only : (l : Lexeme) (ts us : List Lexeme) (other : A) → IsLexeme t l → P (l ∷ ts) us other → (l.inside ≡ d) × (ts ≡ us) × (other ≡ a)

module _ {A : Type 0} {P : Phrase A} {old new : List Token} {t : Token} {d : ℕ} {a : A} (o : OneToken P t d a) (h : old ≡ t ∷ new) where
  one_only : (ts us : List Lexeme) (other : A) → BeginAlike (t ∷ new) ts → P ts us other → (ts ≡ held t d ∷ us) × (other ≡ a)
  one_only [] us other b p = absurd b
  one_only (l ∷ ts) us other b p =
      let x = o.only l ts us other b p in
      (ap (λ k. k ∷ ts) (held_is t l d b x.0) ∙ ap (λ xs. held t d ∷ xs) x.1, x.2)

  pub one_token : d ≤ 64 → Parses P Anything old new (Ok a)
  one_token small = record {
    so = record {
      used = held t d ∷ [];
      read = record { front = t ∷ []; split = h; are = (record { kind = refl; text = refl; at = refl }, tt); shallow = shallow_one (held t d) small };
      is = λ us e l. o.is us;
      only = λ ts us other agree p e. one_only ts us other (subst (λ xs. BeginAlike xs ts) h (begins_so agree)) p;
    };
  }

-- one token of a kind
pub takes_only : {k : Kind} {d : ℕ} (t : Token) (l : Lexeme) (ts us : List Lexeme) → IsLexeme t l → Takes k d (l ∷ ts) us → (l.inside ≡ d) × (ts ≡ us)
takes_only t l ts us i p = (ap (λ x. x.inside) (heads_alike l p.token ts us p.first) ∙ p.inside_is, tails_alike l p.token ts us p.first)

at_one : (k : Kind) (d : ℕ) (t : Token) → t.kind ≡ k → OneToken (At (Takes k d)) t d t.at
at_one k d t h = record {
  is = λ us. record { at_is = refl; takes = record { token = held t d; first = refl; kind_is = h; inside_is = refl } };
  only = λ l ts us other i p. let x = takes_only t l ts us i p.takes in (x.0, x.1, p.at_is ∙ i.at);
}

pub taken : {k : Kind} {d : ℕ} {old new : List Token} (t : Token) → d ≤ 64 → IsTaken k old new (Ok t) → Parses (At (Takes k d)) Anything old new (Ok t.at)
taken {k} {d} {old} {new} t small h = one_token (at_one k d t h.1) h.0 small

-- A token that isn't of the kind.
pub untaken : {A : Type 0} {P : Phrase A} {k : Kind} {old new : List Token} {s : Stop} → CanBegin P Anything [] → ((ts us : List Lexeme) (a : A) → P ts us a → kind_first ts ≡ Some k) → IsTaken k old new (Err s) → Parses P Anything old new (Err s)
untaken {A} {P} {k} {old} {new} {s} c first h =
    subst (λ x. Parses P Anything old x (Err s)) (sym h.1)
    (subst (λ x. Parses P Anything old old (Err x)) (sym h.0)
    (wrong_here c (λ ts us a b p e. h.2 (sym (first_is_next old ts b) ∙ first ts us a p))))

at_can : (k : Kind) (d : ℕ) → CanBegin (At (Takes k d)) Anything []
at_can k d = record { rest = lexeme k [] 0 d ∷ []; tree = 0; is = λ us e. record { at_is = refl; takes = lexeme_takes k [] 0 d us } }

pub not_taken : {k : Kind} {d : ℕ} {old new : List Token} {s : Stop} → IsTaken k old new (Err s) → Parses (At (Takes k d)) Anything old new (Err s)
not_taken {k} {d} h = untaken (at_can k d) (λ ts us a p. takes_first p.takes) h

-- names, words and texts
pub token_is : (l k : Lexeme) (ts us : List Lexeme) → l ∷ ts ≡ k ∷ us → k ≡ l
token_is l k ts us h = sym (heads_alike l k ts us h)

pub name_one : (d : ℕ) (t : Token) → t.kind ≡ kind.Word → OneToken (IsName d) t d (record { at = t.at; text = t.text.now })
name_one d t h = record {
  is = λ us. record { takes = record { token = held t d; first = refl; kind_is = h; inside_is = refl }; at_is = refl; text_is = refl };
  only = λ l ts us n i p.
      let x = takes_only t l ts us i p.takes in
      let same = token_is l p.takes.token ts us p.takes.first in
      (x.0, x.1, λ j. record { at = (p.at_is ∙ ap (λ y. y.at) same ∙ i.at) j; text = (p.text_is ∙ ap (λ y. y.text) same ∙ i.text) j });
}

word_kind : (k : Kind) → is_word k ≡ true → (k ≡ kind.Word) ⊎ ((w : Keyword) × (k ≡ kind.Keyword w))
word_kind kind.Word h = inl refl
word_kind (kind.Keyword w) h = inr (w, refl)
word_kind kind.Number h = absurd (false≢true h)
word_kind kind.Text h = absurd (false≢true h)
word_kind (kind.Mark m) h = absurd (false≢true h)

pub kind_word : {k : Kind} → (k ≡ kind.Word) ⊎ ((w : Keyword) × (k ≡ kind.Keyword w)) → is_word k ≡ true
kind_word (inl h) = ap is_word h
kind_word (inr w) = ap is_word w.1

pub any_one : (d : ℕ) (t : Token) → is_word t.kind ≡ true → OneToken (IsAnyName d) t d (record { at = t.at; text = t.text.now })
any_one d t h = record {
  is = λ us. record { token = held t d; first = refl; kind_is = word_kind t.kind h; inside_is = refl; at_is = refl; text_is = refl };
  only = λ l ts us n i p.
      let same = token_is l p.token ts us p.first in (
        ap (λ y. y.inside) (sym same) ∙ p.inside_is,
        tails_alike l p.token ts us p.first,
        λ j. record { at = (p.at_is ∙ ap (λ y. y.at) same ∙ i.at) j; text = (p.text_is ∙ ap (λ y. y.text) same ∙ i.text) j },
      );
}

pub text_one : (d : ℕ) (t : Token) → t.kind ≡ kind.Text → OneToken (IsTextName d) t d (record { at = t.at; text = text_of (held t d) })
text_one d t h = record {
  is = λ us. record { takes = record { token = held t d; first = refl; kind_is = h; inside_is = refl }; at_is = refl; bytes_is = refl };
  only = λ l ts us n i p.
      let x = takes_only t l ts us i p.takes in
      let same = token_is l p.takes.token ts us p.takes.first ∙ held_is t l d i x.0 in
      (x.0, x.1, λ j. record { at = (p.at_is ∙ ap (λ y. y.at) same) j; text = (p.bytes_is ∙ ap text_of same) j });
}

pub word_one : (word : List ℕ) (d : ℕ) (t : Token) → t.kind ≡ kind.Word → t.text.now ≡ word → OneToken (At (TakesWord word d)) t d t.at
word_one word d t h w = record {
  is = λ us. record { at_is = refl; takes = record { takes = record { token = held t d; first = refl; kind_is = h; inside_is = refl }; text_is = w } };
  only = λ l ts us other i p. let x = takes_only t l ts us i p.takes.takes in (x.0, x.1, p.at_is ∙ i.at);
}

pub given_one : (bytes : List ℕ) (d : ℕ) (t : Token) → t.kind ≡ kind.Text → text_of (held t d) ≡ bytes → OneToken (IsGivenText bytes d) t d t.at
given_one bytes d t h w = record {
  is = λ us. record { takes = record { token = held t d; first = refl; kind_is = h; inside_is = refl }; at_is = refl; bytes_is = sym w };
  only = λ l ts us other i p.
      let x = takes_only t l ts us i p.takes in
      let same = token_is l p.takes.token ts us p.takes.first in
      (x.0, x.1, p.at_is ∙ ap (λ y. y.at) same ∙ i.at);
}

-- Names, texts and numbers that aren't there.
pub name_not_taken : {d : ℕ} {old new : List Token} {s : Stop} → IsTaken kind.Word old new (Err s) → Parses (IsName d) Anything old new (Err s)
name_not_taken {d} h = untaken (record { rest = lexeme kind.Word [] 0 d ∷ []; tree = record { at = 0; text = [] }; is = λ us e. record { takes = lexeme_takes kind.Word [] 0 d us; at_is = refl; text_is = refl } }) (λ ts us n p. takes_first p.takes) h

pub text_not_taken : {d : ℕ} {old new : List Token} {s : Stop} → IsTaken kind.Text old new (Err s) → Parses (IsTextName d) Anything old new (Err s)
text_not_taken {d} h = untaken (record { rest = lexeme kind.Text [] 0 d ∷ []; tree = record { at = 0; text = text_of (lexeme kind.Text [] 0 d) }; is = λ us e. record { takes = lexeme_takes kind.Text [] 0 d us; at_is = refl; bytes_is = refl } }) (λ ts us n p. takes_first p.takes) h

number_first : (ts : List Lexeme) → BeginsWith kind.Number ts → kind_first ts ≡ Some kind.Number
number_first [] b = absurd b
number_first (t ∷ ts) b = ap (λ k. Some k) b

pub number_not_taken : {d : ℕ} {old new : List Token} {s : Stop} → IsTaken kind.Number old new (Err s) → Parses (Starting kind.Number (IsPrim d)) Anything old new (Err s)
number_not_taken {d} h =
    untaken (record { rest = lexeme kind.Number [] 0 d ∷ []; tree = tree.number 0 (pos (number_of (lexeme kind.Number [] 0 d))); is = λ us e. (refl, g.number refl (lexeme_takes kind.Number [] 0 d us) refl) }) (λ ts us e p. number_first ts p.0) h
