-- The tokens of a printed text, and how they come from those of a text with the same tree.
use Rattle.std.proofs.Common.{if◌then◌else◌, ◌≡◌, ◌≢◌, ℕ, Bool, true, false, List, [], ◌∷◌, ◌⊎◌, inl, inr, Option, Some, None, refl, sym, ◌∙◌, ap, subst}
use Rattle.std.proofs.lemmas.Bool.{false≢true}
use Rattle.do_lex.specs.Kind.{keyword_of, keyword_text, kind_of, mark_text, word_kind}
use Rattle.do_lex.specs.declared.kind.Kind.{Kind}
use Rattle.do_lex.specs.declared.kind.Kind.TheVariants as kind
use Rattle.do_lex.specs.declared.kind.Keyword.{Keyword}
use Rattle.do_lex.specs.declared.kind.Keyword.TheVariants as key
use Rattle.do_lex.specs.declared.kind.Mark.{Mark}
use Rattle.do_lex.specs.declared.kind.Mark.TheVariants as mark
use Rattle.do_tree.specs.Grammar.{Takes, TakesMark, TakesKey, TakesName, TakesWord, TakesAnyWord, TakesText, BeginsWithNo}
use Rattle.do_tree.specs.Lexeme.{Lexeme, text_of, number_of}
use Rattle.do_tree.specs.Print.{Piece, digits_text, is_word, mark_edge, quoted_in, quote_of}
use Rattle.do_tree.specs.Tree.{Named}
use Rattle.do_tree.specs.declared.print_word.Edge.{Edge}
use Rattle.do_tree.specs.declared.print_word.Edge.TheVariants as edge

-- A token of the printed text, without its place.
pub record Bare : Type 0 where
  pub kind : Kind
  pub edge : Edge
  pub text : List ℕ
  pub inside : ℕ

abbrev pub bare_mark : Mark → ℕ → Bare
bare_mark m d = record { kind = kind.Mark m; edge = mark_edge m; text = mark_text m; inside = d }

abbrev pub bare_key : Keyword → ℕ → Bare
bare_key k d = record { kind = kind.Keyword k; edge = edge.Word; text = keyword_text k; inside = d }

abbrev pub bare_word : Kind → List ℕ → ℕ → Bare
bare_word k text d = record { kind = k; edge = edge.Word; text = text; inside = d }

abbrev pub bare_number : ℕ → ℕ → Bare
bare_number n d = record { kind = kind.Number; edge = edge.Number; text = digits_text n; inside = d }

abbrev pub bare_text : List ℕ → ℕ → Bare
bare_text bytes d = record { kind = kind.Text; edge = edge.Other; text = quoted_in (quote_of bytes) bytes; inside = d }

abbrev pub pieces : List Bare → List Piece
pieces [] = []
pieces (b ∷ bs) = record { edge = b.edge; text = b.text } ∷ pieces bs

-- The tokens at their places, which turn on what stands from them on.
abbrev pub lexeme_at : (List Bare → ℕ) → Bare → List Bare → Lexeme
lexeme_at at b bs = record { kind = b.kind; text = b.text; at = at (b ∷ bs); inside = b.inside }

abbrev pub placed : (List Bare → ℕ) → List Bare → List Lexeme
placed at [] = []
placed at (b ∷ bs) = lexeme_at at b bs ∷ placed at bs

-- A token and how it is printed.
pub data Kept : Lexeme → Bare → Type 0 where
  kept_mark : {o : Lexeme} {m : Mark} {d : ℕ} → o.kind ≡ kind.Mark m → o.inside ≡ d → Kept o (bare_mark m d)
  kept_key : {o : Lexeme} {k : Keyword} {d : ℕ} → o.kind ≡ kind.Keyword k → o.inside ≡ d → Kept o (bare_key k d)
  kept_name : {o : Lexeme} {text : List ℕ} {d : ℕ} → o.kind ≡ kind.Word → text ≡ o.text → o.inside ≡ d → Kept o (bare_word kind.Word text d)
  kept_any : {o : Lexeme} {text : List ℕ} {d : ℕ} → (o.kind ≡ kind.Word) ⊎ ((k : Keyword) × (o.kind ≡ kind.Keyword k)) → text ≡ o.text
      → o.inside ≡ d → Kept o (bare_word o.kind text d)
  -- a word's token that has not the shape of a word: there is none
  kept_no_word : {o : Lexeme} {text : List ℕ} {d : ℕ} → (o.kind ≡ kind.Word) ⊎ ((k : Keyword) × (o.kind ≡ kind.Keyword k)) → text ≡ o.text
      → is_word text ≡ false → o.inside ≡ d → Kept o (bare_text text d)
  kept_number : {o : Lexeme} {n d : ℕ} → o.kind ≡ kind.Number → n ≡ number_of o → o.inside ≡ d → Kept o (bare_number n d)
  kept_text : {o : Lexeme} {bytes : List ℕ} {d : ℕ} → o.kind ≡ kind.Text → bytes ≡ text_of o → o.inside ≡ d → Kept o (bare_text bytes d)
  kept_word_key : {o : Lexeme} {bytes : List ℕ} {d : ℕ} → o.kind ≡ kind.Text → bytes ≡ text_of o → is_word bytes ≡ true → o.inside ≡ d
      → Kept o (bare_word (word_kind bytes) bytes d)

-- What an expression may begin with, so far as marks go.
abbrev pub starts_mark : Mark → Bool
starts_mark mark.Minus = true
starts_mark mark.Not = true
starts_mark mark.OpenParen = true
starts_mark mark.OpenBracket = true
starts_mark mark.OpenBrace = true
starts_mark _ = false

abbrev pub starts_key : Keyword → Bool
starts_key key.Else = false
starts_key _ = true

abbrev pub starts_kind : Kind → Bool
starts_kind (kind.Mark m) = starts_mark m
starts_kind (kind.Keyword k) = starts_key k
starts_kind _ = true

abbrev pub starts : List Lexeme → Bool
starts [] = false
starts (t ∷ ts) = starts_kind t.kind

abbrev pub bare_kind_starts : Kind → Bool
bare_kind_starts (kind.Mark m) = starts_mark m
bare_kind_starts _ = true

abbrev pub bare_starts : List Bare → Bool
bare_starts [] = false
bare_starts (b ∷ bs) = bare_kind_starts b.kind

-- The marks that begin a longer one or a comment: an expression stands behind each.
abbrev pub expects : Mark → Bool
expects mark.Assign = true
expects mark.Not = true
expects mark.Less = true
expects mark.Greater = true
expects mark.Plus = true
expects mark.Minus = true
expects mark.Slash = true
expects mark.Question = true
expects _ = false

abbrev pub calm_mark : Mark → List Bare → Bool
calm_mark m bs = if expects m then bare_starts bs else true

abbrev pub calm : Kind → List Bare → Bool
calm (kind.Mark m) bs = calm_mark m bs
calm _ bs = true

calm_if : (b : Bool) (bs : List Bare) → bare_starts bs ≡ true → (if b then bare_starts bs else true) ≡ true
calm_if true bs h = h
calm_if false bs h = refl

pub calm_so : (m : Mark) (bs : List Bare) → bare_starts bs ≡ true → calm (kind.Mark m) bs ≡ true
calm_so m bs h = calm_if (expects m) bs h

-- A mark behind which no list goes on.
abbrev pub closes_mark : Mark → Bool
closes_mark mark.CloseParen = true
closes_mark mark.CloseBracket = true
closes_mark mark.CloseBrace = true
closes_mark _ = false

abbrev pub closes : List Bare → Type 0
closes [] = ⊥
closes (b ∷ bs) = (m : Mark) × (closes_mark m ≡ true) × (b.kind ≡ kind.Mark m)

-- Each token is printed, but for a comma before a mark that closes.
pub data Respelled : List Lexeme → List Bare → Type 0 where
  none : Respelled [] []
  keep : {o : Lexeme} {b : Bare} {os : List Lexeme} {bs : List Bare} → Kept o b → calm b.kind bs ≡ true → Respelled os bs → Respelled (o ∷ os) (b ∷ bs)
  comma : {o : Lexeme} {os : List Lexeme} {bs : List Bare} → o.kind ≡ kind.Mark mark.Comma → closes bs → Respelled os bs → Respelled (o ∷ os) bs

-- What is printed of the tokens from a place on.
pub record Front (ts : List Lexeme) : Type 0 where
  pub bares : List Bare
  pub like : Respelled ts bares

pub kept : {ts us : List Lexeme} (o : Lexeme) (b : Bare) → ts ≡ o ∷ us → Kept o b → (f : Front us) → calm b.kind f.bares ≡ true → Respelled ts (b ∷ f.bares)
kept o b first k f c = subst (λ xs. Respelled xs (b ∷ f.bares)) (sym first) (keep k c f.like)

abbrev pub mark_front : {m : Mark} {d : ℕ} {ts us : List Lexeme} → TakesMark m d ts us → (f : Front us) → calm_mark m f.bares ≡ true → Front ts
mark_front {m} {d} t f c = record { bares = bare_mark m d ∷ f.bares; like = kept t.token (bare_mark m d) t.first (kept_mark t.kind_is t.inside_is) f c }

abbrev pub key_front : {k : Keyword} {d : ℕ} {ts us : List Lexeme} → TakesKey k d ts us → Front us → Front ts
key_front {k} {d} t f = record { bares = bare_key k d ∷ f.bares; like = kept t.token (bare_key k d) t.first (kept_key t.kind_is t.inside_is) f refl }

abbrev pub name_front : {n : Named} {d : ℕ} {ts us : List Lexeme} → TakesName n d ts us → Front us → Front ts
name_front {n} {d} t f = record {
  bares = bare_word kind.Word n.text d ∷ f.bares;
  like = kept t.takes.token (bare_word kind.Word n.text d) t.takes.first (kept_name t.takes.kind_is t.text_is t.takes.inside_is) f refl;
}

abbrev pub word_front : {word : List ℕ} {d : ℕ} {ts us : List Lexeme} → TakesWord word d ts us → Front us → Front ts
word_front {word} {d} t f = record {
  bares = bare_word kind.Word word d ∷ f.bares;
  like = kept t.takes.token (bare_word kind.Word word d) t.takes.first (kept_name t.takes.kind_is (sym t.text_is) t.takes.inside_is) f refl;
}

-- a word of any kind expects nothing
pub calm_word : (k : Kind) (bs : List Bare) → (k ≡ kind.Word) ⊎ ((w : Keyword) × (k ≡ kind.Keyword w)) → calm k bs ≡ true
calm_word k bs (inl e) = ap (λ x. calm x bs) e
calm_word k bs (inr e) = ap (λ x. calm x bs) e.1

abbrev pub any_front : {n : Named} {d : ℕ} {ts us : List Lexeme} → TakesAnyWord n d ts us → Front us → Front ts
any_front {n} {d} t f = record {
  bares = bare_word t.token.kind n.text d ∷ f.bares;
  like = kept t.token (bare_word t.token.kind n.text d) t.first (kept_any t.kind_is t.text_is t.inside_is) f (calm_word t.token.kind f.bares t.kind_is);
}

abbrev pub no_word_front : {n : Named} {d : ℕ} {ts us : List Lexeme} → TakesAnyWord n d ts us → is_word n.text ≡ false → Front us → Front ts
no_word_front {n} {d} t w f = record {
  bares = bare_text n.text d ∷ f.bares;
  like = kept t.token (bare_text n.text d) t.first (kept_no_word t.kind_is t.text_is w t.inside_is) f refl;
}

abbrev pub number_front : {n d : ℕ} {ts us : List Lexeme} → (t : Takes kind.Number d ts us) → n ≡ number_of t.token → Front us → Front ts
number_front {n} {d} t e f = record { bares = bare_number n d ∷ f.bares; like = kept t.token (bare_number n d) t.first (kept_number t.kind_is e t.inside_is) f refl }

abbrev pub text_front : {at : ℕ} {bytes : List ℕ} {d : ℕ} {ts us : List Lexeme} → TakesText at bytes d ts us → Front us → Front ts
text_front {bytes = bytes} {d = d} t f = record {
  bares = bare_text bytes d ∷ f.bares;
  like = kept t.takes.token (bare_text bytes d) t.takes.first (kept_text t.takes.kind_is t.bytes_is t.takes.inside_is) f refl;
}

-- a word's kind expects nothing and is no mark
pub calm_kind : (k : Option Keyword) (bs : List Bare) → calm (kind_of k) bs ≡ true
calm_kind None bs = refl
calm_kind (Some k) bs = refl

abbrev pub word_key_front : {at : ℕ} {bytes : List ℕ} {d : ℕ} {ts us : List Lexeme} → TakesText at bytes d ts us → is_word bytes ≡ true → Front us → Front ts
word_key_front {bytes = bytes} {d = d} t w f = record {
  bares = bare_word (word_kind bytes) bytes d ∷ f.bares;
  like = kept t.takes.token (bare_word (word_kind bytes) bytes d) t.takes.first (kept_word_key t.takes.kind_is t.bytes_is w t.takes.inside_is) f (calm_kind (keyword_of bytes) f.bares);
}

abbrev pub comma_front : {d : ℕ} {ts us : List Lexeme} → TakesMark mark.Comma d ts us → (f : Front us) → closes f.bares → Front ts
comma_front {ts = ts} t f c = record { bares = f.bares; like = subst (λ xs. Respelled xs f.bares) (sym t.first) (comma t.kind_is c f.like) }

-- The printed tokens, each taken by the grammar.
pub takes_mark : (at : List Bare → ℕ) (m : Mark) (d : ℕ) (bs : List Bare) → TakesMark m d (placed at (bare_mark m d ∷ bs)) (placed at bs)
takes_mark at m d bs = record { token = lexeme_at at (bare_mark m d) bs; first = refl; kind_is = refl; inside_is = refl }

pub takes_key : (at : List Bare → ℕ) (k : Keyword) (d : ℕ) (bs : List Bare) → TakesKey k d (placed at (bare_key k d ∷ bs)) (placed at bs)
takes_key at k d bs = record { token = lexeme_at at (bare_key k d) bs; first = refl; kind_is = refl; inside_is = refl }

abbrev pub named_at : (List Bare → ℕ) → List Bare → List ℕ → Named
named_at at bs text = record { at = at bs; text = text }

pub takes_name : (at : List Bare → ℕ) (text : List ℕ) (d : ℕ) (bs : List Bare)
    → TakesName (named_at at (bare_word kind.Word text d ∷ bs) text) d (placed at (bare_word kind.Word text d ∷ bs)) (placed at bs)
takes_name at text d bs = record {
  takes = record { token = lexeme_at at (bare_word kind.Word text d) bs; first = refl; kind_is = refl; inside_is = refl };
  at_is = refl;
  text_is = refl;
}

pub takes_word : (at : List Bare → ℕ) (text : List ℕ) (d : ℕ) (bs : List Bare)
    → TakesWord text d (placed at (bare_word kind.Word text d ∷ bs)) (placed at bs)
takes_word at text d bs = record {
  takes = record { token = lexeme_at at (bare_word kind.Word text d) bs; first = refl; kind_is = refl; inside_is = refl };
  text_is = refl;
}

pub takes_any : (at : List Bare → ℕ) (k : Kind) (text : List ℕ) (d : ℕ) (bs : List Bare) → (k ≡ kind.Word) ⊎ ((w : Keyword) × (k ≡ kind.Keyword w))
    → TakesAnyWord (named_at at (bare_word k text d ∷ bs) text) d (placed at (bare_word k text d ∷ bs)) (placed at bs)
takes_any at k text d bs h = record { token = lexeme_at at (bare_word k text d) bs; first = refl; kind_is = h; inside_is = refl; at_is = refl; text_is = refl }

-- a word's kind is a word's or a keyword's
word_or_key : (k : Option Keyword) → (kind_of k ≡ kind.Word) ⊎ ((w : Keyword) × (kind_of k ≡ kind.Keyword w))
word_or_key None = inl refl
word_or_key (Some k) = inr (k, refl)

pub word_kind_is : (text : List ℕ) → (word_kind text ≡ kind.Word) ⊎ ((w : Keyword) × (word_kind text ≡ kind.Keyword w))
word_kind_is text = word_or_key (keyword_of text)

-- What doesn't begin with an opening brace is printed so.
kept_no_brace : (o : Lexeme) (b : Bare) → Kept o b → o.kind ≢ kind.Mark mark.OpenBrace → b.kind ≢ kind.Mark mark.OpenBrace
kept_no_brace o _ (kept_mark e _) h i = h (e ∙ i)
kept_no_brace o _ (kept_key e _) h i = cc
kept_no_brace o _ (kept_name e _ _) h i = cc
kept_no_brace o _ (kept_any e _ _) h i = h i
kept_no_brace o _ (kept_no_word e _ _ _) h i = cc
kept_no_brace o _ (kept_number e _ _) h i = cc
kept_no_brace o _ (kept_text e _ _) h i = cc
kept_no_brace o _ (kept_word_key {bytes = bytes} e _ _ _) h i = elim (word_kind_is bytes) [ inl w ↦ cc | inr w ↦ let e = w.1 in cc ]

closes_no_brace : (at : List Bare → ℕ) (bs : List Bare) → closes bs → BeginsWithNo (kind.Mark mark.OpenBrace) (placed at bs)
closes_no_brace at [] c = absurd c
closes_no_brace at (b ∷ bs) c = λ i. let m : c.0 ≡ mark.OpenBrace = (let e = c.2 in cc) in false≢true (sym (ap closes_mark m) ∙ c.1)

pub no_brace : (at : List Bare → ℕ) {ts : List Lexeme} {bs : List Bare} → Respelled ts bs → BeginsWithNo (kind.Mark mark.OpenBrace) ts
    → BeginsWithNo (kind.Mark mark.OpenBrace) (placed at bs)
no_brace at none h = tt
no_brace at (keep {o} {b} k c r) h = kept_no_brace o b k h
no_brace at (comma {bs = bs} e c r) h = closes_no_brace at bs c

-- What begins as an expression does is printed so.
kind_starts : (k : Kind) → starts_kind k ≡ true → bare_kind_starts k ≡ true
kind_starts kind.Word h = refl
kind_starts kind.Number h = refl
kind_starts kind.Text h = refl
kind_starts (kind.Keyword k) h = refl
kind_starts (kind.Mark m) h = h

word_kind_starts : (k : Option Keyword) → bare_kind_starts (kind_of k) ≡ true
word_kind_starts None = refl
word_kind_starts (Some k) = refl

kept_starts : (o : Lexeme) (b : Bare) → Kept o b → starts_kind o.kind ≡ true → bare_kind_starts b.kind ≡ true
kept_starts o _ (kept_mark {m = m} e _) h = sym (ap starts_kind e) ∙ h
kept_starts o _ (kept_key e _) h = refl
kept_starts o _ (kept_name e _ _) h = refl
kept_starts o _ (kept_any e _ _) h = kind_starts o.kind h
kept_starts o _ (kept_no_word e _ _ _) h = refl
kept_starts o _ (kept_number e _ _) h = refl
kept_starts o _ (kept_text e _ _) h = refl
kept_starts o _ (kept_word_key {bytes = bytes} e _ _ _) h = word_kind_starts (keyword_of bytes)

like_starts : {ts : List Lexeme} {bs : List Bare} → Respelled ts bs → starts ts ≡ true → bare_starts bs ≡ true
like_starts none h = h
like_starts (keep {o} {b} k c r) h = kept_starts o b k h
like_starts (comma e c r) h = absurd (false≢true (sym (ap starts_kind e) ∙ h))

pub front_starts : {ts : List Lexeme} (f : Front ts) → starts ts ≡ true → bare_starts f.bares ≡ true
front_starts f h = like_starts f.like h
