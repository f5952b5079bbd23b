-- One token that is looked at first.
use Rattle.std.proofs.Math.Numerals.{add-one}
use Rattle.std.proofs.Common.{◌≡◌, ◌≢◌, ◌≤◌, ◌+◌, ℕ, zero, suc, Bool, true, false, List, [], ◌∷◌, ◌++◌, codes, drop, Option, Some, None, Result, Ok, Err, refl, sym, ◌∙◌, ap, subst, inl}
use Rattle.std.proofs.lemmas.Bool.{false≢true}
use Rattle.std.proofs.lemmas.Option.{none-some}
use Rattle.do_lex.specs.declared.kind.Kind.{Kind}
use Rattle.do_lex.specs.declared.kind.Kind.TheVariants as kind
use Rattle.do_lex.specs.declared.tokens.Token.{Token}
use Rattle.do_tree.specs.Grammar.{Takes, TakesWord}
use Rattle.do_tree.specs.Lexeme.{Lexeme, text_of}
use Rattle.do_tree.specs.Tree.{Named}
use Rattle.do_parse.specs.declared.stop.Stop.{Stop}
use Rattle.do_parse.specs.declared.stop.Stop.TheVariants.{Unexpected}
use Rattle.do_parse.specs.Parsed.{Phrase, Anything, IsLexeme, BeginAlike, CanBegin, Parses}
use Rattle.do_parse.specs.Starts.{kind_next, is_word}
use Rattle.do_parse.specs.Taken.{IsAnyName, IsGivenText, IsName, IsTextName, token_next}
use Rattle.do_parse.specs.Then.{At}
use Rattle.do_parse.proofs.Deep.{lexeme, lexeme_takes}
use Rattle.do_parse.proofs.First.{kind_first, first_is_next, takes_first}
use Rattle.do_parse.proofs.Sequence.{wrong_here}
use Rattle.do_parse.proofs.Taking.{OneToken, one_token, word_one, any_one, given_one, name_one, text_one, held, held_is, takes_only, token_is, kind_word}

some_token : (a b : Token) → Some a ≡ Some b → a ≡ b
some_token a b h = cc

pub split_next : (now : List Token) (t : Token) → token_next now ≡ Some t → now ≡ t ∷ drop 1 now
split_next [] t h = absurd (none-some t h)
split_next (x ∷ now) t h = ap (λ y. y ∷ now) (some_token x t h)

-- The token is one phrase.
pub one_next : {A : Type 0} {P : Phrase A} {now : List Token} {t : Token} {d : ℕ} {a : A} → OneToken P t d a → token_next now ≡ Some t → d ≤ 64 → Parses P Anything now (drop 1 now) (Ok a)
one_next {A} {P} {now} {t} {d} {a} o h small = one_token o (split_next now t h) small

-- It is another one.
word_can : (word : List ℕ) (d : ℕ) → CanBegin (At (TakesWord word d)) Anything []
word_can word d = record { rest = lexeme kind.Word word 0 d ∷ []; tree = 0; is = λ us e. record { at_is = refl; takes = record { takes = lexeme_takes kind.Word word 0 d us; text_is = refl } } }

pub word_missing : {word : List ℕ} {d : ℕ} (now : List Token) → ¬ (kind_next now ≡ Some kind.Word) → Parses (At (TakesWord word d)) Anything now now (Err Unexpected)
word_missing {word} {d} now h = wrong_here (word_can word d) (λ ts us at b p e. h (sym (first_is_next now ts b) ∙ takes_first p.takes.takes))

other_text : (word : List ℕ) (d : ℕ) (t : Token) (now : List Token) → ¬ (t.text.now ≡ word) → (ts us : List Lexeme) (at : ℕ) → BeginAlike (t ∷ now) ts → At (TakesWord word d) ts us at → ⊥
other_text word d t now h [] us at b p = b
other_text word d t now h (l ∷ ts) us at b p = h (sym b.text ∙ ap (λ y. y.text) (sym (token_is l p.takes.takes.token ts us p.takes.takes.first)) ∙ p.takes.text_is)

pub word_differs : {word : List ℕ} {d : ℕ} (now : List Token) (t : Token) → token_next now ≡ Some t → ¬ (t.text.now ≡ word) → Parses (At (TakesWord word d)) Anything now now (Err Unexpected)
word_differs {word} {d} now t n h =
    subst (λ xs. Parses (At (TakesWord word d)) Anything xs xs (Err Unexpected)) (sym (split_next now t n))
    (wrong_here (word_can word d) (λ ts us at b p e. other_text word d t (drop 1 now) h ts us at b p))

any_can : (d : ℕ) → CanBegin (IsAnyName d) Anything []
any_can d = record { rest = lexeme kind.Word [] 0 d ∷ []; tree = record { at = 0; text = [] }; is = λ us e. record { token = lexeme kind.Word [] 0 d; first = refl; kind_is = inl refl; inside_is = refl; at_is = refl; text_is = refl } }

any_not : (d : ℕ) (t : Token) (now : List Token) → is_word t.kind ≡ false → (ts us : List Lexeme) (n : Named) → BeginAlike (t ∷ now) ts → IsAnyName d ts us n → ⊥
any_not d t now h [] us n b p = b
any_not d t now h (l ∷ ts) us n b p = false≢true (sym h ∙ ap is_word (sym b.kind ∙ ap (λ y. y.kind) (sym (token_is l p.token ts us p.first))) ∙ kind_word p.kind_is)

pub any_differs : {d : ℕ} (now : List Token) (t : Token) → token_next now ≡ Some t → is_word t.kind ≡ false → Parses (IsAnyName d) Anything now now (Err Unexpected)
any_differs {d} now t n h =
    subst (λ xs. Parses (IsAnyName d) Anything xs xs (Err Unexpected)) (sym (split_next now t n))
    (wrong_here (any_can d) (λ ts us m b p e. any_not d t (drop 1 now) h ts us m b p))

any_end : (d : ℕ) (ts us : List Lexeme) (n : Named) → BeginAlike [] ts → IsAnyName d ts us n → ⊥
any_end d [] us n b p = let q : Path (Option Kind) None (Some p.token.kind) = ap kind_first p.first in none-some p.token.kind q
any_end d (l ∷ ts) us n b p = b

pub any_missing : {d : ℕ} (now : List Token) → token_next now ≡ None → Parses (IsAnyName d) Anything now now (Err Unexpected)
any_missing {d} [] h = wrong_here (any_can d) (λ ts us n b p e. any_end d ts us n b p)
any_missing {d} (t ∷ now) h = absurd (none-some t (sym h))

pub given_missing : {bytes : List ℕ} {d : ℕ} (now : List Token) → CanBegin (IsGivenText bytes d) Anything [] → ¬ (kind_next now ≡ Some kind.Text) → Parses (IsGivenText bytes d) Anything now now (Err Unexpected)
given_missing {bytes} {d} now c h = wrong_here c (λ ts us at b p e. h (sym (first_is_next now ts b) ∙ takes_first p.takes))

other_bytes : (bytes : List ℕ) (d : ℕ) (t : Token) (now : List Token) → ¬ (text_of (held t d) ≡ bytes) → (ts us : List Lexeme) (at : ℕ) → BeginAlike (t ∷ now) ts → IsGivenText bytes d ts us at → ⊥
other_bytes bytes d t now h [] us at b p = b
other_bytes bytes d t now h (l ∷ ts) us at b p =
    let x = takes_only t l ts us b p.takes in
    let same = token_is l p.takes.token ts us p.takes.first ∙ held_is t l d b x.0 in
    h (ap text_of (sym same) ∙ sym p.bytes_is)

pub given_differs : {bytes : List ℕ} {d : ℕ} (now : List Token) (t : Token) → CanBegin (IsGivenText bytes d) Anything [] → token_next now ≡ Some t → ¬ (text_of (held t d) ≡ bytes) → Parses (IsGivenText bytes d) Anything now now (Err Unexpected)
given_differs {bytes} {d} now t c n h =
    subst (λ xs. Parses (IsGivenText bytes d) Anything xs xs (Err Unexpected)) (sym (split_next now t n))
    (wrong_here c (λ ts us at b p e. other_bytes bytes d t (drop 1 now) h ts us at b p))

-- The text of the module can stand.
pub module_can : (d : ℕ) → CanBegin (IsGivenText (codes "cloudflare:workers") d) Anything []
module_can d = record {
  rest = lexeme kind.Text (34 ∷ (codes "cloudflare:workers" ++ 34 ∷ [])) 0 d ∷ [];
  tree = 0;
  is = λ us e. record { takes = lexeme_takes kind.Text (34 ∷ (codes "cloudflare:workers" ++ 34 ∷ [])) 0 d us; at_is = refl; bytes_is = refl };
}

-- The next token and its kind.
pub peek_kind : (now : List Token) (t : Token) (k : Kind) → token_next now ≡ Some t → kind_next now ≡ Some k → t.kind ≡ k
peek_kind [] t k h n = absurd (none-some t h)
peek_kind (x ∷ now) t k h n = ap (λ y. y.kind) (sym (some_token x t h)) ∙ some_kind x.kind k n
  where
    some_kind : (a b : Kind) → Some a ≡ Some b → a ≡ b
    some_kind a b h = cc

pub peek_none : (now : List Token) (k : Kind) → token_next now ≡ None → ¬ (kind_next now ≡ Some k)
peek_none [] k h n = none-some k n
peek_none (x ∷ now) k h n = none-some x (sym h)

-- one more token is behind
drop_suc : {X : Type 0} (i : ℕ) (xs : List X) → drop (suc i) xs ≡ drop 1 (drop i xs)
drop_suc zero xs = refl
drop_suc (suc i) [] = refl
drop_suc (suc i) (x ∷ xs) = drop_suc i xs

pub drop_one : {X : Type 0} (i : ℕ) (xs : List X) → drop (i + 1) xs ≡ drop 1 (drop i xs)
drop_one i xs = ap (λ k. drop k xs) (add-one i) ∙ drop_suc i xs
