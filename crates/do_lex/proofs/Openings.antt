-- What the first bytes are where something begins.
use Rattle.std.proofs.Common.{◌≡◌, ℕ, ◌<◌, Bool, true, false, cond, List, [], ◌∷◌, length, ◌⊎◌, ⊎_elim, inl, inr, refl, sym, ◌∙◌, subst, arith, eqb, eqb-true}
use Rattle.std.proofs.lemmas.Bool.{false≢true}
use Rattle.std.specs.Char.{is_ascii_digit}
use Rattle.do_lex.specs.Bytes.{is_blank, is_quote, is_word_start}
use Rattle.do_lex.specs.Next.{opening_of, after_slash, begins}
use Rattle.do_lex.specs.declared.pieces.Opening.{Opening}
use Rattle.do_lex.specs.declared.pieces.Opening.TheVariants as opens

-- which way a choice went
pub chosen : {A : Type 0} (b : Bool) (x y z : A) → cond b x y ≡ z → ((b ≡ true) × (x ≡ z)) ⊎ ((b ≡ false) × (y ≡ z))
chosen true x y z e = inl (refl, e)
chosen false x y z e = inr (refl, e)

-- a slash begins a comment or a mark
slash_opens : (bs : List ℕ) → ((after_slash bs ≡ opens.LineComment) × (begins (λ c. eqb c 47) bs ≡ true)) ⊎ (((after_slash bs ≡ opens.BlockComment) × (begins (λ c. eqb c 42) bs ≡ true)) ⊎ (after_slash bs ≡ opens.Other))
slash_opens bs =
    ⊎_elim (λ (t, e). inl (sym e, t))
    (λ (_, e). ⊎_elim (λ (t, d). inr (inl (sym (d ∙ e), t))) (λ (_, d). inr (inr (sym (d ∙ e)))) (chosen (begins (λ c. eqb c 42) bs) opens.BlockComment opens.Other _ refl))
    (chosen (begins (λ c. eqb c 47) bs) opens.LineComment (cond (begins (λ c. eqb c 42) bs) opens.BlockComment opens.Other) (after_slash bs) refl)

-- what the opening says of the first byte
pub data Opens (b : ℕ) (bs : List ℕ) : Opening → Type 0 where
  blank : is_blank b ≡ true → Opens b bs opens.Blank
  quote : is_quote b ≡ true → Opens b bs opens.Quote
  digit : is_ascii_digit b ≡ true → Opens b bs opens.Digit
  letter : is_word_start b ≡ true → Opens b bs opens.Letter
  line : b ≡ 47 → begins (λ c. eqb c 47) bs ≡ true → Opens b bs opens.LineComment
  block : b ≡ 47 → begins (λ c. eqb c 42) bs ≡ true → Opens b bs opens.BlockComment
  other : Opens b bs opens.Other

open_slash : (b : ℕ) (bs : List ℕ) → b ≡ 47 → Opens b bs (after_slash bs)
open_slash b bs is = ⊎_elim (λ (e, t). rw e (line is t)) (⊎_elim (λ (e, t). rw e (block is t)) (λ e. rw e other)) (slash_opens bs)

pub opens_by : (b : ℕ) (bs : List ℕ) → Opens b bs (opening_of (b ∷ bs))
opens_by b bs =
    let after_letter = cond (eqb b 47) (after_slash bs) opens.Other in
    let after_digit = cond (is_word_start b) opens.Letter after_letter in
    let after_quote = cond (is_ascii_digit b) opens.Digit after_digit in
    let after_blank = cond (is_quote b) opens.Quote after_quote in
    ⊎_elim (λ (t, e). subst (Opens b bs) e (blank t))
    (λ (_, e₁). ⊎_elim (λ (t, e). subst (Opens b bs) (e ∙ e₁) (quote t))
    (λ (_, e₂). ⊎_elim (λ (t, e). subst (Opens b bs) (e ∙ e₂ ∙ e₁) (digit t))
    (λ (_, e₃). ⊎_elim (λ (t, e). subst (Opens b bs) (e ∙ e₃ ∙ e₂ ∙ e₁) (letter t))
    (λ (_, e₄). ⊎_elim (λ (t, e). subst (Opens b bs) (e ∙ e₄ ∙ e₃ ∙ e₂ ∙ e₁) (open_slash b bs (eqb-true b 47 t)))
    (λ (_, e). subst (Opens b bs) (e ∙ e₄ ∙ e₃ ∙ e₂ ∙ e₁) other)
    (chosen (eqb b 47) (after_slash bs) opens.Other after_letter refl))
    (chosen (is_word_start b) opens.Letter after_letter after_digit refl))
    (chosen (is_ascii_digit b) opens.Digit after_digit after_quote refl))
    (chosen (is_quote b) opens.Quote after_quote after_blank refl))
    (chosen (is_blank b) opens.Blank after_blank (opening_of (b ∷ bs)) refl)

-- what a letter, a digit and so on begin with
pub letter_first : (b : ℕ) (bs : List ℕ) → opening_of (b ∷ bs) ≡ opens.Letter → is_word_start b ≡ true
letter_first b bs e = letter_of (subst (Opens b bs) e (opens_by b bs))
  where
    letter_of : Opens b bs opens.Letter → is_word_start b ≡ true
    letter_of (letter t) = t

pub digit_first : (b : ℕ) (bs : List ℕ) → opening_of (b ∷ bs) ≡ opens.Digit → is_ascii_digit b ≡ true
digit_first b bs e = digit_of (subst (Opens b bs) e (opens_by b bs))
  where
    digit_of : Opens b bs opens.Digit → is_ascii_digit b ≡ true
    digit_of (digit t) = t

pub quote_first : (b : ℕ) (bs : List ℕ) → opening_of (b ∷ bs) ≡ opens.Quote → is_quote b ≡ true
quote_first b bs e = quote_of (subst (Opens b bs) e (opens_by b bs))
  where
    quote_of : Opens b bs opens.Quote → is_quote b ≡ true
    quote_of (quote t) = t

pub line_first : (b : ℕ) (bs : List ℕ) → opening_of (b ∷ bs) ≡ opens.LineComment → b ≡ 47
line_first b bs e = line_of (subst (Opens b bs) e (opens_by b bs))
  where
    line_of : Opens b bs opens.LineComment → b ≡ 47
    line_of (line is t) = is

pub block_first : (b : ℕ) (bs : List ℕ) → opening_of (b ∷ bs) ≡ opens.BlockComment → (b ≡ 47) × (0 < length bs)
block_first b bs e = block_of bs (subst (Opens b bs) e (opens_by b bs))
  where
    block_of : (ys : List ℕ) → Opens b ys opens.BlockComment → (b ≡ 47) × (0 < length ys)
    block_of [] (block is t) = absurd (false≢true t)
    block_of (y ∷ ys) (block is t) = (is, omega arith)
