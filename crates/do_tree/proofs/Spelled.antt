-- What printed numbers and texts stand for.
use Rattle.std.proofs.Common.{if◌then◌else◌, ◌==◌, ◌||◌, ◌-◌, ◌+◌, ◌<◌, ◌≡◌, ℕ, zero, suc, Bool, true, false, List, [], ◌∷◌, ◌++◌, length, take, drop, map, ◌⊎◌, inl, inr, refl, sym, ◌∙◌, ap, arith}
use Rattle.std.specs.Int.Digits.{AllBelowBase, digits_of, number_from_digits}
use Rattle.std.specs.Char.{digit_value}
use Rattle.std.proofs.Math.Seq.{take-append_seam}
use Rattle.std.proofs.lemmas.Bool.Decides.{nat_tests}
use Rattle.std.proofs.lemmas.Int.Digits.{all_below_base_digits_of, digits_value_is, number_digits_of}
use Rattle.std.proofs.lemmas.List.{length-append}
use Rattle.do_lex.specs.Lexemes.{escaped, number_value, text_value}
use Rattle.do_lex.specs.declared.kind.Kind.TheVariants as kind
use Rattle.do_tree.specs.Grammar.{Takes, TakesText}
use Rattle.do_tree.specs.Print.{digits_text, quote_of, quoted_in, text_of_byte, text_of_bytes}
use Rattle.do_tree.proofs.Respelled.{Bare, bare_number, bare_text, lexeme_at, placed}

-- a digit's character
digit_back : (d : ℕ) → d < 10 → digit_value (48 + d) ≡ d
digit_back d h = grind (arith, nat_tests)

digits_back : (ds : List ℕ) → AllBelowBase 10 ds → map digit_value (map (λ d. 48 + d) ds) ≡ ds
digits_back [] h = refl
digits_back (d ∷ ds) h = let a = digit_back d h.0 in let b = digits_back ds h.1 in λ i. a i ∷ b i

-- Digits stand for the number that they were made of.
pub value_of_digits : (n : ℕ) → number_value (digits_text n) ≡ n
value_of_digits zero = refl
value_of_digits (suc n) =
    digits_value_is 10 (map (λ d. 48 + d) (digits_of 10 (suc n)))
    ∙ ap (number_from_digits 10) (digits_back (digits_of 10 (suc n)) (all_below_base_digits_of 10 (suc n) (omega arith)))
    ∙ number_digits_of 10 (suc n) (omega arith)

abbrev pub takes_number : (at : List Bare → ℕ) (n d : ℕ) (bs : List Bare) → Takes kind.Number d (placed at (bare_number n d ∷ bs)) (placed at bs)
takes_number at n d bs = record { token = lexeme_at at (bare_number n d) bs; first = refl; kind_is = refl; inside_is = refl }

-- One of the two quotes.
abbrev pub IsOneQuote : ℕ → Type 0
IsOneQuote q = (q ≡ 34) ⊎ (q ≡ 39)

-- a byte that stands for itself
pub value_plain : (b : ℕ) (xs : List ℕ) → (b == 92) ≡ false → text_value (b ∷ xs) ≡ b ∷ text_value xs
value_plain b [] h = refl
value_plain b (x ∷ xs) h = ap (λ t. if t then escaped x ∷ text_value xs else b ∷ text_value (x ∷ xs)) h

-- a backslash or a quote, and another byte
escaped_itself : (q b : ℕ) → IsOneQuote q → ((b == 92) || (b == q)) ≡ true → escaped b ≡ b
escaped_itself q b (inl e) h = grind (arith, nat_tests)
escaped_itself q b (inr e) h = grind (arith, nat_tests)

no_backslash : (q b : ℕ) → ((b == 92) || (b == q)) ≡ false → (b == 92) ≡ false
no_backslash q b h = by (b == 92) (b == q) h
  where
    by : (c e : Bool) → (c || e) ≡ false → c ≡ false
    by true e h = h
    by false e h = refl

-- a byte that is no backslash and no quote, by whether it is LF or CR
abbrev in_line : ℕ → Bool → Bool → List ℕ
in_line b lf cr = if lf then 92 ∷ 110 ∷ [] else (if cr then 92 ∷ 114 ∷ [] else b ∷ [])

line_value : (b : ℕ) (xs : List ℕ) (lf cr : Bool) → (b == 10) ≡ lf → (b == 13) ≡ cr → (b == 92) ≡ false → text_value (in_line b lf cr ++ xs) ≡ b ∷ text_value xs
line_value b xs true cr e f h = let same : 10 ≡ b = grind (arith, nat_tests) in ap (λ c. c ∷ text_value xs) same
line_value b xs false true e f h = let same : 13 ≡ b = grind (arith, nat_tests) in ap (λ c. c ∷ text_value xs) same
line_value b xs false false e f h = value_plain b xs h

escape_value : (q b : ℕ) (xs : List ℕ) → IsOneQuote q → (c : Bool) → ((b == 92) || (b == q)) ≡ c
    → text_value ((if c then 92 ∷ b ∷ [] else in_line b (b == 10) (b == 13)) ++ xs) ≡ b ∷ text_value xs
escape_value q b xs quote true h = ap (λ c. c ∷ text_value xs) (escaped_itself q b quote h)
escape_value q b xs quote false h = line_value b xs (b == 10) (b == 13) refl refl (no_backslash q b h)

-- A printed byte stands for itself.
byte_value : (q b : ℕ) (xs : List ℕ) → IsOneQuote q → text_value (text_of_byte q b ++ xs) ≡ b ∷ text_value xs
byte_value q b xs quote = escape_value q b xs quote ((b == 92) || (b == q)) refl

bytes_value : (q : ℕ) (bytes : List ℕ) → IsOneQuote q → text_value (text_of_bytes q bytes) ≡ bytes
bytes_value q [] quote = refl
bytes_value q (b ∷ bs) quote = byte_value q b (text_of_bytes q bs) quote ∙ ap (λ xs. b ∷ xs) (bytes_value q bs quote)

-- The quote that is chosen is one of the two.
pub quote_is : (b : Bool) → IsOneQuote (if b then 34 else 39)
quote_is true = inl refl
quote_is false = inr refl

-- What stands between the quotes.
pub between_quotes : (q : ℕ) (xs : List ℕ) → take (length (q ∷ (xs ++ q ∷ [])) - 2) (drop 1 (q ∷ (xs ++ q ∷ []))) ≡ xs
between_quotes q xs =
    let n : length (q ∷ (xs ++ q ∷ [])) - 2 ≡ length xs = omega (arith, length-append xs (q ∷ [])) in
    ap (λ k. take k (xs ++ q ∷ [])) n ∙ take-append_seam xs (q ∷ [])

pub quoted_value : (bytes : List ℕ) → bytes ≡ text_value (take (length (quoted_in (quote_of bytes) bytes) - 2) (drop 1 (quoted_in (quote_of bytes) bytes)))
quoted_value bytes = sym (ap text_value (between_quotes (quote_of bytes) (text_of_bytes (quote_of bytes) bytes)) ∙ bytes_value (quote_of bytes) bytes (quote_is _))

pub takes_text : (at : List Bare → ℕ) (bytes : List ℕ) (d : ℕ) (bs : List Bare)
    → TakesText (at (bare_text bytes d ∷ bs)) bytes d (placed at (bare_text bytes d ∷ bs)) (placed at bs)
takes_text at bytes d bs = record {
  takes = record { token = lexeme_at at (bare_text bytes d) bs; first = refl; kind_is = refl; inside_is = refl };
  at_is = refl;
  bytes_is = quoted_value bytes;
}
