-- Texts between quotes, as they are printed: their insides, their lengths, their encoding.
use Rattle.std.proofs.Common.{if◌then◌else◌, ◌==◌, ◌||◌, ◌≡◌, ◌+◌, ◌≤◌, ℕ, Bool, true, false, List, [], ◌∷◌, ◌++◌, length, ◌⊎◌, inl, inr, refl, sym, ◌∙◌, ap, subst, arith, eqb-true}
use Rattle.std.specs.Prelude.{nat_le}
use Rattle.std.proofs.lemmas.Bool.{false≢true}
use Rattle.std.proofs.lemmas.Bool.Decides.{nat_tests}
use Rattle.std.proofs.lemmas.List.{length-append}
use Rattle.std.proofs.lemmas.List.Sums.{sum_by-cons}
use Rattle.do_lex.specs.Bytes.{is_line_end}
use Rattle.do_lex.specs.Lexemes.{IsInside, IsPlain, escaped, is_escape, text_value}
use Rattle.do_lex.specs.Lexemes.IsInside.{none, plain, escape}
use Rattle.do_tree.specs.Print.{count_of, quote_of, text_of_byte, text_of_bytes}
use Rattle.do_tree.proofs.Spelled.{IsOneQuote, value_plain}

-- A byte by what it is: a backslash or the quote, LF, CR, or one that stands for itself.
pub data Byte (q b : ℕ) : Type 0 where
  slashed : text_of_byte q b ≡ 92 ∷ b ∷ [] → ((b == 92) || (b == q)) ≡ true → Byte q b
  lf : text_of_byte q b ≡ 92 ∷ 110 ∷ [] → b ≡ 10 → Byte q b
  cr : text_of_byte q b ≡ 92 ∷ 114 ∷ [] → b ≡ 13 → Byte q b
  itself : text_of_byte q b ≡ b ∷ [] → IsPlain q b → Byte q b

slash_escape : (q b : ℕ) → IsOneQuote q → ((b == 92) || (b == q)) ≡ true → is_escape b ≡ true
slash_escape q b (inl e) h = grind (arith, nat_tests)
slash_escape q b (inr e) h = grind (arith, nat_tests)

plain_parts : (q b : ℕ) → ((b == 92) || (b == q)) ≡ false → (b == 10) ≡ false → (b == 13) ≡ false → IsPlain q b
plain_parts q b h e f = by (b == 92) (b == q) refl refl h
  where
    by : (c d : Bool) → (b == 92) ≡ c → (b == q) ≡ d → (c || d) ≡ false → IsPlain q b
    by true d x y h = absurd (false≢true (sym h))
    by false true x y h = absurd (false≢true (sym h))
    by false false x y h = record { no_quote = y; no_backslash = x; no_line_end = grind (arith, nat_tests) }

pub byte_is : (q b : ℕ) → Byte q b
byte_is q b = by ((b == 92) || (b == q)) (b == 10) (b == 13) refl refl refl
  where
    by : (c d e : Bool) → ((b == 92) || (b == q)) ≡ c → (b == 10) ≡ d → (b == 13) ≡ e → Byte q b
    by true d e x y z = slashed (ap (λ t. if t then 92 ∷ b ∷ [] else (if b == 10 then 92 ∷ 110 ∷ [] else (if b == 13 then 92 ∷ 114 ∷ [] else b ∷ []))) x) x
    by false true e x y z = lf (λ i. if x i then 92 ∷ b ∷ [] else (if y i then 92 ∷ 110 ∷ [] else (if b == 13 then 92 ∷ 114 ∷ [] else b ∷ []))) (eqb-true b 10 y)
    by false false true x y z = cr (λ i. if x i then 92 ∷ b ∷ [] else (if y i then 92 ∷ 110 ∷ [] else (if z i then 92 ∷ 114 ∷ [] else b ∷ []))) (eqb-true b 13 z)
    by false false false x y z = itself (λ i. if x i then 92 ∷ b ∷ [] else (if y i then 92 ∷ 110 ∷ [] else (if z i then 92 ∷ 114 ∷ [] else b ∷ []))) (plain_parts q b x y z)

-- What is printed is the inside of a text.
inside_byte : (q b : ℕ) (xs : List ℕ) → IsOneQuote q → Byte q b → IsInside q is_escape xs → IsInside q is_escape (text_of_byte q b ++ xs)
inside_byte q b xs quote (slashed e g) x = subst (λ ys. IsInside q is_escape (ys ++ xs)) (sym e) (escape refl (slash_escape q b quote g) x)
inside_byte q b xs quote (lf e g) x = subst (λ ys. IsInside q is_escape (ys ++ xs)) (sym e) (escape refl refl x)
inside_byte q b xs quote (cr e g) x = subst (λ ys. IsInside q is_escape (ys ++ xs)) (sym e) (escape refl refl x)
inside_byte q b xs quote (itself e p) x = subst (λ ys. IsInside q is_escape (ys ++ xs)) (sym e) (plain p x)

pub inside_printed : (q : ℕ) (bytes : List ℕ) → IsOneQuote q → IsInside q is_escape (text_of_bytes q bytes)
inside_printed q [] quote = none
inside_printed q (b ∷ bs) quote = inside_byte q b (text_of_bytes q bs) quote (byte_is q b) (inside_printed q bs quote)

-- Between its own quotes a text is printed no longer than it was.
byte_size : (q b : ℕ) → Byte q b → length (text_of_byte q b) ≤ 2
byte_size q b (slashed e g) = omega (arith, ap length e)
byte_size q b (lf e g) = omega (arith, ap length e)
byte_size q b (cr e g) = omega (arith, ap length e)
byte_size q b (itself e p) = omega (arith, ap length e)

plain_size : (q b : ℕ) → IsPlain q b → Byte q b → length (text_of_byte q b) ≡ 1
plain_size q b p (slashed e g) = absurd (false≢true ((λ i. sym p.no_backslash i || sym p.no_quote i) ∙ g))
plain_size q b p (lf e g) = absurd (false≢true (sym p.no_line_end ∙ ap is_line_end g))
plain_size q b p (cr e g) = absurd (false≢true (sym p.no_line_end ∙ ap is_line_end g))
plain_size q b p (itself e i) = omega (arith, ap length e)

pub length_printed : (q : ℕ) {inside : List ℕ} → IsInside q is_escape inside → length (text_of_bytes q (text_value inside)) ≤ length inside
length_printed q none = omega arith
length_printed q (plain {b} {bs} p x) =
    let value : text_value (b ∷ bs) ≡ b ∷ text_value bs = value_plain b bs p.no_backslash in
    let size = plain_size q b p (byte_is q b) in
    let rest = length_printed q x in
    omega (arith, ap (λ xs. length (text_of_bytes q xs)) value, length-append (text_of_byte q b) (text_of_bytes q (text_value bs)), size, rest)
length_printed q (escape {b} {e} {bs} s g x) =
    let value : text_value (b ∷ e ∷ bs) ≡ escaped e ∷ text_value bs = ap (λ c. text_value (c ∷ e ∷ bs)) s in
    let size = byte_size q (escaped e) (byte_is q (escaped e)) in
    let rest = length_printed q x in
    omega (arith, ap (λ xs. length (text_of_bytes q xs)) value, length-append (text_of_byte q (escaped e)) (text_of_bytes q (text_value bs)), size, rest)

-- Between the quote that it has fewer of a text is no longer than between the other.
abbrev base : ℕ → ℕ
base b = if b == 92 then 2 else (if b == 10 then 2 else (if b == 13 then 2 else 1))

abbrev bases : List ℕ → ℕ
bases [] = 0
bases (b ∷ bs) = base b + bases bs

other_quote : (q b : ℕ) → IsOneQuote q → b ≡ q → (b ≡ 92) ⊎ ((b ≡ 10) ⊎ (b ≡ 13)) → ⊥
other_quote q b (inl e) same (inl h) = omega arith
other_quote q b (inr e) same (inl h) = omega arith
other_quote q b (inl e) same (inr (inl h)) = omega arith
other_quote q b (inr e) same (inr (inl h)) = omega arith
other_quote q b (inl e) same (inr (inr h)) = omega arith
other_quote q b (inr e) same (inr (inr h)) = omega arith

one_size : (q b : ℕ) → IsOneQuote q → length (text_of_byte q b) ≡ base b + (if b == q then 1 else 0)
one_size q b quote = by (b == 92) (b == q) (b == 10) (b == 13) refl refl refl refl
  where
    by : (c d e f : Bool) → (b == 92) ≡ c → (b == q) ≡ d → (b == 10) ≡ e → (b == 13) ≡ f
        → length (if c || d then 92 ∷ b ∷ [] else (if e then 92 ∷ 110 ∷ [] else (if f then 92 ∷ 114 ∷ [] else b ∷ [])))
        ≡ (if c then 2 else (if e then 2 else (if f then 2 else 1))) + (if d then 1 else 0)
    by true true e f x y z w = absurd (other_quote q b quote (eqb-true b q y) (inl (eqb-true b 92 x)))
    by true false e f x y z w = refl
    by false true true f x y z w = absurd (other_quote q b quote (eqb-true b q y) (inr (inl (eqb-true b 10 z))))
    by false true false true x y z w = absurd (other_quote q b quote (eqb-true b q y) (inr (inr (eqb-true b 13 w))))
    by false true false false x y z w = refl
    by false false true f x y z w = refl
    by false false false true x y z w = refl
    by false false false false x y z w = refl

size_by_count : (q : ℕ) (bytes : List ℕ) → IsOneQuote q → length (text_of_bytes q bytes) ≡ bases bytes + count_of q bytes
size_by_count q [] quote = refl
size_by_count q (b ∷ bs) quote =
    let one = one_size q b quote in
    let rest = size_by_count q bs quote in
    let count : count_of q (b ∷ bs) ≡ (if b == q then 1 else 0) + count_of q bs = sum_by-cons (λ c. if c == q then 1 else 0) b bs in
    omega (arith, length-append (text_of_byte q b) (text_of_bytes q bs), one, rest, count)

fewer : (bytes : List ℕ) (c : Bool) → nat_le (count_of 34 bytes) (count_of 39 bytes) ≡ c
    → (count_of (if c then 34 else 39) bytes ≤ count_of 34 bytes) × (count_of (if c then 34 else 39) bytes ≤ count_of 39 bytes)
fewer bytes true h = (omega arith, grind (arith, nat_tests))
fewer bytes false h = (grind (arith, nat_tests), omega arith)

least : (bytes : List ℕ) (q : ℕ) → IsOneQuote q → count_of (quote_of bytes) bytes ≤ count_of q bytes
least bytes q (inl e) = omega (arith, (fewer bytes (nat_le (count_of 34 bytes) (count_of 39 bytes)) refl).0, ap (λ k. count_of k bytes) e)
least bytes q (inr e) = omega (arith, (fewer bytes (nat_le (count_of 34 bytes) (count_of 39 bytes)) refl).1, ap (λ k. count_of k bytes) e)

pub length_quoted : (bytes : List ℕ) (q : ℕ) → IsOneQuote q → IsOneQuote (quote_of bytes) → length (text_of_bytes (quote_of bytes) bytes) ≤ length (text_of_bytes q bytes)
length_quoted bytes q quote own = omega (arith, size_by_count (quote_of bytes) bytes own, size_by_count q bytes quote, least bytes q quote)
