-- Digits, and the number that they stand for.
use Rattle.std.proofs.Common.{◌≡◌, ℕ, zero, suc, ◌<◌, ◌≤◌, true, List, [], ◌∷◌, length, get_or, arith, rules, Err, IsUtf8}
use Rattle.std.specs.Char.{is_ascii_digit}
use Rattle.std.specs.List.{list_all}
use Rattle.std.specs.Str.Parse.{digits_value, ParsesUnsigned}
use Rattle.std.proofs.lemmas.Bool.{and_parts, and_from}
use Rattle.std.proofs.lemmas.Bool.Decides.{nat_tests}
use Rattle.std.proofs.lemmas.Str.{IsUtf8-from_ascii}
use Rattle.std.proofs.lemmas.Str.Parse.{IsNumeralModel, numerals_by_value, parse_digits}
use Rattle.do_value.specs.Limits.{most_number}
use Rattle.do_lex.specs.Lexemes.{IsNumber, number_value}

-- a digit is ASCII
digit_small : (b : ℕ) → is_ascii_digit b ≡ true → b < 128
digit_small b h = grind (arith, nat_tests)

-- the bytes of a number are digits
number_passes : (xs : List ℕ) → IsNumber xs → list_all is_ascii_digit xs ≡ true
number_passes [] h = absurd h
number_passes (b ∷ bs) h = and_from (is_ascii_digit b) (list_all is_ascii_digit bs) h.0 h.1

digits_ascii : (xs : List ℕ) → list_all is_ascii_digit xs ≡ true → (i : ℕ) → get_or xs i 0 < 128
digits_ascii [] h i = omega arith
digits_ascii (x ∷ xs) h zero = digit_small x (and_parts (is_ascii_digit x) (list_all is_ascii_digit xs) h).0
digits_ascii (x ∷ xs) h (suc i) = digits_ascii xs (and_parts (is_ascii_digit x) (list_all is_ascii_digit xs) h).1 i

-- a number is text
pub IsUtf8-number : (xs : List ℕ) → IsNumber xs → IsUtf8 xs
IsUtf8-number xs h = IsUtf8-from_ascii xs (digits_ascii xs (number_passes xs h))

-- digits in the words of `parse`
own : IsNumeralModel (λ ds. list_all is_ascii_digit ds ≡ true) (digits_value 10)
own = numerals_by_value (λ ds. list_all is_ascii_digit ds ≡ true) (search rules)

-- a number has a digit
number_some : (xs : List ℕ) → IsNumber xs → 0 < length xs
number_some [] h = absurd h
number_some (b ∷ bs) h = omega arith

-- a number that `parse` refuses is past the greatest
pub past_greatest : {E : Type 0} (xs : List ℕ) (e : E) → IsNumber xs → ParsesUnsigned {E = E} 64 10 xs (Err e) → number_value xs ≤ most_number → ⊥
past_greatest {E} xs e h parsed small = parse_digits own {E = E} 64 xs (Err e) parsed (number_passes xs h) (number_some xs h, omega arith)
