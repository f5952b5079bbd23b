-- The decimal digits of a number, in two words.
use Rattle.std.proofs.Common.{◌≡◌, ◌<◌, ◌^◌, ℕ, ℤ, zero, suc, pos, negsuc, true, [], ◌∷◌, refl, ap, arith, rules}
use Rattle.std.specs.Fmt.{decimal, signed_decimal}
use Rattle.std.specs.Int.Signed.{mag}
use Rattle.std.specs.Char.{is_ascii_digit}
use Rattle.std.specs.List.{list_all}
use Rattle.std.specs.Str.Parse.{digits_value}
use Rattle.std.proofs.lemmas.Fmt.{decimal-digits_of, decimal-digits_value}
use Rattle.std.proofs.lemmas.Str.Parse.{IsNumeralModel, numerals_by_value}
use Rattle.do_tree.specs.Print.{digits_text, number_text}

-- digits in the words of `decimal`
pub own : IsNumeralModel (λ ds. list_all is_ascii_digit ds ≡ true) (digits_value 10)
own = numerals_by_value (λ ds. list_all is_ascii_digit ds ≡ true) (search rules)

pub digits_are : (n : ℕ) → n < 2 ^ 64 → decimal n ≡ digits_text n
digits_are zero h = decimal-digits_value own (48 ∷ []) refl (omega arith) (λ _. refl) (omega arith)
digits_are (suc n) h = decimal-digits_of (suc n) (omega arith) h

pub number_is : (z : ℤ) → mag z < 2 ^ 63 → signed_decimal z ≡ number_text z
number_is (pos n) h = digits_are n (omega arith)
number_is (negsuc n) h = ap (λ ds. 45 ∷ ds) (digits_are (suc n) (omega arith))
