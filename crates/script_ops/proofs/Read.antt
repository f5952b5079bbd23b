-- The number that a text writes.
use Rattle.std.proofs.Common.{◌≡◌, ◌≢◌, ℕ, zero, suc, ◌-◌, ◌^◌, ◌<◌, ◌≤◌, true, false, not, ◌&&◌, eqb, ℤ, pos, neg_ℤ, List, drop, length, get_or, Result, Ok, Err, MatchResult, refl, sym, ap, inl, inr, arith}
use Rattle.std.specs.Int.{w64}
use Rattle.std.specs.Str.{all_ascii_digits}
use Rattle.std.specs.Str.Parse.{digits_value, starts_with_minus, ParsesSigned}
use Rattle.std.proofs.lemmas.Bool.{cases_Bool, cases_lt, eqb-true, eqb-false, le-ltb, lt-leb, and_parts}
use Rattle.std.proofs.lemmas.Bool.Decides.{nat_tests}
use Rattle.std.proofs.lemmas.Str.Parse.{IsNumeralModel, numerals_by_value, tells_all_ascii_digits, parse_signed_minus, parse_signed_plain}
use Rattle.do_value.specs.Limits.{most_number}
use Rattle.do_value.specs.Reading.{is_safe}
use Rattle.script_ops.specs.Errors.{no_number}
use Rattle.script_ops.specs.Numbers.{in_range}
use Rattle.script_ops.specs.Texts.{signed_number, number_in}

own : IsNumeralModel (λ ds. all_ascii_digits ds ≡ true) (digits_value 10)
own = numerals_by_value (λ ds. all_ascii_digits ds ≡ true) tells_all_ascii_digits

-- digits write their number
digits_ok : (sign : ℤ → ℤ) (ds : List ℕ) → all_ascii_digits ds ≡ true → 0 < length ds → signed_number sign ds ≡ in_range (sign (pos (digits_value 10 ds)))
digits_ok sign ds all some = let no_zero : eqb (length ds) 0 ≡ false = grind (arith, nat_tests) in rw (no_zero, all) refl

-- what isn't digits, or is too large, writes none
digits_err : (sign : ℤ → ℤ) (most : ℕ) (ds : List ℕ) → ((n : ℕ) → most < n → is_safe (sign (pos n)) ≡ false)
    → ¬ ((all_ascii_digits ds ≡ true) × (0 < length ds) × (digits_value 10 ds ≤ most)) → signed_number sign ds ≡ Err no_number
digits_err sign most ds past refuted = elim (cases_Bool (not (eqb (length ds) 0) && all_ascii_digits ds)) [
  | inl passed ↦
      let both = and_parts (not (eqb (length ds) 0)) (all_ascii_digits ds) passed in
      let some : 0 < length ds = grind (arith, nat_tests, both.0) in
      elim (cases_lt most (digits_value 10 ds)) [
        | inl large ↦ let unsafe = past (digits_value 10 ds) large in rw (passed, unsafe) refl
        | inr small ↦ absurd (refuted (both.1, some, small))
      ]
  | inr other ↦ rw other refl
]

past_pos : (n : ℕ) → 2 ^ 63 - 1 < n → is_safe (pos n) ≡ false
past_pos n lt = lt-leb n most_number (omega arith)

past_neg : (n : ℕ) → 2 ^ 63 < n → is_safe (neg_ℤ (pos n)) ≡ false
past_neg zero lt = absurd (omega arith)
past_neg (suc n) lt = le-ltb n most_number (omega arith)

-- what `parse` reads of a text that doesn't begin with a plus
pub reads : {E : Type 0} (bs : List ℕ) (r : Result ℤ E) → ParsesSigned w64 10 bs r → get_or bs 0 0 ≢ 43
    → MatchResult r (λ z. number_in bs ≡ in_range z) (λ e. number_in bs ≡ Err no_number)
reads {E} bs (Ok z) h plus = elim (cases_Bool (starts_with_minus bs)) [
  | inl minus ↦
      let read = parse_signed_minus own {E = E} w64 bs (Ok z) h (eqb-true _ _ minus) in
      rw (minus, digits_ok neg_ℤ (drop 1 bs) read.0.0 read.0.1) (ap in_range (sym read.1))
  | inr plain ↦
      let read = parse_signed_plain own {E = E} w64 bs (Ok z) h plus (eqb-false _ _ plain) in
      rw (plain, digits_ok (λ z. z) bs read.0.0 read.0.1) (ap in_range (sym read.1))
]
reads {E} bs (Err e) h plus = elim (cases_Bool (starts_with_minus bs)) [
  | inl minus ↦
      let read = parse_signed_minus own {E = E} w64 bs (Err e) h (eqb-true _ _ minus) in
      rw (minus) (digits_err neg_ℤ (2 ^ 63) (drop 1 bs) past_neg read)
  | inr plain ↦
      let read = parse_signed_plain own {E = E} w64 bs (Err e) h plus (eqb-false _ _ plain) in
      rw (plain) (digits_err (λ z. z) (2 ^ 63 - 1) bs past_pos (λ k. read (k.0, k.1, omega (arith, k.2))))
]
