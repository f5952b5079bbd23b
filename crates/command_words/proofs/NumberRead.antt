-- The reader of numbers.
use Rattle.std.proofs.Common.{◌≡◌, ◌∙◌, ◌<◌, ◌^◌, ◌&&◌, ◌||◌, ◌==◌, ℕ, Bool, cond, true, false, not, refl, sym, ap, subst, arith, List, [], ◌∷◌, length, drop, Option, Some, None, slice_index, nat_le, if◌then◌else◌, lt-ltb, ltb-true, true≢false}
use Rattle.std.specs.List.{list_all}
use Rattle.std.specs.Char.{digit_value}
use Rattle.std.specs.Str.Parse.{AllDigits, IsNumeral, digits_value, without_leading_plus}
use Rattle.command_words.specs.Numbers.{is_digit, is_decimal, number_within}

abbrev pub begins : List ℕ → Bool
begins text = not (slice_index text 0 == 43) && (not (slice_index text 0 == 48) || length text == 1)

pub both : (a b : Bool) → (a && b) ≡ true → (a ≡ true) × (b ≡ true)
both true b e = (refl, e)
both false b e = absurd (true≢false (sym e))

pub not_true : (a : Bool) → not a ≡ true → a ≡ false
not_true true e = absurd (true≢false (sym e))
not_true false e = refl

digits_pass : (ds : List ℕ) → AllDigits 10 ds → list_all is_digit ds ≡ true
digits_pass [] h = refl
digits_pass (d ∷ ds) h = rw (lt-ltb (digit_value d) 10 h.0) (digits_pass ds h.1)

digits_from : (ds : List ℕ) → list_all is_digit ds ≡ true → AllDigits 10 ds
digits_from [] e = tt
digits_from (d ∷ ds) e =
    let parts = both _ _ e in
    (ltb-true _ _ parts.0, digits_from ds parts.1)

-- where no plus stands first, `parse` reads the text itself
text_read : (text : List ℕ) → begins text ≡ true → without_leading_plus text ≡ text
text_read text b = ap (λ (p : Bool). drop (cond p 1 0) text) (not_true _ ((both _ _ b).0))

zero_passes : (text : List ℕ) → begins text ≡ true → (not (slice_index text 0 == 48) || length text == 1) ≡ true
zero_passes text b = (both _ _ b).1

pub number_read : (least most : ℕ) (text : List ℕ) (n : ℕ) → begins text ≡ true
    → (IsNumeral 10 (without_leading_plus text) × (digits_value 10 (without_leading_plus text) < 2 ^ 64)) × (n ≡ digits_value 10 (without_leading_plus text))
    → ◌≡◌ {A = Option ℕ} (if nat_le least n && nat_le n most then Some n else None) (number_within least most text)
number_read least most text n b h =
    let p = subst (λ ds. (IsNumeral 10 ds × (digits_value 10 ds < 2 ^ 64)) × (n ≡ digits_value 10 ds)) (text_read text b) h in
    rw (lt-ltb 0 (length text) p.0.0.0, digits_pass text p.0.0.1, zero_passes text b)
    (ap (λ (m : ℕ). if nat_le least m && nat_le m most then Some m else None) p.1)

-- where the text is no decimal, there is no number
no_decimal : (least most : ℕ) (text : List ℕ) → is_decimal text ≡ false → ◌≡◌ {A = Option ℕ} None (number_within least most text)
no_decimal least most text e = rw e refl

-- a number past 2 ^ 64 lies in no range
past_range : (least most n : ℕ) → most < 2 ^ 64 → (n < 2 ^ 64 → ⊥) → (nat_le least n && nat_le n most) ≡ false
past_range least most n lt past = grind (arith, ltb-true)

decimal_parts : (text : List ℕ) → is_decimal text ≡ true → IsNumeral 10 text × ((not (slice_index text 0 == 48) || length text == 1) ≡ true)
decimal_parts text e =
    let outer = both _ _ e in
    let inner = both _ _ outer.1 in
    ((ltb-true _ _ outer.0, digits_from text inner.0), inner.1)

pub no_number : (least most : ℕ) (text : List ℕ) → begins text ≡ true
    → (IsNumeral 10 (without_leading_plus text) × (digits_value 10 (without_leading_plus text) < 2 ^ 64) → ⊥) → most < 2 ^ 64
    → ◌≡◌ {A = Option ℕ} None (number_within least most text)
no_number least most text b h lt = go (is_decimal text) refl
  where
    read : IsNumeral 10 text × (digits_value 10 text < 2 ^ 64) → ⊥
    read = subst (λ ds. IsNumeral 10 ds × (digits_value 10 ds < 2 ^ 64) → ⊥) (text_read text b) h

    go : (d : Bool) → is_decimal text ≡ d → ◌≡◌ {A = Option ℕ} None (number_within least most text)
    go false is = no_decimal least most text is
    go true is = rw (is, past_range least most (digits_value 10 text) lt (λ small. read ((decimal_parts text is).0, small))) refl

-- a text that doesn't begin so is no decimal
begun : (text : List ℕ) → is_decimal text ≡ true → begins text ≡ false → ⊥
begun [] is b = true≢false (sym is)
begun (c ∷ cs) is b = go (c == 43) refl
  where
    parts : IsNumeral 10 (c ∷ cs) × ((not (c == 48) || length (c ∷ cs) == 1) ≡ true)
    parts = decimal_parts (c ∷ cs) is

    go : (p : Bool) → (c == 43) ≡ p → ⊥
    go false e = true≢false (sym parts.1 ∙ (rw e at b))
    go true e = grind (arith, parts.0.1.0, e)

pub not_begun : (least most : ℕ) (text : List ℕ) → begins text ≡ false → ◌≡◌ {A = Option ℕ} None (number_within least most text)
not_begun least most text b = go (is_decimal text) refl
  where
    go : (d : Bool) → is_decimal text ≡ d → ◌≡◌ {A = Option ℕ} None (number_within least most text)
    go false is = no_decimal least most text is
    go true is = absurd (begun text is b)
