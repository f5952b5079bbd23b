-- The numbers of options, in decimal digits.
use Rattle.std.specs.Prelude.{ℕ, ◌==◌, ◌&&◌, ◌||◌, Bool, not, List, length, nat_le, nat_lt, slice_index}
use Rattle.std.specs.Prelude.{Option, Some, None, option_map, if◌then◌else◌}
use Rattle.std.specs.List.{list_all}
use Rattle.std.specs.Borrow.{Bor}
use Rattle.std.specs.Char.{digit_value}
use Rattle.std.specs.Str.Parse.{digits_value}

-- what stands behind a text that may be given
abbrev pub text_of : Option (Bor (List ℕ)) → Option (List ℕ)
text_of = option_map (λ s. s.now)

abbrev pub is_digit : ℕ → Bool
is_digit c = nat_lt (digit_value c) 10

-- one digit or more, with a 0 (48) first only where it stands alone
abbrev pub is_decimal : List ℕ → Bool
is_decimal text = nat_lt 0 (length text) && (list_all is_digit text && (not (slice_index text 0 == 48) || length text == 1))

-- the number that the text is, where it lies in the range
abbrev pub number_within : ℕ → ℕ → List ℕ → Option ℕ
number_within least most text =
    let n = digits_value 10 text in
    if is_decimal text && (nat_le least n && nat_le n most) then Some n else None

-- the same of a word that has to be there, from 0 to the most
abbrev pub number_in : ℕ → Option (List ℕ) → Option ℕ
number_in most None = None
number_in most (Some text) = number_within 0 most text

-- the same of an option that may be given
abbrev pub number_or : ℕ → ℕ → ℕ → Option (List ℕ) → Option ℕ
number_or otherwise least most None = Some otherwise
number_or otherwise least most (Some text) = number_within least most text
