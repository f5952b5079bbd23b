-- Classes of bytes of a script (this project's profile of ECMA-262, section 12).
use Rattle.std.specs.Prelude.{ℕ, Bool, ◌==◌, ◌||◌, not}
use Rattle.std.specs.Char.{is_ascii_digit, is_ascii_alphabetic}

-- Space, tab, CR and LF separate tokens.
abbrev pub is_blank : ℕ → Bool
is_blank b = (b == 32) || (b == 9) || (b == 13) || (b == 10)

-- CR and LF end a line.
abbrev pub is_line_end : ℕ → Bool
is_line_end b = (b == 13) || (b == 10)

-- Anything else stands in a line.
abbrev pub is_in_line : ℕ → Bool
is_in_line b = not (is_line_end b)

-- A text stands in " or in '.
abbrev pub is_quote : ℕ → Bool
is_quote b = (b == 34) || (b == 39)

-- A word has ASCII letters, digits, _ and $, and doesn't begin with a digit.
abbrev pub is_word_start : ℕ → Bool
is_word_start b = is_ascii_alphabetic b || (b == 95) || (b == 36)

abbrev pub is_word_byte : ℕ → Bool
is_word_byte b = is_word_start b || is_ascii_digit b

-- What may not follow a number at once.
abbrev pub is_letter_or_digit : ℕ → Bool
is_letter_or_digit b = is_ascii_alphabetic b || is_ascii_digit b
