-- Which lists of bytes are a word, a number, the inside of a text, a comment (this project's profile of
-- ECMA-262, section 12).
use Rattle.std.specs.Prelude.{if◌then◌else◌, ◌≡◌, ℕ, ◌+◌, ◌<◌, Bool, true, false, ◌==◌, ◌||◌, List, [], ◌∷◌, IsTrue, slice_index, length, ◌⊎◌}
use Rattle.std.specs.Char.{is_ascii_digit}
use Rattle.std.specs.List.{list_all}
use Rattle.std.specs.Str.Parse.{digits_value}
use Rattle.do_lex.specs.declared.inside.Escapes.{Escapes}
use Rattle.do_lex.specs.declared.inside.Escapes.TheVariants as escapes
use Rattle.do_lex.specs.Bytes.{is_line_end, is_in_line, is_word_start, is_word_byte}

-- A word: letters, digits, _ and $, and no digit first.
abbrev pub IsWord : List ℕ → Type 0
IsWord [] = ⊥
IsWord (b ∷ bs) = IsTrue (is_word_start b) × IsTrue (list_all is_word_byte bs)

-- A number: decimal digits, and no zero first, but for 0 itself.
abbrev pub IsNumber : List ℕ → Type 0
IsNumber [] = ⊥
IsNumber (b ∷ bs) = IsTrue (is_ascii_digit b) × IsTrue (list_all is_ascii_digit bs) × (b ≡ 48 → bs ≡ [])

-- What a number's digits stand for.
abbrev pub number_value : List ℕ → ℕ
number_value digits = digits_value 10 digits

-- A line comment: everything from its two slashes to the end of the line.
abbrev pub IsLineComment : List ℕ → Type 0
IsLineComment bytes = IsTrue (list_all is_in_line bytes)

-- The end of a block comment, */, stands at this place.
abbrev pub EndsAt : List ℕ → ℕ → Type 0
EndsAt bytes i = (slice_index bytes i ≡ 42) × (slice_index bytes (i + 1) ≡ 47)

-- The first place at which P holds.
pub record IsFirst (P : ℕ → Type 0) (n : ℕ) : Type 0 where
  pub holds : P n
  pub first : (i : ℕ) → i < n → ¬ P i

-- A byte that stands for itself in a text between these quotes.
pub record IsPlain (quote b : ℕ) : Type 0 where
  pub no_quote : (b == quote) ≡ false
  pub no_backslash : (b == 92) ≡ false
  pub no_line_end : is_line_end b ≡ false

-- The bytes between a text's quotes: plain ones, and escapes, of which each is a backslash and one of
-- the characters that may follow it.
pub data IsInside (quote : ℕ) (escapes : ℕ → Bool) : List ℕ → Type 0 where
  none : IsInside quote escapes []
  plain : {b : ℕ} {bs : List ℕ} → IsPlain quote b → IsInside quote escapes bs → IsInside quote escapes (b ∷ bs)
  escape : {b e : ℕ} {bs : List ℕ} → b ≡ 92 → escapes e ≡ true → IsInside quote escapes bs → IsInside quote escapes (b ∷ e ∷ bs)

-- The escapes are \\ \" \' \n \r \t.
abbrev pub is_escape : ℕ → Bool
is_escape e = (e == 92) || (e == 34) || (e == 39) || (e == 110) || (e == 114) || (e == 116)

-- What an escape's second byte stands for: n, r and t for LF, CR and tab, each other for itself.
abbrev pub escaped : ℕ → ℕ
escaped e = if e == 110 then 10 else (if e == 114 then 13 else (if e == 116 then 9 else e))

-- What the bytes between a text's quotes stand for.
abbrev pub text_value : List ℕ → List ℕ
text_value [] = []
text_value (b ∷ []) = b ∷ []
text_value (b ∷ e ∷ bs) = if b == 92 then escaped e ∷ text_value bs else b ∷ text_value (e ∷ bs)

abbrev pub escapes_of : Escapes → ℕ → Bool
escapes_of escapes.Any = is_in_line
escapes_of escapes.Known = is_escape

-- The first n bytes are a plain one or an escape.
abbrev pub IsUnit : ℕ → (ℕ → Bool) → List ℕ → ℕ → Type 0
IsUnit quote escapes bytes n =
    ((n ≡ 1) × (0 < length bytes) × IsPlain quote (slice_index bytes 0))
    ⊎ ((n ≡ 2) × (1 < length bytes) × (slice_index bytes 0 ≡ 92) × (escapes (slice_index bytes 1) ≡ true))
