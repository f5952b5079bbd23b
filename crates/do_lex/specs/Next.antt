-- What comes next in a script: the next token, the script's end, or the first fault (this project's
-- profile of ECMA-262, section 12).
use Rattle.std.specs.Prelude.{◌≡◌, ℕ, ◌+◌, Bool, false, ◌==◌, nat_lt, if◌then◌else◌, List, [], ◌∷◌, length, slice_index, take, drop, Option, Some, None, Result, Ok, Err}
use Rattle.std.specs.Char.{is_ascii_digit}
use Rattle.std.specs.Str.Lossy.{utf8_valid_len}
use Rattle.do_lex.specs.Bytes.{is_blank, is_in_line, is_quote, is_word_start, is_letter_or_digit}
use Rattle.do_lex.specs.Kind.{word_kind, mark_at, mark_text}
use Rattle.do_value.specs.Limits.{most_number}
use Rattle.do_lex.specs.Lexemes.{IsWord, IsNumber, number_value, IsLineComment, EndsAt, IsFirst, IsInside, is_escape}
use Rattle.do_lex.specs.Longest.{IsLongest}
use Rattle.do_lex.specs.declared.kind.Kind.{Kind}
use Rattle.do_lex.specs.declared.kind.Kind.TheVariants as kinds
use Rattle.do_lex.specs.declared.kind.Mark.{Mark}
use Rattle.do_lex.specs.declared.pieces.Span.{Span}
use Rattle.do_lex.specs.declared.pieces.Opening.{Opening}
use Rattle.do_lex.specs.declared.pieces.Opening.TheVariants as opens
use Rattle.do_lex.specs.declared.fault.LexFault.{LexFault}
use Rattle.do_lex.specs.declared.fault.LexFault.TheVariants.{BadChar, OpenText, LongNumber}

-- A token from one place to another, or none where the script has ended; or a fault.
abbrev pub Answer : Type 0
Answer = Result (Option Span) LexFault

-- The token of this kind that begins at a place and has n bytes.
abbrev pub token : Kind → ℕ → ℕ → Answer
token kind at n = Ok (Some (record { kind = kind; at = at; end = at + n }))

-- The first of the bytes passes the test.
abbrev pub begins : (ℕ → Bool) → List ℕ → Bool
begins test [] = false
begins test (b ∷ _) = test b

-- What a slash and these bytes begin: a comment, or a mark.
abbrev pub after_slash : List ℕ → Opening
after_slash bytes =
    if begins (λ b. b == 47) bytes then opens.LineComment
    else (if begins (λ b. b == 42) bytes then opens.BlockComment
    else opens.Other)

-- What begins with the bytes is told by the first of them, and at a slash by the second.
abbrev pub opening_of : List ℕ → Opening
opening_of [] = opens.End
opening_of (b ∷ bs) =
    if is_blank b then opens.Blank
    else (if is_quote b then opens.Quote
    else (if is_ascii_digit b then opens.Digit
    else (if is_word_start b then opens.Letter
    else (if b == 47 then after_slash bs
    else opens.Other))))

-- The first n of the bytes are one separator: a blank, a comment to the end of its line, or one to the
-- first */ after its /*.
abbrev pub IsSeparatorBy : Opening → List ℕ → ℕ → Type 0
IsSeparatorBy opens.Blank bytes n = n ≡ 1
IsSeparatorBy opens.LineComment bytes n = IsLongest IsLineComment bytes n
IsSeparatorBy opens.BlockComment bytes n = (i : ℕ) × IsFirst (EndsAt (drop 2 bytes)) i × (n ≡ i + 4)
IsSeparatorBy _ bytes n = ⊥

abbrev pub IsSeparator : List ℕ → ℕ → Type 0
IsSeparator bytes n = IsSeparatorBy (opening_of bytes) bytes n

-- No separator begins the bytes, though a block comment without an end may.
abbrev pub NoSeparatorBy : Opening → List ℕ → Type 0
NoSeparatorBy opens.Blank bytes = ⊥
NoSeparatorBy opens.LineComment bytes = ⊥
NoSeparatorBy opens.BlockComment bytes = (i : ℕ) → ¬ EndsAt (drop 2 bytes) i
NoSeparatorBy _ bytes = Unit {0}

abbrev pub NoSeparator : List ℕ → Type 0
NoSeparator bytes = NoSeparatorBy (opening_of bytes) bytes

-- A word, as long as can be, is a token: a keyword's, where it is one.
pub record IsWordAnswer (bytes : List ℕ) (at : ℕ) (answer : Answer) : Type 0 where
  pub n : ℕ
  pub longest : IsLongest IsWord bytes n
  pub answer_is : answer ≡ token (word_kind (take n bytes)) at n

-- A number is a token. One past the greatest is a fault, and a letter or a digit that follows it at once
-- is one.
abbrev pub number_answer : List ℕ → ℕ → ℕ → Answer
number_answer bytes at n =
    if nat_lt most_number (number_value (take n bytes)) then Err (LongNumber at)
    else (if begins is_letter_or_digit (drop n bytes) then Err (BadChar (at + n))
    else token kinds.Number at n)

-- A number, as long as can be.
pub record IsNumberAnswer (bytes : List ℕ) (at : ℕ) (answer : Answer) : Type 0 where
  pub n : ℕ
  pub longest : IsLongest IsNumber bytes n
  pub answer_is : answer ≡ number_answer bytes at n

-- A text is a token where its inside, of n bytes, has its quote behind it, else it is open. Its first
-- escape that is none of the six, behind so many good bytes, is a fault.
abbrev pub text_answer : ℕ → List ℕ → ℕ → ℕ → ℕ → Answer
text_answer quote inside at n good =
    if begins (λ b. b == quote) (drop n inside)
    then (if begins (λ b. b == quote) (drop good inside) then token kinds.Text at (good + 2)
    else Err (BadChar (at + 1 + good)))
    else Err (OpenText at)

-- Behind the quote at the front a text has plain bytes and escapes, as many as can be.
pub record IsTextAnswer (quote : ℕ) (inside : List ℕ) (at : ℕ) (answer : Answer) : Type 0 where
  pub n : ℕ
  pub longest : IsLongest (IsInside quote is_in_line) inside n
  pub good : ℕ
  pub longest_good : IsLongest (IsInside quote is_escape) inside good
  pub answer_is : answer ≡ text_answer quote inside at n good

-- A mark, the longest that can be, is a token, and what begins nothing at all is a fault.
abbrev pub mark_answer : Option Mark → ℕ → Answer
mark_answer (Some m) at = token (kinds.Mark m) at (length (mark_text m))
mark_answer None at = Err (BadChar at)

-- What the bytes from a place on give, where no separator comes first.
abbrev pub StandsBy : Opening → List ℕ → ℕ → Answer → Type 0
StandsBy opens.End bytes at answer = answer ≡ Ok None
StandsBy opens.Blank bytes at answer = ⊥
StandsBy opens.LineComment bytes at answer = ⊥
StandsBy opens.BlockComment bytes at answer = ((i : ℕ) → ¬ EndsAt (drop 2 bytes) i) × (answer ≡ Err (OpenText at))
StandsBy opens.Quote bytes at answer = IsTextAnswer (slice_index bytes 0) (drop 1 bytes) at answer
StandsBy opens.Digit bytes at answer = IsNumberAnswer bytes at answer
StandsBy opens.Letter bytes at answer = IsWordAnswer bytes at answer
StandsBy opens.Other bytes at answer = answer ≡ mark_answer (mark_at bytes) at

abbrev pub Stands : List ℕ → ℕ → Answer → Type 0
Stands bytes at answer = StandsBy (opening_of bytes) bytes at answer

-- What the bytes from a place on give, after the separators that come first.
pub data Gives : List ℕ → ℕ → Answer → Type 0 where
  skip : {bytes : List ℕ} {at : ℕ} {answer : Answer} (n : ℕ) → IsSeparator bytes n → Gives (drop n bytes) (at + n) answer → Gives bytes at answer
  here : {bytes : List ℕ} {at : ℕ} {answer : Answer} → Stands bytes at answer → Gives bytes at answer

-- How far one has to read for an answer in a script of that many bytes: through a token, to a fault, to
-- the script's end.
abbrev pub reach : ℕ → Answer → ℕ
reach len (Ok (Some span)) = span.end
reach len (Ok None) = len
reach len (Err (BadChar at)) = at
reach len (Err (OpenText at)) = at
reach len (Err (LongNumber at)) = at

-- The first byte that begins no well-formed UTF-8 sequence is a fault, wherever it stands.
abbrev pub unless_malformed : List ℕ → Answer → Answer
unless_malformed text answer =
    if nat_lt (utf8_valid_len text) (reach (length text) answer) then Err (BadChar (utf8_valid_len text))
    else answer

-- What a script gives from a place on.
pub record IsNext (text : List ℕ) (at : ℕ) (answer : Answer) : Type 0 where
  pub given : Answer
  pub gives : Gives (drop at text) at given
  pub answer_is : answer ≡ unless_malformed text given
