-- Texts: how values print, how long texts are, and what stands in them.
use Rattle.std.specs.Prelude.{ℕ, zero, suc, ◌+◌, ◌-◌, pos, ℤ, neg_ℤ, Bool, true, false, not, ◌&&◌, ◌||◌, nat_eq}
use Rattle.std.specs.Prelude.{nat_lt, ◌==◌, if◌then◌else◌, List, [], ◌∷◌, length, drop, codes, Option, Some, None, Result, Err}
use Rattle.std.specs.Fmt.{signed_decimal}
use Rattle.std.specs.List.{starts_with}
use Rattle.std.specs.Str.{all_ascii_digits}
use Rattle.std.specs.Str.Parse.{digits_value, starts_with_minus}
use Rattle.do_value.specs.Tree.{Tree, undefined, null, boolean, number, text, list, rec}
use Rattle.script_ops.specs.Errors.{no_number}
use Rattle.script_ops.specs.Numbers.{in_range}

-- JavaScript's `String(x)`: numbers in decimal, texts as they are. Lists and records have no text (this project's profile).
abbrev pub printed : Tree → Option (List ℕ)
printed undefined = Some (codes "undefined")
printed null = Some (codes "null")
printed (boolean false) = Some (codes "false")
printed (boolean true) = Some (codes "true")
printed (number z) = Some (signed_decimal z)
printed (text bytes) = Some bytes
printed (list ts) = None
printed (rec ps) = None

-- How many units of UTF-16 the character has whose UTF-8 this byte begins: 2 where it has four bytes, else 1. The
-- bytes after the first count nothing (RFC 3629, RFC 2781).
abbrev pub units : ℕ → ℕ
units byte =
    if nat_lt byte 128 then 1
    else (if nat_lt byte 192 then 0
    else (if nat_lt byte 240 then 1 else 2))

-- JavaScript's `length` of a text.
abbrev pub unit_count : List ℕ → ℕ
unit_count [] = 0
unit_count (byte ∷ bytes) = units byte + unit_count bytes

-- The part stands somewhere in the text.
abbrev pub occurs : List ℕ → List ℕ → Bool
occurs part [] = starts_with nat_eq [] part
occurs part (byte ∷ bytes) = starts_with nat_eq (byte ∷ bytes) part || occurs part bytes

-- One byte more at the front of the first piece.
abbrev pub in_front : ℕ → List (List ℕ) → List (List ℕ)
in_front byte [] = (byte ∷ []) ∷ []
in_front byte (piece ∷ pieces) = (byte ∷ piece) ∷ pieces

-- The pieces between the places where the separator stands, found from the left, after so many bytes that are still
-- to be passed over.
abbrev pub pieces_after : ℕ → List ℕ → List ℕ → List (List ℕ)
pieces_after passed separator [] = [] ∷ []
pieces_after zero separator (byte ∷ bytes) =
    if starts_with nat_eq (byte ∷ bytes) separator then [] ∷ pieces_after (length separator - 1) separator bytes
    else in_front byte (pieces_after zero separator bytes)
pieces_after (suc passed) separator (byte ∷ bytes) = pieces_after passed separator bytes

-- JavaScript's `split` of a text by a text that isn't empty.
abbrev pub pieces : List ℕ → List ℕ → List (List ℕ)
pieces separator bytes = pieces_after 0 separator bytes

-- A number of decimal digits, of which there is one or more, with a sign before it.
abbrev pub signed_number : (ℤ → ℤ) → List ℕ → Result Tree Tree
signed_number sign digits = if not (length digits == 0) && all_ascii_digits digits then in_range (sign (pos (digits_value 10 digits))) else Err no_number

-- `Number(t)`: an optional `-` and decimal digits, within the range. Other texts are no numbers (this project's profile).
abbrev pub number_in : List ℕ → Result Tree Tree
number_in bytes = if starts_with_minus bytes then signed_number neg_ℤ (drop 1 bytes) else signed_number (λ z. z) bytes
