-- The arithmetic of whole numbers.
use Rattle.std.specs.Prelude.{pos, ℤ, ◌-ℤ◌, ◌*ℤ◌, int_div, int_rem, Bool, if◌then◌else◌, Option, Some, None, Result, Ok, Err}
use Rattle.std.specs.Ordering.{int_eq}
use Rattle.do_value.specs.Reading.{is_safe}
use Rattle.do_value.specs.Tree.{Tree, boolean, number}
use Rattle.script_ops.specs.Errors.{wrong_type, no_number, not_whole}

-- The number where it is in the range (this project's profile).
abbrev pub in_range : ℤ → Result Tree Tree
in_range z = if is_safe z then Ok (number z) else Err no_number

-- The numbers, where both values are.
abbrev pub numbers : Tree → Tree → Option (ℤ × ℤ)
numbers (number a) (number b) = Some (a, b)
numbers _ _ = None

-- What an operator answers that takes two numbers.
abbrev pub on_numbers : (ℤ → ℤ → Result Tree Tree) → Tree → Tree → Result Tree Tree
on_numbers f (number a) (number b) = f a b
on_numbers f _ _ = Err wrong_type

-- JavaScript's `-` and `*`, within the range.
abbrev pub difference : ℤ → ℤ → Result Tree Tree
difference a b = in_range (a -ℤ b)

abbrev pub product : ℤ → ℤ → Result Tree Tree
product a b = in_range (a *ℤ b)

-- JavaScript's `/`, where the quotient is whole. There is one zero (this project's profile).
abbrev pub quotient : ℤ → ℤ → Result Tree Tree
quotient a b =
    if int_eq b (pos 0) then Err not_whole
    else (if int_eq (int_rem a b) (pos 0) then in_range (int_div a b) else Err not_whole)

-- JavaScript's `%`, which has the sign of the dividend, by another number than 0 (this project's profile).
abbrev pub remainder : ℤ → ℤ → Result Tree Tree
remainder a b = if int_eq b (pos 0) then Err not_whole else in_range (int_rem a b)

-- The orders of numbers.
abbrev pub compared : (ℤ → ℤ → Bool) → ℤ → ℤ → Result Tree Tree
compared test a b = Ok (boolean (test a b))
