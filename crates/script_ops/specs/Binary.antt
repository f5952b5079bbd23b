-- The operators between two values.
use Rattle.std.specs.Prelude.{ℕ, ◌++◌, ◌+ℤ◌, int_lt, int_le, Bool, true, false, not, ◌||◌, if◌then◌else◌, List, Option, Some, Result, Ok, Err}
use Rattle.do_value.specs.declared.operator.BinOp.{BinOp}
use Rattle.do_value.specs.declared.operator.BinOp.TheVariants.{Add, Sub, Mul, Div, Rem, Less, LessEq, Greater, GreaterEq, Same, Differs}
use Rattle.do_value.specs.Tree.{Tree, boolean, number, text}
use Rattle.script_ops.specs.Errors.{wrong_type, within_limits}
use Rattle.script_ops.specs.Numbers.{in_range, on_numbers, difference, product, quotient, remainder, compared}
use Rattle.script_ops.specs.Same.{same}
use Rattle.script_ops.specs.Texts.{printed}

abbrev pub is_text : Tree → Bool
is_text (text bytes) = true
is_text _ = false

-- The texts of two values, joined.
abbrev pub joined : Option (List ℕ) → Option (List ℕ) → Result Tree Tree
joined (Some x) (Some y) = within_limits (text (x ++ y))
joined _ _ = Err wrong_type

-- JavaScript's `+`: the sum of two numbers, or the joined texts of two values of which one is a text. Nothing else is
-- added, and lists and records have no text (this project's profile).
abbrev pub sum : Tree → Tree → Result Tree Tree
sum (number a) (number b) = in_range (a +ℤ b)
sum a b = if is_text a || is_text b then joined (printed a) (printed b) else Err wrong_type

-- The value of the operator, or what it throws.
unfoldable pub binary : BinOp → Tree → Tree → Result Tree Tree
binary Add a b = sum a b
binary Sub a b = on_numbers difference a b
binary Mul a b = on_numbers product a b
binary Div a b = on_numbers quotient a b
binary Rem a b = on_numbers remainder a b
binary Less a b = on_numbers (compared int_lt) a b
binary LessEq a b = on_numbers (compared int_le) a b
binary Greater a b = on_numbers (compared (λ x y. int_lt y x)) a b
binary GreaterEq a b = on_numbers (compared (λ x y. int_le y x)) a b
binary Same a b = Ok (boolean (same a b))
binary Differs a b = Ok (boolean (not (same a b)))
