-- The operators before one value.
use Rattle.std.specs.Prelude.{neg_ℤ, not, Result, Ok, Err}
use Rattle.do_value.specs.declared.operator.UnOp.{UnOp}
use Rattle.do_value.specs.declared.operator.UnOp.TheVariants.{Neg, Not}
use Rattle.do_value.specs.Tree.{Tree, boolean, number}
use Rattle.script_ops.specs.Errors.{wrong_type}
use Rattle.script_ops.specs.Truth.{is_true}

-- JavaScript's `-` of a number. The range is symmetrical.
abbrev pub negated : Tree → Result Tree Tree
negated (number z) = Ok (number (neg_ℤ z))
negated _ = Err wrong_type

-- The value of the operator, or what it throws.
unfoldable pub unary : UnOp → Tree → Result Tree Tree
unary Neg t = negated t
unary Not t = Ok (boolean (not (is_true t)))
