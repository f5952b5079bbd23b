-- The levels of operators, and the operators of each.
use Rattle.std.specs.Prelude.{ℕ, Option, Some, None}
use Rattle.do_value.specs.declared.operator.BinOp.{BinOp}
use Rattle.do_value.specs.declared.operator.BinOp.TheVariants as op
use Rattle.do_lex.specs.declared.kind.Kind.{Kind}
use Rattle.do_lex.specs.declared.kind.Kind.TheVariants as kind
use Rattle.do_lex.specs.declared.kind.Mark.{Mark}
use Rattle.do_lex.specs.declared.kind.Mark.TheVariants as mark
use Rattle.do_tree.specs.Grammar as grammar
use Rattle.do_parse.specs.declared.level.Level.{Level}
use Rattle.do_parse.specs.declared.level.Level.TheVariants.{Equal, Order, Sum, Product}

-- The level as the grammar names it.
abbrev pub level_of : Level → grammar.Level
level_of Equal = grammar.eq
level_of Order = grammar.rel
level_of Sum = grammar.add
level_of Product = grammar.mul

-- How many levels are tighter.
abbrev pub tighter_levels : Level → ℕ
tighter_levels Equal = 3
tighter_levels Order = 2
tighter_levels Sum = 1
tighter_levels Product = 0

-- The operator of this level that a mark is.
abbrev pub operator_of : Level → Mark → Option BinOp
operator_of Equal mark.Same = Some op.Same
operator_of Equal mark.Differs = Some op.Differs
operator_of Order mark.Less = Some op.Less
operator_of Order mark.LessEq = Some op.LessEq
operator_of Order mark.Greater = Some op.Greater
operator_of Order mark.GreaterEq = Some op.GreaterEq
operator_of Sum mark.Plus = Some op.Add
operator_of Sum mark.Minus = Some op.Sub
operator_of Product mark.Star = Some op.Mul
operator_of Product mark.Slash = Some op.Div
operator_of Product mark.Percent = Some op.Rem
operator_of _ _ = None

abbrev pub operator_next : Level → Option Kind → Option BinOp
operator_next l (Some (kind.Mark m)) = operator_of l m
operator_next l _ = None

-- The mark of an operator.
abbrev pub operator_mark : BinOp → Mark
operator_mark op.Same = mark.Same
operator_mark op.Differs = mark.Differs
operator_mark op.Less = mark.Less
operator_mark op.LessEq = mark.LessEq
operator_mark op.Greater = mark.Greater
operator_mark op.GreaterEq = mark.GreaterEq
operator_mark op.Add = mark.Plus
operator_mark op.Sub = mark.Minus
operator_mark op.Mul = mark.Star
operator_mark op.Div = mark.Slash
operator_mark op.Rem = mark.Percent
