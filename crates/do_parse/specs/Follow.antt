-- Which tokens may stand behind a phrase, by their kinds.
use Rattle.std.specs.Prelude.{Bool, true, false, ◌||◌}
use Rattle.do_lex.specs.declared.kind.Kind.{Kind}
use Rattle.do_lex.specs.declared.kind.Kind.TheVariants as kind
use Rattle.do_lex.specs.declared.kind.Mark.{Mark}
use Rattle.do_lex.specs.declared.kind.Mark.TheVariants as mark
use Rattle.do_tree.specs.Grammar.{Level, eq, rel, add, mul}
use Rattle.do_tree.specs.declared.expr.Chain.{Chain}
use Rattle.do_tree.specs.declared.expr.Chain.TheVariants as chain

-- A kind that is a mark which passes the test.
abbrev pub of_mark : (Mark → Bool) → Kind → Bool
of_mark may (kind.Mark m) = may m
of_mark may _ = false

-- Behind an expression: ; ) ] , : } = += -= ++ --
abbrev pub ends_expr : Mark → Bool
ends_expr mark.Semicolon = true
ends_expr mark.CloseParen = true
ends_expr mark.CloseBracket = true
ends_expr mark.Comma = true
ends_expr mark.Colon = true
ends_expr mark.CloseBrace = true
ends_expr mark.Assign = true
ends_expr mark.AddAssign = true
ends_expr mark.SubAssign = true
ends_expr mark.Increment = true
ends_expr mark.Decrement = true
ends_expr _ = false

-- Behind the test of a choice, a ? too.
abbrev pub ends_short : Mark → Bool
ends_short mark.Question = true
ends_short m = ends_expr m

-- Behind an operand of a chain, the mark of the chain, and behind those of && also that of the chain of || around it.
abbrev pub ends_operand : Chain → Mark → Bool
ends_operand chain.Coalesce mark.Coalesce = true
ends_operand chain.Coalesce m = ends_short m
ends_operand chain.And mark.And = true
ends_operand chain.And mark.Or = true
ends_operand chain.And m = ends_short m
ends_operand chain.Or mark.Or = true
ends_operand chain.Or m = ends_short m

-- The marks of each level's operators.
abbrev pub is_operator : Level → Mark → Bool
is_operator eq mark.Same = true
is_operator eq mark.Differs = true
is_operator rel mark.Less = true
is_operator rel mark.LessEq = true
is_operator rel mark.Greater = true
is_operator rel mark.GreaterEq = true
is_operator add mark.Plus = true
is_operator add mark.Minus = true
is_operator mul mark.Star = true
is_operator mul mark.Slash = true
is_operator mul mark.Percent = true
is_operator _ _ = false

-- Behind the operators of a level: the marks of chains, and those of the looser levels.
abbrev pub ends_chained : Mark → Bool
ends_chained mark.Coalesce = true
ends_chained mark.And = true
ends_chained mark.Or = true
ends_chained m = ends_short m

abbrev pub ends_strict : Level → Mark → Bool
ends_strict eq m = ends_chained m
ends_strict rel m = is_operator eq m || ends_chained m
ends_strict add m = is_operator rel m || (is_operator eq m || ends_chained m)
ends_strict mul m = is_operator add m || (is_operator rel m || (is_operator eq m || ends_chained m))

abbrev pub ends_tighter : Level → Mark → Bool
ends_tighter l m = is_operator l m || ends_strict l m

-- Behind a value and what belongs to it: any operator.
abbrev pub ends_un : Mark → Bool
ends_un m = ends_tighter mul m

-- Behind a value, also the steps of a path.
abbrev pub ends_prim : Mark → Bool
ends_prim mark.Dot = true
ends_prim mark.OpenBracket = true
ends_prim mark.OpenParen = true
ends_prim m = ends_un m

-- Behind what may be missing, ; or )
abbrev pub ends_option : Mark → Bool
ends_option mark.Semicolon = true
ends_option mark.CloseParen = true
ends_option _ = false

-- Behind an element of a list, a comma or the mark that closes the list.
abbrev pub ends_element : Mark → Mark → Bool
ends_element close mark.Comma = true
ends_element mark.CloseParen mark.CloseParen = true
ends_element mark.CloseBracket mark.CloseBracket = true
ends_element mark.CloseBrace mark.CloseBrace = true
ends_element _ _ = false

abbrev pub behind_expr : Kind → Bool
behind_expr = of_mark ends_expr

abbrev pub behind_short : Kind → Bool
behind_short = of_mark ends_short

abbrev pub behind_operand : Chain → Kind → Bool
behind_operand c = of_mark (ends_operand c)

abbrev pub behind_strict : Level → Kind → Bool
behind_strict l = of_mark (ends_strict l)

abbrev pub behind_tighter : Level → Kind → Bool
behind_tighter l = of_mark (ends_tighter l)

abbrev pub behind_un : Kind → Bool
behind_un = of_mark ends_un

abbrev pub behind_prim : Kind → Bool
behind_prim = of_mark ends_prim

abbrev pub behind_option : Kind → Bool
behind_option = of_mark ends_option

abbrev pub behind_element : Mark → Kind → Bool
behind_element close = of_mark (ends_element close)

-- Behind an expression that is run or a write, ; or )
abbrev pub behind_simple : Kind → Bool
behind_simple = behind_option
