-- What paths begin with.
use Rattle.std.specs.Prelude.{Option, Some, None}
use Rattle.do_tree.specs.Tree.{Expr, path}

-- The expression that a path begins with.
abbrev pub base_of : Expr → Option Expr
base_of (path at e ls) = Some e
base_of _ = None
