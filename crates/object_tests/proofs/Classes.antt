-- A class that was found by its name is there.
use Rattle.std.proofs.Common.{◌≡◌, ℕ, List, Option, Some, None, sym}
use Rattle.std.specs.Option.{IfSome}
use Rattle.do_tree.specs.Lookup.{class_named}
use Rattle.do_tree.specs.Tree.{Script}
use Rattle.front_turns.specs.Paused.{HasClass}
use Rattle.front_half.proofs.Fitted.{named}

pub class_there : (script : Script) (name : List ℕ) (found : Option ℕ) → found ≡ class_named script name → IfSome found (HasClass script)
class_there script name None is = tt
class_there script name (Some class) is = named script name class (sym is)
