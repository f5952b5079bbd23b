-- What contracts see of a checked script.
use Rattle.std.specs.Prelude.{ℕ, List, [], Option, Some, None, slice_get}
use Rattle.do_tree.specs.Seen.{script_of}
use Rattle.do_tree.specs.Tree.{Script}
use Rattle.do_tree.specs.declared.checked.Checked.{Checked}
use Rattle.do_tree.specs.declared.script.Class.{Class}
use Rattle.do_tree.specs.declared.script.Method.{Method}

-- Its tree.
abbrev pub tree_of : Checked → Script
tree_of c = script_of c.script

-- The methods of a class, none where there is no such class.
abbrev pub methods_of : Option Class → List Method
methods_of None = []
methods_of (Some class) = class.methods.items

abbrev pub methods_in : Checked → ℕ → List Method
methods_in c class = methods_of (slice_get c.script.classes.items class)
