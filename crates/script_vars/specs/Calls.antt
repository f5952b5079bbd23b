-- How the parameters of a call are bound, one after another.
use Rattle.std.specs.Prelude.{◌≡◌, ℕ, List, ◌∷◌, reverse}
use Rattle.do_value.specs.Seen.{trees_in}
use Rattle.do_value.specs.declared.value.Value.{Value}
use Rattle.do_tree.specs.Tree.{Named}
use Rattle.do_tree.specs.Seen.{named_of}
use Rattle.do_tree.specs.declared.script.Name.{Name}
use Rattle.script_mean.specs.Meaning.{with_parameters}
use Rattle.script_vars.specs.Seen.{scope_of}
use Rattle.script_vars.specs.declared.bound.Bound.{Bound}

-- Whatever parameters follow, the block of this one and of them is that of them, begun with this one bound. The arguments
-- that are left are kept the next one last.
abbrev pub BindsNext : Name → List Value → List Value → List (List ℕ × Bound) → List (List ℕ × Bound) → Type 0
BindsNext parameter left rest names more =
    (ns : List Named) → with_parameters (named_of parameter ∷ ns) (trees_in (reverse left)) (scope_of names)
    ≡ with_parameters ns (trees_in (reverse rest)) (scope_of more)
