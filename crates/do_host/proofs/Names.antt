-- The JSON of the names of classes.
use Rattle.std.proofs.Common.{◌≡◌, List, [], ◌∷◌, map, refl, false}
use Rattle.serde_json.specs.Data.{string}
use Rattle.serde_json.specs.View.{items_of}
use Rattle.serde_json.specs.Written.{has_float, items_have_float}
use Rattle.do_tree.specs.Tree.{Class}
use Rattle.do_host.specs.ScriptLines.{script_json}

names_have_no_float : (classes : List Class) → items_have_float (items_of (map (λ class. string class.name.text) classes)) ≡ false
names_have_no_float [] = refl
names_have_no_float (class ∷ classes) = names_have_no_float classes

-- no number stands in it
pub script_has_no_float : (classes : List Class) → has_float (script_json classes) ≡ false
script_has_no_float classes = rw (names_have_no_float classes) refl
