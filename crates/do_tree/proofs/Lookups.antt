-- A look-up in the script's lists is one in its tree.
use Rattle.std.proofs.Common.{◌≡◌, ℕ, zero, suc, Bool, List, [], ◌∷◌, Option, map, refl, sym, ◌∙◌, ap}
use Rattle.std.specs.List.{position}
use Rattle.std.specs.Prelude.{slice_get}
use Rattle.std.specs.Str.{bytes_eq}
use Rattle.do_tree.specs.Tree as tree
use Rattle.do_tree.specs.Checked.{tree_of, methods_of, methods_in}
use Rattle.do_tree.specs.Lookup.{class_named, methods_of_class}
use Rattle.do_tree.specs.Lookup as lookup
use Rattle.do_tree.specs.Seen.{class_of, method_of}
use Rattle.do_tree.specs.declared.checked.Checked.{Checked}
use Rattle.do_tree.specs.declared.script.Class.{Class}
use Rattle.do_tree.proofs.Places.{position-map}

pub class_seen : (c : Checked) (name : List ℕ) → position (λ (class : Class). bytes_eq class.name.text name) c.script.classes.items ≡ class_named (tree_of c) name
class_seen c name = sym (position-map (λ (class : tree.Class). bytes_eq class.name.text name) class_of c.script.classes.items)

-- the methods of a class in the tree
methods_at : (xs : List Class) (i : ℕ) → methods_of_class (slice_get (map class_of xs) i) ≡ map method_of (methods_of (slice_get xs i))
methods_at [] i = refl
methods_at (x ∷ xs) zero = refl
methods_at (x ∷ xs) (suc i) = methods_at xs i

pub method_seen : (p : tree.Method → Bool) (c : Checked) (class : ℕ) → position (λ m. p (method_of m)) (methods_in c class) ≡ position p (lookup.methods_of (tree_of c) class)
method_seen p c class = sym (position-map p method_of (methods_in c class)) ∙ ap (position p) (sym (methods_at c.script.classes.items class))
