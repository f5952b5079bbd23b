-- Classes and methods, looked up by their numbers.
use Rattle.std.proofs.Common.{◌≡◌, ℕ, ◌<◌, Bool, true, false, List, [], ◌∷◌, length, get_or, map, Option, Some, None, refl, sym, ap, ◌∙◌, subst}
use Rattle.std.specs.Prelude.{cond, is_some, option_map, slice_get, ◌||◌}
use Rattle.std.specs.List.{find, list_any}
use Rattle.std.proofs.lemmas.List.{length-map}
use Rattle.std.proofs.lemmas.Option.{slice_get-map, slice_get_read, slice_get_within}
use Rattle.do_tree.specs.Lookup.{is_named}
use Rattle.do_tree.specs.Seen.{class_of, method_of, script_of}
use Rattle.do_tree.specs.Tree as tree
use Rattle.do_tree.specs.declared.script.Class.{Class}
use Rattle.do_tree.specs.declared.script.Method.{Method}
use Rattle.do_tree.specs.declared.script.Script.{Script}
use Rattle.script_eval.specs.Tasks.{HasClass}

-- An item that is seen is there.
seen_inside : {A B : Type 0} (v : A → B) (xs : List A) (n : ℕ) (y : B) → slice_get (map v xs) n ≡ Some y → n < length xs
seen_inside v xs n y e = subst (λ k. n < k) (length-map xs v) (slice_get_within (map v xs) n y e)

-- What is seen of an item that is there.
item_seen : {A B : Type 0} (v : A → B) (xs : List A) (n : ℕ) (x : A) → n < length xs → x ≡ get_or xs n x → slice_get (map v xs) n ≡ Some (v x)
item_seen v xs n x h e = slice_get-map v xs n ∙ ap (option_map v) (slice_get_read xs (length xs) n x refl h e)

pub class_inside : (s : Script) (seen : tree.Script) (n : ℕ) → script_of s ≡ seen → HasClass seen n → n < length s.classes.items
class_inside s seen n is has = seen_inside class_of s.classes.items n has.0 (ap (λ x. slice_get x.classes n) is ∙ has.1)

pub class_seen : (s : Script) (seen : tree.Script) (n : ℕ) (x : Class) → script_of s ≡ seen → HasClass seen n → x ≡ get_or s.classes.items n x
    → slice_get seen.classes n ≡ Some (class_of x)
class_seen s seen n x is has e = ap (λ y. slice_get y.classes n) (sym is) ∙ item_seen class_of s.classes.items n x (class_inside s seen n is has) e

pub method_inside : (c : Class) (n : ℕ) → ((m : tree.Method) × (slice_get (class_of c).methods n ≡ Some m)) → n < length c.methods.items
method_inside c n has = seen_inside method_of c.methods.items n has.0 has.1

pub method_seen : (c : Class) (n : ℕ) (x : Method) → ((m : tree.Method) × (slice_get (class_of c).methods n ≡ Some m)) → x ≡ get_or c.methods.items n x
    → slice_get (class_of c).methods n ≡ Some (method_of x)
method_seen c n x has e = item_seen method_of c.methods.items n x (method_inside c n has) e

-- A test or a search, of one more.
one_more : (t : Bool) (m : Method) (b : Bool) (o : Option Method) → b ≡ is_some o → (t || b) ≡ is_some (cond t (Some m) o)
one_more true m b o e = refl
one_more false m b o e = e

-- A method of that name is there where the search finds one.
pub any_found : (name : List ℕ) (ms : List Method) → list_any (is_named name) (map method_of ms) ≡ is_some (find (λ m. is_named name (method_of m)) ms)
any_found name [] = refl
any_found name (m ∷ ms) = one_more (is_named name (method_of m)) m _ _ (any_found name ms)

-- What is seen of an item is there where the item is.
pub same_there : {A B : Type 0} (v : A → B) (o : Option A) (p : Option B) → option_map v o ≡ p → is_some p ≡ is_some o
same_there v None p e = ap is_some (sym e)
same_there v (Some a) p e = ap is_some (sym e)
