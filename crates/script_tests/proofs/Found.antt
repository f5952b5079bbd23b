-- A method that was found by its name is there, and its class stays the task's.
use Rattle.std.proofs.Common.{◌≡◌, ◌<◌, ℕ, Bool, true, false, List, [], ◌∷◌, length, Option, Some, None, refl, sym, subst, arith}
use Rattle.std.specs.List.{position}
use Rattle.std.specs.Prelude.{slice_get, codes, if◌then◌else◌}
use Rattle.std.specs.Option.{IfSome}
use Rattle.std.specs.Str.{bytes_eq}
use Rattle.std.proofs.lemmas.List.Quantifiers.{position-Some}
use Rattle.std.proofs.lemmas.Option.{slice_get-get_or, slice_get_within}
use Rattle.do_tree.specs.Tree.{Class, Method, Script}
use Rattle.do_tree.specs.Lookup.{alarm_of, constructor_of, is_constructor, is_named, method_named, methods_of, methods_of_class}
use Rattle.script_eval.specs.Tasks.{HasClass, HasMethod, IsOfClass}
use Rattle.script_eval.specs.declared.outcome.Outcome.{Outcome}
use Rattle.script_eval.specs.declared.outcome.Outcome.TheVariants as outcome
use Rattle.script_tests.specs.Waits.{class_or}

-- A place within a list has an item.
within : {X : Type 0} (xs : List X) (i : ℕ) → i < length xs → (x : X) × (slice_get xs i ≡ Some x)
within [] i h = absurd (omega arith)
within (x ∷ xs) i h = (_, slice_get-get_or (x ∷ xs) i x h)

-- The place that was found has one.
there : {X : Type 0} (p : X → Bool) (xs : List X) (i : ℕ) → position p xs ≡ Some i → (x : X) × (slice_get xs i ≡ Some x)
there p [] i h = absurd (cc)
there p (x ∷ xs) i h = within (x ∷ xs) i (position-Some p (x ∷ xs) i x h).0

-- The class of such a method is there too.
in_class : (p : Method → Bool) (script : Script) (class method : ℕ) (found : Option Class) → slice_get script.classes class ≡ found
    → position p (methods_of_class found) ≡ Some method → HasMethod script class method
in_class p script class method None c h = absurd (cc)
in_class p script class method (Some found) c h =
    let m = there p found.methods method h
    in (found, m.0, c, m.1)

in_script : (p : Method → Bool) (script : Script) (class : ℕ) (found : Option ℕ) → found ≡ position p (methods_of script class) → IfSome found (HasMethod script class)
in_script p script class None h = tt
in_script p script class (Some method) h = in_class p script class method (slice_get script.classes class) refl (sym h)

-- The constructor, the alarm handler, and a method as callers name it.
pub constructor_there : (script : Script) (class : ℕ) (found : Option ℕ) → found ≡ constructor_of script class → IfSome found (HasMethod script class)
constructor_there script class = in_script (λ m. is_constructor m.kind) script class

pub alarm_there : (script : Script) (class : ℕ) (found : Option ℕ) → found ≡ alarm_of script class → IfSome found (HasMethod script class)
alarm_there script class = in_script (is_named (codes "alarm")) script class

none_there : (script : Script) (class : ℕ) (found : Option ℕ) → found ≡ None → IfSome found (HasMethod script class)
none_there script class None h = tt
none_there script class (Some x) h = absurd (cc)

chosen_there : (script : Script) (class : ℕ) (name : List ℕ) (found : Option ℕ) (b : Bool)
    → found ≡ (if b then None else position (is_named name) (methods_of script class)) → IfSome found (HasMethod script class)
chosen_there script class name found true h = none_there script class found h
chosen_there script class name found false h = in_script (is_named name) script class found h

pub method_there : (script : Script) (class : ℕ) (name : List ℕ) (found : Option ℕ) → found ≡ method_named script class name → IfSome found (HasMethod script class)
method_there script class name found h = chosen_there script class name found (bytes_eq name (codes "alarm")) h

-- The class of a method is within the script.
pub class_within : (script : Script) (class method : ℕ) → HasMethod script class method → class < length script.classes
class_within script class method (c, m, h, g) = slice_get_within script.classes class c h

-- The class of the task that waits is the one that it was started with.
pub class_kept : (class : ℕ) (o : Outcome) → IsOfClass class o → class_or class o ≡ class
class_kept class (outcome.Paused t bs a fs) h = h
class_kept class (outcome.Done bs v fs) h = refl
class_kept class (outcome.Threw bs v fs reset) h = refl
class_kept class (outcome.Exceeded bs) h = refl

-- So the script has it.
pub has_class : (script : Script) (class k : ℕ) → class < length script.classes → k ≡ class → HasClass script k
has_class script class k h e = subst (λ n. HasClass script n) (sym e) (within script.classes class h)
