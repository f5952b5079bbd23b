-- What is known of an event that a front can take.
use Rattle.std.proofs.Common.{◌≡◌, ◌∙◌, sym, refl, ap, subst, ℕ, List, Bool, true, false, ◌&&◌, T, true≢false, Option, Some, None, IfSome, is_some, slice_get, arith}
use Rattle.std.specs.Prelude.{ℤ, pos, ◌≤ℤ◌, ◌<ℤ◌}
use Rattle.std.specs.Int.Signed.{le_z, le_z_yes}
use Rattle.std.proofs.lemmas.Bool.{and_parts}
use Rattle.std.proofs.lemmas.Int.{ints}
use Rattle.std.proofs.lemmas.Option.{same_Some}
use Rattle.do_tree.specs.Lookup.{class_named, methods_of_class}
use Rattle.do_tree.specs.Tree.{Class, Method, Script}
use Rattle.storage_map.specs.Limits.{most_time}
use Rattle.timeline.specs.Eligible.{is_fit, is_for_callers, is_moment}
use Rattle.timeline.specs.Steps.{moment_of}
use Rattle.timeline.specs.declared.event.Event.{Event}
use Rattle.timeline.specs.declared.event.Event.TheVariants as event
use Rattle.front_turns.specs.Paused.{HasClass, HasMethod}
use Rattle.front_turns.specs.Held.{IsOfMethod, IsTime, life_in}
use Rattle.front_turns.proofs.Methods.{item_there, position_inside}
use Rattle.front_half.specs.Standing.{IsClass}
use Rattle.front_half.specs.Taking.{class_after}

holds : (b : Bool) → b ≡ true → T b
holds b e = subst T (sym e) tt

held_true : (b : Bool) → T b → b ≡ true
held_true true t = refl
held_true false t = absurd t

none_of : (b : Bool) → (b && false) ≡ false
none_of true = refl
none_of false = refl

-- A moment, by its two limits.
below_none : (at : ℤ) → at <ℤ pos 0 → le_z (pos 0) at ≡ false
below_none at h = grind (arith, ints, h)

past_most : (at : ℤ) (most : ℕ) → pos most <ℤ at → le_z at (pos most) ≡ false
past_most at most h = grind (arith, ints, h)

pub early_moment : (at : ℤ) → at <ℤ pos 0 → is_moment at ≡ false
early_moment at h = ap (λ (b : Bool). b && le_z at (pos most_time)) (below_none at h)

pub late_moment : (at : ℤ) → pos most_time <ℤ at → is_moment at ≡ false
late_moment at h = ap (λ (b : Bool). le_z (pos 0) at && b) (past_most at most_time h) ∙ none_of (le_z (pos 0) at)

pub in_time : (at : ℤ) → pos 0 ≤ℤ at → at ≤ℤ pos most_time → is_moment at ≡ true
in_time at h k = ap (λ (b : Bool). b && le_z at (pos most_time)) (held_true _ h.le) ∙ held_true _ k.le

pub time_of : (at : ℤ) → is_moment at ≡ true → IsTime at
time_of at h = let parts = and_parts _ _ h in record { positive = le_z_yes (holds _ parts.0); small = le_z_yes (holds _ parts.1) }

at_start : IsTime (pos 0)
at_start = record { positive = le_z_yes tt; small = le_z_yes tt }

-- The class of a front that delivers an event, where it had one.
pub class_stays : (script : Script) (class : Option ℕ) (e : Event) (c : ℕ) → is_fit script class e ≡ true → class_after script class e ≡ Some c → IsClass class c
class_stays script None e c fit is = tt
class_stays script (Some class) (event.Bind identity) c fit is = absurd (true≢false (sym fit))
class_stays script (Some class) (event.Call from method args depth at) c fit is = same_Some _ _ is
class_stays script (Some class) (event.Answer incarnation number result at) c fit is = same_Some _ _ is
class_stays script (Some class) (event.Tick at) c fit is = same_Some _ _ is
class_stays script (Some class) (event.Evict at) c fit is = same_Some _ _ is

there : (o : Option ℕ) → is_some o ≡ true → (c : ℕ) × (o ≡ Some c)
there None h = absurd (true≢false (sym h))
there (Some c) h = (c, refl)

-- It has one then, which the script has.
pub class_known : (script : Script) (class : Option ℕ) (e : Event) → is_fit script class e ≡ true → (c : ℕ) × (class_after script class e ≡ Some c)
class_known script None (event.Bind identity) fit = there (class_named script identity.0) fit
class_known script None (event.Call from method args depth at) fit = absurd (true≢false (sym fit))
class_known script None (event.Answer incarnation number result at) fit = absurd (true≢false (sym fit))
class_known script None (event.Tick at) fit = absurd (true≢false (sym fit))
class_known script None (event.Evict at) fit = absurd (true≢false (sym fit))
class_known script (Some class) (event.Bind identity) fit = absurd (true≢false (sym fit))
class_known script (Some class) (event.Call from method args depth at) fit = (class, refl)
class_known script (Some class) (event.Answer incarnation number result at) fit = (class, refl)
class_known script (Some class) (event.Tick at) fit = (class, refl)
class_known script (Some class) (event.Evict at) fit = (class, refl)

-- The class of this name is one that the script has.
pub named : (script : Script) (name : List ℕ) (c : ℕ) → class_named script name ≡ Some c → HasClass script c
named script name c is = item_there script.classes c (position_inside _ script.classes c is)

pub has_class : (script : Script) (class : Option ℕ) (e : Event) (c : ℕ) → IfSome class (HasClass script) → is_fit script class e ≡ true
    → class_after script class e ≡ Some c → HasClass script c
has_class script None (event.Bind identity) c known fit is = named script identity.0 c is
has_class script None (event.Call from method args depth at) c known fit is = absurd (true≢false (sym fit))
has_class script None (event.Answer incarnation number result at) c known fit is = absurd (true≢false (sym fit))
has_class script None (event.Tick at) c known fit is = absurd (true≢false (sym fit))
has_class script None (event.Evict at) c known fit is = absurd (true≢false (sym fit))
has_class script (Some class) (event.Bind identity) c known fit is = absurd (true≢false (sym fit))
has_class script (Some class) (event.Call from method args depth at) c known fit is = subst (λ (n : ℕ). HasClass script n) (same_Some _ _ is) known
has_class script (Some class) (event.Answer incarnation number result at) c known fit is = subst (λ (n : ℕ). HasClass script n) (same_Some _ _ is) known
has_class script (Some class) (event.Tick at) c known fit is = subst (λ (n : ℕ). HasClass script n) (same_Some _ _ is) known
has_class script (Some class) (event.Evict at) c known fit is = subst (λ (n : ℕ). HasClass script n) (same_Some _ _ is) known

-- A method for callers is one that the class has.
callable : (o : Option Method) → is_for_callers o ≡ true → (m : Method) × (o ≡ Some m)
callable None h = absurd (true≢false (sym h))
callable (Some m) h = (m, refl)

method_there : (script : Script) (class method : ℕ) (o : Option Class) → slice_get script.classes class ≡ o
    → is_for_callers (slice_get (methods_of_class o) method) ≡ true → HasMethod script class method
method_there script class method None is h = absurd (true≢false (sym h))
method_there script class method (Some c) is h = let m = callable (slice_get c.methods method) h in (c, m.0, is, m.1)

-- What is delivered is of a method that the class has, at a moment.
pub of_method : (script : Script) (class : Option ℕ) (e : Event) (c incarnation : ℕ) → is_fit script class e ≡ true → class_after script class e ≡ Some c
    → IsOfMethod (life_in script c incarnation) e
of_method script None (event.Call from method args depth at) c incarnation fit is = absurd (true≢false (sym fit))
of_method script (Some class) (event.Call from method args depth at) c incarnation fit is =
    subst (λ (n : ℕ). HasMethod script n method) (same_Some _ _ is)
    (method_there script class method (slice_get script.classes class) refl (and_parts (is_moment at) _ fit).1)
of_method script class (event.Bind identity) c incarnation fit is = tt
of_method script class (event.Answer number made result at) c incarnation fit is = tt
of_method script class (event.Tick at) c incarnation fit is = tt
of_method script class (event.Evict at) c incarnation fit is = tt

pub at_moment : (script : Script) (class : Option ℕ) (e : Event) → is_fit script class e ≡ true → IsTime (moment_of e)
at_moment script class (event.Bind identity) fit = at_start
at_moment script None (event.Call from method args depth at) fit = absurd (true≢false (sym fit))
at_moment script None (event.Answer incarnation number result at) fit = absurd (true≢false (sym fit))
at_moment script None (event.Tick at) fit = absurd (true≢false (sym fit))
at_moment script None (event.Evict at) fit = absurd (true≢false (sym fit))
at_moment script (Some class) (event.Call from method args depth at) fit = time_of at (and_parts (is_moment at) _ fit).0
at_moment script (Some class) (event.Answer incarnation number result at) fit = time_of at (and_parts (is_moment at) _ fit).0
at_moment script (Some class) (event.Tick at) fit = time_of at (and_parts (is_moment at) _ fit).0
at_moment script (Some class) (event.Evict at) fit = time_of at (and_parts (is_moment at) _ fit).0
