-- How calls of other objects go.
use Rattle.std.proofs.Common.{◌≡◌, ◌↔◌, ℕ, ◌<◌, ◌≤◌, if◌then◌else◌, List, [], ◌∷◌, map, length, Option, Some, None, IsNone, refl, sym, ap, ◌∙◌, inl, inr}
use Rattle.std.specs.Prelude.{slice_get}
use Rattle.script_ops.specs.Calls.{argument}
use Rattle.std.proofs.lemmas.Bool.{cases_lt, le-ltb, lt-ltb}
use Rattle.do_value.specs.Seen.{tree_of, trees_in}
use Rattle.do_value.specs.Tree.{Tree, text}
use Rattle.do_value.specs.declared.value.Value.{Value}
use Rattle.do_value.specs.declared.value.Value.TheVariants as a_value
use Rattle.storage_map.specs.Limits.{most_name_bytes}
use Rattle.script_asks.proofs.Stored.{value_back}
use Rattle.script_mean.specs.Calls.{reach}
use Rattle.script_mean.specs.Errors.{name_long}
use Rattle.script_mean.specs.Storing.{value_of}
use Rattle.script_mean.specs.Turn.{ask_outside, throws}
use Rattle.script_mean.specs.declared.ask.Ask.TheVariants as asked
use Rattle.script_ops.specs.Errors.{wrong_type}

-- The values that trees were made of.
values_back : (vs : List Value) → map value_of (trees_in vs) ≡ vs
values_back [] = refl
values_back (v ∷ vs) = ap (λ x. x ∷ map value_of (trees_in vs)) (value_back v) ∙ ap (λ xs. v ∷ xs) (values_back vs)

-- A name that isn't too long is a part of what is asked.
pub reach_goes : (class method name : List ℕ) (args : List Value) → length name ≤ most_name_bytes → reach class method (text name) (trees_in args) ≡ ask_outside (asked.Call (class, name) method args)
reach_goes class method name args short =
    ap (λ b. if b then throws name_long else ask_outside (asked.Call (class, name) method (map value_of (trees_in args)))) (le-ltb most_name_bytes (length name) short)
    ∙ ap (λ vs. ask_outside (asked.Call (class, name) method vs)) (values_back args)

-- One that is too long throws.
pub reach_long : (class method name : List ℕ) (args : List Tree) → most_name_bytes < length name → reach class method (text name) args ≡ throws name_long
reach_long class method name args long =
    ap (λ b. if b then throws name_long else ask_outside (asked.Call (class, name) method (map value_of args))) (lt-ltb most_name_bytes (length name) long)

-- So does what is no text.
pub reach_no_text : (class method : List ℕ) (v : Value) (args : List Tree) → ((name : List ℕ) → v ≡ a_value.Text name → ⊥) → reach class method (tree_of v) args ≡ throws wrong_type
reach_no_text class method a_value.Undefined args other = refl
reach_no_text class method a_value.Null args other = refl
reach_no_text class method (a_value.Bool b) args other = refl
reach_no_text class method (a_value.Num z) args other = refl
reach_no_text class method (a_value.Text name) args other = absurd (other name refl)
reach_no_text class method (a_value.List ts) args other = refl
reach_no_text class method (a_value.Rec ps) args other = refl

-- Where there is an object its name isn't too long, and else it is.
pub not_long : {A : Type 0} (r : Option A) (a : A) (m n : ℕ) → r ≡ Some a → (IsNone r ↔ (m < n)) → n ≤ m
not_long None a m n e h = absurd (cc)
not_long (Some x) a m n e h = elim (cases_lt m n) [ inl lt ↦ absurd (let some = h.1 lt in cc) | inr le ↦ le ]

pub is_long : {A : Type 0} (r : Option A) (m n : ℕ) → r ≡ None → (IsNone r ↔ (m < n)) → m < n
is_long None m n e h = h.0 refl
is_long (Some x) m n e h = absurd (cc)

-- The first argument as asks hold it.
pub first_value : (vs : List Value) (v : Value) → Some v ≡ slice_get vs 0 → value_of (argument 0 (trees_in vs)) ≡ v
first_value [] v e = absurd (cc)
first_value (x ∷ xs) v e = let same : v ≡ x = cc in value_back x ∙ sym same
