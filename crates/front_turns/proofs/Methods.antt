-- The numbers that a script gives are those of its methods.
use Rattle.std.proofs.Common.{◌≡◌, ◌∙◌, sym, refl, ap, subst, ℕ, ◌<◌, List, length, true, false, true≢false, ltb, inl, inr, arith}
use Rattle.std.specs.Prelude.{Bool, cond, Some, None, unwrap_or, slice_get}
use Rattle.std.specs.List.{position, position_or_len}
use Rattle.std.specs.Option.{is_none}
use Rattle.std.proofs.lemmas.Bool.Decides.{nat_tests}
use Rattle.std.proofs.lemmas.Option.{slice_get_cases}
use Rattle.do_tree.specs.Lookup.{constructor_of, alarm_of, methods_of, methods_of_class}
use Rattle.do_tree.specs.Tree.{Method, Script}
use Rattle.front_turns.specs.Paused.{HasClass, HasMethod}

pub nothing : {X : Type 0} (x : X) → None ≡ Some x → ⊥
nothing x e = true≢false (ap (λ o. is_none o) e)

-- An item stands at each place inside a list.
pub item_there : {X : Type 0} (xs : List X) (i : ℕ) → i < length xs → (x : X) × (slice_get xs i ≡ Some x)
item_there xs i inside = elim (slice_get_cases xs i).1 [
  | inl there ↦ (there.0, there.2)
  | inr past ↦ absurd (omega (arith, inside, past.0))
]

-- The first that passes is inside.
pub position_inside : {X : Type 0} (p : X → Bool) (xs : List X) (i : ℕ) → position p xs ≡ Some i → i < length xs
position_inside p xs i e = at_test (ltb (position_or_len p xs) (length xs)) refl
  where
    at_test : (b : Bool) → ltb (position_or_len p xs) (length xs) ≡ b → i < length xs
    at_test true h =
        let same : position_or_len p xs ≡ i = ap (λ o. unwrap_or o (position_or_len p xs)) (sym (ap (λ (b : Bool). cond b (Some (position_or_len p xs)) None) h) ∙ e) in
        let less : position_or_len p xs < length xs = grind (arith, nat_tests, h) in
        subst (λ (n : ℕ). n < length xs) same less
    at_test false h = absurd (nothing i (sym (ap (λ (b : Bool). cond b (Some (position_or_len p xs)) None) h) ∙ e))

-- The first method of a class that passes is one of it.
pub has_first : (p : Method → Bool) (script : Script) (class k : ℕ) → HasClass script class → position p (methods_of script class) ≡ Some k → HasMethod script class k
has_first p script class k has e =
    let is : methods_of script class ≡ has.0.methods = ap (λ o. methods_of_class o) has.1 in
    let there = item_there has.0.methods k (position_inside p has.0.methods k (ap (λ ms. position p ms) (sym is) ∙ e)) in
    (has.0, there.0, has.1, there.1)

pub has_constructor : (script : Script) (class k : ℕ) → HasClass script class → constructor_of script class ≡ Some k → HasMethod script class k
has_constructor script class k has e = has_first _ script class k has e

pub has_alarm : (script : Script) (class k : ℕ) → HasClass script class → alarm_of script class ≡ Some k → HasMethod script class k
has_alarm script class k has e = has_first _ script class k has e
