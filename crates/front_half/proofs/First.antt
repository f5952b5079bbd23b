-- The first deferred event that may be taken, and what is left.
use Rattle.std.proofs.Common.{◌≡◌, ◌∙◌, sym, refl, ap, subst, ℕ, suc, List, [], ◌∷◌, ◌++◌, length, take, slice_get, remove, Bool, true, false, ◌||◌, true≢false, Option, Some, None, IfSome, IfNone, option_to_list}
use Rattle.std.specs.Prelude.{MatchOption}
use Rattle.std.specs.List.{list_any}
use Rattle.std.proofs.Math.Seq.{take-append_seam}
use Rattle.std.proofs.lemmas.List.Folds.{list_any-append}
use Rattle.std.proofs.lemmas.Option.{same_Some}
use Rattle.do_tree.specs.Lookup.{constructor_of}
use Rattle.do_tree.specs.Tree.{Script}
use Rattle.timeline.specs.Object.{Life}
use Rattle.timeline.specs.declared.event.Event.{Event}
use Rattle.front_turns.specs.Paused.{Paused}
use Rattle.front_turns.specs.Held.{life_in}
use Rattle.input_gate.specs.Deferring.{TakesFirst}
use Rattle.front_half.specs.Gated.{IsGatedMode}
use Rattle.front_half.specs.Standing.{Stood, IsHalf, IsMode}
use Rattle.front_half.specs.Taking.{IsFirst, may_enter, without}
use Rattle.front_half.specs.declared.half.Half.{Half}
use Rattle.front_half.proofs.Entered.{Keeps, kept_half}
use Rattle.front_half.proofs.Held.{some_class}

pub if_some : {X : Type 0} {P : X → Type 0} (r : Option X) → ((x : X) → r ≡ Some x → P x) → IfSome r P
if_some None f = tt
if_some (Some x) f = f x refl

pub if_none : {X : Type 0} {P : Type 0} (r : Option X) → (r ≡ None → P) → IfNone r P
if_none None f = f refl
if_none (Some x) f = tt

neither : (a b : Bool) → a ≡ false → b ≡ false → (a || b) ≡ false
neither false false h k = refl
neither true b h k = absurd (true≢false h)
neither false true h k = absurd (true≢false k)

first_of : (a : Bool) → (a || false) ≡ false → a ≡ false
first_of false h = refl
first_of true h = absurd (true≢false h)

pub if_none_then : {X P Q : Type 0} (r : Option X) → IfNone r P → (P → Q) → IfNone r Q
if_none_then None p f = f p
if_none_then (Some x) p f = tt

-- What a clause says by the two cases of an answer.
pub match_some : {X : Type 0} (P : Type 0) (Q : X → Type 0) {R : X → Type 0} (r : Option X) → MatchOption r P Q → ((x : X) → Q x → R x) → IfSome r R
match_some P Q None m f = tt
match_some P Q (Some x) m f = f x m

pub match_none : {X : Type 0} (P : Type 0) (Q : X → Type 0) {R : Type 0} (r : Option X) → MatchOption r P Q → (P → R) → IfNone r R
match_none P Q None m f = f m
match_none P Q (Some x) m f = tt

-- Two tests that say the same of each event find the same first event.
same_tests : (p q : Event → Bool) → ((e : Event) → q e ≡ p e) → (xs : List Event) → list_any q xs ≡ list_any p xs
same_tests p q same [] = refl
same_tests p q same (x ∷ xs) = ap (λ (b : Bool). b || list_any q xs) (same x) ∙ ap (λ (b : Bool). p x || b) (same_tests p q same xs)

pub first_of_these : (p q : Event → Bool) → ((e : Event) → q e ≡ p e) → (old new : List Event) (e : Event) → TakesFirst p old new e → TakesFirst q old new e
first_of_these p q same old new e first = record {
  before = first.before;
  after = first.after;
  was = first.was;
  is = first.is;
  others = same_tests p q same first.before ∙ first.others;
  may_enter = same e ∙ first.may_enter;
}

pub none_of_these : (p q : Event → Bool) → ((e : Event) → q e ≡ p e) → (xs : List Event) → list_any p xs ≡ false → list_any q xs ≡ false
none_of_these p q same xs none = same_tests p q same xs ∙ none

pub none_by : (p : Event → Bool) → ((e : Event) → p e ≡ false) → (xs : List Event) → list_any p xs ≡ false
none_by p never [] = refl
none_by p never (x ∷ xs) = neither (p x) (list_any p xs) (never x) (none_by p never xs)

-- The place behind these.
there_behind : (xs ys : List Event) (y : Event) → slice_get (xs ++ y ∷ ys) (length xs) ≡ Some y
there_behind [] ys y = refl
there_behind (x ∷ xs) ys y = there_behind xs ys y

left_behind : (xs ys : List Event) (y : Event) → remove (xs ++ y ∷ ys) (length xs) ≡ xs ++ ys
left_behind [] ys y = refl
left_behind (x ∷ xs) ys y = ap (λ (zs : List Event). x ∷ zs) (left_behind xs ys y)

pub none_in_one : (p : Event → Bool) (due : Option Event) (e : Event) → due ≡ Some e → p e ≡ false → list_any p (option_to_list due) ≡ false
none_in_one p due e is here = ap (λ (o : Option Event). list_any p (option_to_list o)) is ∙ neither (p e) false here refl

pub same_due : (p : Event → Bool) (due : Option Event) (d e : Event) → due ≡ Some d → due ≡ Some e → p d ≡ true → p e ≡ true
same_due p due d e is too may = ap p (same_Some e d (sym too ∙ is)) ∙ may

-- Behind the call that waited for the mounting, if there is one.
pub place_behind : Option Event → ℕ → ℕ
place_behind None i = i
place_behind (Some d) i = suc i

pub record IsBehind (p : Event → Bool) (us ds left : List Event) (e : Event) (place : ℕ) : Type 0 where
  pub there : slice_get (us ++ ds) place ≡ Some e
  pub before : list_any p (take place (us ++ ds)) ≡ false
  pub rest : us ++ left ≡ remove (us ++ ds) place

pub behind_due : (p : Event → Bool) (due : Option Event) (ds left : List Event) (e : Event) (i : ℕ) → list_any p (option_to_list due) ≡ false
    → slice_get ds i ≡ Some e → list_any p (take i ds) ≡ false → left ≡ remove ds i → IsBehind p (option_to_list due) ds left e (place_behind due i)
unfolding place_behind
behind_due p None ds left e i none there before rest = record { there = there; before = before; rest = rest }
behind_due p (Some d) ds left e i none there before rest = record {
  there = there;
  before = neither (p d) (list_any p (take i ds)) (first_of (p d) none) before;
  rest = ap (λ (xs : List Event). d ∷ xs) rest;
}

pub first_behind : (p : Event → Bool) (due : Option Event) (ds left : List Event) (e : Event) → list_any p (option_to_list due) ≡ false → (first : TakesFirst p ds left e)
    → IsBehind p (option_to_list due) ds left e (place_behind due (length first.before))
first_behind p due ds left e none first =
    let n : ℕ = length first.before in
    behind_due p due ds left e n none
    (ap (λ (xs : List Event). slice_get xs n) first.was ∙ there_behind first.before first.after e)
    (ap (λ (xs : List Event). list_any p (take n xs)) first.was ∙ ap (list_any p) (take-append_seam first.before (e ∷ first.after)) ∙ first.others)
    (first.is ∙ sym (ap (λ (xs : List Event). remove xs n) first.was ∙ left_behind first.before first.after e))

-- How the blocks stand, for some class.
pub gate_for : {T : Type 0} (see : T → Paused) (script : Script) (h : Half T) (st : Stood) → IsHalf see script h st
    → (constructor : Option ℕ) × IsGatedMode constructor st.front.mode
gate_for see script h st half = let k = some_class st.class in (constructor_of script k.0, half.gate k.0 k.1)

-- The mode that is held, for some class.
pub mode_for : {T : Type 0} (see : T → Paused) (script : Script) (h : Half T) (st : Stood) → IsHalf see script h st → (l : Life) × IsMode see l h.mode st.front.mode
mode_for see script h st half = let k = some_class st.class in (life_in script k.0 st.front.incarnation, half.mode k.0 k.1)

-- The first deferred event is taken.
pub first_taken : {T : Type 0} (see : T → Paused) (script : Script) (h new : Half T) (st : Stood) (e : Event) (place : ℕ) → IsHalf see script h st → Keeps h new
    → new.stuck ≡ h.stuck → may_enter st.front.mode e ≡ true
    → IsBehind (may_enter st.front.mode) (option_to_list h.due) h.deferred new.deferred e place
    → option_to_list new.due ++ new.deferred ≡ remove (option_to_list h.due ++ h.deferred) place
    → (at : ℕ) × IsFirst st at e × IsHalf see script new (without st at)
first_taken see script h new st e place half keeps stuck may is left = (
  place,
  record {
    there = subst (λ (ds : List Event). slice_get ds place ≡ Some e) half.deferred is.there;
    may = may;
    before = subst (λ (ds : List Event). list_any (may_enter st.front.mode) (take place ds) ≡ false) half.deferred is.before;
  },
  kept_half see script h new st (remove st.deferred place) st.stuck keeps
      (left ∙ ap (λ (ds : List Event). remove ds place) half.deferred) (stuck ∙ half.stuck) half,
)

-- The call that waited for the mounting is the first.
pub due_taken : {T : Type 0} (see : T → Paused) (script : Script) (h new : Half T) (st : Stood) (e : Event) → IsHalf see script h st → Keeps h new
    → new.stuck ≡ h.stuck → may_enter st.front.mode e ≡ true → h.due ≡ Some e → new.due ≡ None → new.deferred ≡ h.deferred
    → (at : ℕ) × IsFirst st at e × IsHalf see script new (without st at)
due_taken see script h new st e half keeps stuck may due none same =
    let all : e ∷ h.deferred ≡ st.deferred = ap (λ (o : Option Event). option_to_list o ++ h.deferred) (sym due) ∙ half.deferred in (
      0,
      record {
        there = subst (λ (ds : List Event). slice_get ds 0 ≡ Some e) all refl;
        may = may;
        before = refl;
      },
      kept_half see script h new st (remove st.deferred 0) st.stuck keeps
          (ap (λ (o : Option Event). option_to_list o ++ new.deferred) none ∙ same ∙ ap (λ (ds : List Event). remove ds 0) all) (stuck ∙ half.stuck) half,
    )

-- None may be taken.
pub none_taken : {T : Type 0} (see : T → Paused) (script : Script) (h : Half T) (st : Stood) → IsHalf see script h st
    → list_any (may_enter st.front.mode) (option_to_list h.due) ≡ false → list_any (may_enter st.front.mode) h.deferred ≡ false
    → list_any (may_enter st.front.mode) st.deferred ≡ false
none_taken see script h st half due none =
    ap (list_any (may_enter st.front.mode)) (sym half.deferred) ∙ list_any-append (may_enter st.front.mode) (option_to_list h.due) h.deferred
    ∙ neither _ _ due none
