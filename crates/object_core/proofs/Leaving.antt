-- What a front at rest leaves is what its logs show, whatever its class is where that isn't known, and whatever it is while it isn't mounted:
-- then it was delivered nothing.
use Rattle.std.proofs.Common.{◌≡◌, ◌∙◌, ap, sym, refl, subst, true≢false, ℕ, List, [], ◌∷◌, Option, Some, None, unwrap_or}
use Rattle.std.specs.Prelude.{true, false, is_some}
use Rattle.do_tree.specs.Lookup.{class_named}
use Rattle.do_tree.specs.Tree.{Script}
use Rattle.storage_map.specs.Contents.{Contents}
use Rattle.timeline.specs.History.{History}
use Rattle.timeline.specs.Intake.{Kind, Front, Mode, serves, down, Taken, delivered, noticed, wanted, events_in}
use Rattle.timeline.specs.Left.{left}
use Rattle.timeline.specs.Logs.{Backed, Fronted}
use Rattle.timeline.specs.Object.{Life, Object, State, idle, waiting, ended, begun}
use Rattle.timeline.specs.declared.entry.Body.{Body}
use Rattle.timeline.specs.declared.event.Event.{Event}
use Rattle.timeline.specs.declared.event.Event.TheVariants as event
use Rattle.front_turns.specs.Held.{life_in}
use Rattle.object_front.specs.Came.{events}
use Rattle.object_front.specs.Classed.{class_behind}
use Rattle.front_half.specs.Remaining.{left_at, object_at, object_in}
use Rattle.front_half.specs.Standing.{IsClass, Stood}
use Rattle.front_half.specs.Taking.{waits}
use Rattle.object_history.specs.Pair.{IsNewest, serving, falling}
use Rattle.object_core.specs.Fitting.{IsFitIntake}

-- A class that is known stays known.
some_stays : (script : Script) (c : ℕ) (taken : List Taken) → IsFitIntake script (Some c) taken → class_behind script (Some c) (events_in taken) ≡ None → ⊥
some_stays script c [] fit is = absurd cc
some_stays script c (delivered (event.Bind identity) ∷ taken) fit is = true≢false (sym fit.0)
some_stays script c (delivered (event.Call from method args depth at) ∷ taken) fit is = some_stays script c taken fit.1 is
some_stays script c (delivered (event.Answer incarnation number result at) ∷ taken) fit is = some_stays script c taken fit.1 is
some_stays script c (delivered (event.Tick at) ∷ taken) fit is = some_stays script c taken fit.1 is
some_stays script c (delivered (event.Evict at) ∷ taken) fit is = some_stays script c taken fit.1 is
some_stays script c (noticed n ∷ taken) fit is = some_stays script c taken fit is
some_stays script c (wanted e ∷ taken) fit is = some_stays script c taken fit.1 is

-- So that of an object that is bound.
named_stays : (script : Script) (taken : List Taken) (named : Option ℕ) → is_some named ≡ true → IsFitIntake script named taken
    → class_behind script named (events_in taken) ≡ None → ⊥
named_stays script taken None is fit none = true≢false (sym is)
named_stays script taken (Some c) is fit none = some_stays script c taken fit none

-- While it isn't known, nothing is delivered.
pub none_delivered : (script : Script) (first : Option ℕ) (taken : List Taken) → IsFitIntake script first taken → class_behind script first (events_in taken) ≡ None
    → events_in taken ≡ []
none_delivered script (Some c) taken fit is = absurd (some_stays script c taken fit is)
none_delivered script None [] fit is = refl
none_delivered script None (delivered (event.Bind identity) ∷ taken) fit is = absurd (named_stays script taken (class_named script identity.0) fit.0 fit.1 is)
none_delivered script None (delivered (event.Call from method args depth at) ∷ taken) fit is = absurd (true≢false (sym fit.0))
none_delivered script None (delivered (event.Answer incarnation number result at) ∷ taken) fit is = absurd (true≢false (sym fit.0))
none_delivered script None (delivered (event.Tick at) ∷ taken) fit is = absurd (true≢false (sym fit.0))
none_delivered script None (delivered (event.Evict at) ∷ taken) fit is = absurd (true≢false (sym fit.0))
none_delivered script None (noticed n ∷ taken) fit is = none_delivered script None taken fit is
none_delivered script None (wanted e ∷ taken) fit is = none_delivered script None taken fit.1 is

-- Then none is logged.
pub none_logged : (items : List (ℕ × Event)) → events items ≡ [] → items ≡ []
none_logged [] is = refl
none_logged (item ∷ items) is = absurd cc

-- An incarnation that isn't mounted was delivered nothing.
pub down_delivered : (k : Kind) (older : History) (start : Contents) (f : Front) (front : Fronted) (back : Backed) → IsNewest k older start f front back
    → (call : Option Event) → f.mode ≡ down call → f.events ≡ []
down_delivered k older start f front back (serving before tells says_down) call is = absurd (not_down tells.state (sym tells.mode ∙ is))
  where
    not_down : (state : State) → serves state ≡ down call → ⊥
    not_down state is_down = absurd cc
down_delivered k older start f front back (falling waiting_call is_down is_call none says_down) call is = none

-- Of what was delivered nothing, only what is deferred is left.
left_alike : (l k : Life) (o p : Object) (es : List Event) (said : List Body) (deferred : List Event) → es ≡ [] → left l o es said deferred ≡ left k p es said deferred
left_alike l k o p es said deferred none =
    subst (λ (xs : List Event). left l o xs said deferred ≡ left k p xs said deferred) (sym none) refl

module _ (script : Script) (class : ℕ) (st : Stood) (state : State) where
  abbrev Leaves : Life → Object → Type 0
  Leaves l o = left l o st.front.events st.front.said st.deferred ≡ left (life_in script class st.front.incarnation) (object_in state) st.front.events st.front.said st.deferred

  -- by its class
  class_leaves : (known : Option ℕ) → IsClass known class → (known ≡ None → st.front.events ≡ []) → (o : Object) → Leaves (life_in script class st.front.incarnation) o
      → Leaves (life_in script (unwrap_or known 0) st.front.incarnation) o
  class_leaves None is none o leaves =
      left_alike (life_in script 0 st.front.incarnation) (life_in script class st.front.incarnation) o (object_in state) st.front.events st.front.said st.deferred (none refl)
  class_leaves (Some c) is none o leaves =
      subst (λ (n : ℕ). Leaves (life_in script n st.front.incarnation) o) (sym is) leaves

  -- by how it stands
  mode_leaves : (m : Mode) → waits m ≡ false → ((o : Object) → m ≡ serves (idle o) → state ≡ idle o)
      → ((call : Option Event) → m ≡ down call → st.front.events ≡ []) → Leaves (life_in script class st.front.incarnation) (object_at m)
  mode_leaves (serves (idle o)) rest stands none =
      ap (λ (s : State). left (life_in script class st.front.incarnation) (object_in s) st.front.events st.front.said st.deferred) (sym (stands o refl))
  mode_leaves (serves (waiting o t b)) rest stands none = absurd (true≢false rest)
  mode_leaves (serves (ended cause)) rest stands none = absurd (true≢false rest)
  mode_leaves (down call) rest stands none =
      left_alike (life_in script class st.front.incarnation) (life_in script class st.front.incarnation) (begun None) (object_in state) st.front.events st.front.said st.deferred
      (none call refl)

  pub rests_leave : IsClass st.class class → (st.class ≡ None → st.front.events ≡ []) → waits st.front.mode ≡ false
      → ((o : Object) → st.front.mode ≡ serves (idle o) → state ≡ idle o) → ((call : Option Event) → st.front.mode ≡ down call → st.front.events ≡ [])
      → left_at script st ≡ left (life_in script class st.front.incarnation) (object_in state) st.front.events st.front.said st.deferred
  rests_leave is unknown rest stands fallen =
      class_leaves st.class is unknown (object_at st.front.mode) (mode_leaves st.front.mode rest stands fallen)
