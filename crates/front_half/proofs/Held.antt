-- Whether an answer of the back is waited for shows in what a front holds.
use Rattle.std.proofs.Common.{◌≡◌, ◌∙◌, sym, refl, ap, ℕ, true, false, true≢false, Option, Some, None, is_some, unwrap_or}
use Rattle.do_tree.specs.Tree.{Script}
use Rattle.timeline.specs.Intake.{Mode, serves, down}
use Rattle.timeline.specs.Object.{Life, idle, waiting, ended}
use Rattle.timeline.specs.Object as seen
use Rattle.front_turns.specs.Paused.{Paused}
use Rattle.front_turns.specs.Held.{IsState, life_in}
use Rattle.front_turns.specs.declared.object.State.{State}
use Rattle.front_turns.specs.declared.object.State.TheVariants as state
use Rattle.timeline.specs.declared.event.Event.{Event}
use Rattle.front_half.specs.Standing.{Stood, IsClass, IsHalf, IsMode, is_stopped_mode}
use Rattle.front_half.specs.Taking.{waits, waits_in}
use Rattle.front_half.specs.Turning.{is_busy, is_held}
use Rattle.front_half.specs.declared.half.Half.{Half}
use Rattle.front_half.specs.declared.half.Mode.{Mode as HeldMode}
use Rattle.front_half.specs.declared.half.Mode.TheVariants as held

-- Some class serves.
pub class_there : (class : Option ℕ) → IsClass class (unwrap_or class 0)
class_there None = tt
class_there (Some class) = refl

pub some_class : (class : Option ℕ) → (c : ℕ) × IsClass class c
some_class class = (unwrap_or class 0, class_there class)

busy_in : {T : Type 0} (see : T → Paused) (l : Life) (s : State T) (st : seen.State) → IsState see l s st → waits_in st ≡ is_busy s
busy_in see l (state.Idle o) (idle ob) is = refl
busy_in see l (state.Waiting o r task a) (waiting ob t b) is = refl
busy_in see l (state.Ended c) (ended cause) is = refl
busy_in see l (state.Idle o) (waiting ob t b) is = elim is [ ]
busy_in see l (state.Idle o) (ended cause) is = elim is [ ]
busy_in see l (state.Waiting o r task a) (idle ob) is = elim is [ ]
busy_in see l (state.Waiting o r task a) (ended cause) is = elim is [ ]
busy_in see l (state.Ended c) (idle ob) is = elim is [ ]
busy_in see l (state.Ended c) (waiting ob t b) is = elim is [ ]

down_in : (call other : Option Event) → call ≡ other → waits (down other) ≡ is_some call
down_in call None same = ap is_some (sym same)
down_in call (Some e) same = ap is_some (sym same)

held_in : {T : Type 0} (see : T → Paused) (l : Life) (h : HeldMode T) (m : Mode) → IsMode see l h m → waits m ≡ is_held h
held_in see l (held.Serves s) (serves st) is = busy_in see l s st is
held_in see l (held.Down call) (down other) is = down_in call other is
held_in see l (held.Serves s) (down other) is = elim is [ ]
held_in see l (held.Down call) (serves st) is = elim is [ ]
held_in see l held.Stopped m is = elim is [ ]

pub waits_as_held : {T : Type 0} (see : T → Paused) (script : Script) (h : Half T) (st : Stood) → IsHalf see script h st → is_held h.mode ≡ waits st.front.mode
waits_as_held see script h st is = sym (held_in see (life_in script (unwrap_or st.class 0) st.front.incarnation) h.mode st.front.mode
    (is.mode (unwrap_or st.class 0) (class_there st.class)))

-- Memory was wanting.
pub stopped_is_held : {T : Type 0} (h : HeldMode T) → is_stopped_mode h ≡ true → is_held h ≡ true
stopped_is_held (held.Serves s) stopped = absurd (true≢false (sym stopped))
stopped_is_held (held.Down call) stopped = absurd (true≢false (sym stopped))
stopped_is_held held.Stopped stopped = refl

pub free : {T : Type 0} (see : T → Paused) (script : Script) (h : Half T) (st : Stood) → IsHalf see script h st → is_held h.mode ≡ false → waits st.front.mode ≡ false
free see script h st is none = sym (waits_as_held see script h st is) ∙ none

pub busy : {T : Type 0} (see : T → Paused) (script : Script) (h : Half T) (st : Stood) → IsHalf see script h st → is_held h.mode ≡ true → waits st.front.mode ≡ true
busy see script h st is some = sym (waits_as_held see script h st is) ∙ some
