-- What is left is found by how the front stands.
use Rattle.std.proofs.Common.{◌≡◌, ◌∙◌, sym, refl, ap, subst, inl, inr, true≢false, ℕ, ◌≤◌, Bool, true, false, List, ◌++◌, length, map, drop, option_to_list, Option, Some, None, unwrap_or, Result, Ok, Err, IfOk}
use Rattle.do_tree.specs.Tree.{Script}
use Rattle.timeline.specs.Intake.{Mode, serves, down}
use Rattle.timeline.specs.Left.{left}
use Rattle.timeline.specs.Object.{Life, OpenTask, State, idle, waiting, ended, begun}
use Rattle.timeline.specs.declared.caller.Caller.{Caller}
use Rattle.timeline.specs.declared.entry.Body.{Body}
use Rattle.timeline.specs.declared.event.Event.{Event}
use Rattle.timeline.specs.declared.notice.Waits.{Waits}
use Rattle.front_turns.specs.Held.{Holds, IsState, life_in, object_of}
use Rattle.front_turns.specs.Paused.{Paused}
use Rattle.front_turns.specs.declared.object.Object.{Object}
use Rattle.front_turns.specs.declared.object.State.{State as HeldState}
use Rattle.front_turns.specs.declared.object.State.TheVariants as state
use Rattle.front_half.proofs.Held.{class_there}
use Rattle.front_half.specs.Remaining.{left_at, object_at, object_in}
use Rattle.front_half.specs.Standing.{Stood, IsHalf, IsMode, is_stopped_mode}
use Rattle.front_half.specs.Taking.{waits, waits_in}
use Rattle.front_half.specs.Turning.{CanTurn, is_held}
use Rattle.front_half.specs.declared.half.Half.{Half}
use Rattle.front_half.specs.declared.half.Mode.{Mode as HeldMode}
use Rattle.front_half.specs.declared.half.Mode.TheVariants as held

pub if_ok_map : {A E : Type 0} {P Q : A → Type 0} (r : Result A E) → ((a : A) → P a → Q a) → IfOk r P → IfOk r Q
if_ok_map (Ok a) f p = f a p
if_ok_map (Err e) f p = tt

-- An idle object leaves what is found of it.
pub left_idle : {T : Type 0} (see : T → Paused) (l : Life) (o : Object T) (st : State) (i : ℕ) (events : List Event) (said : List Body) (deferred : List Event) (v : List (Caller × Waits))
    → ((l : Life) (ts : List OpenTask) → l.incarnation ≡ i → Holds see l o ts → v ≡ left l (object_of o ts) events said deferred)
    → l.incarnation ≡ i → IsState see l (state.Idle o) st → v ≡ left l (object_in st) events said deferred
left_idle see l o (idle ob) i events said deferred v all same is = all l is.0 same is.2 ∙ ap (λ x. left l x events said deferred) (sym is.1)
left_idle see l o (waiting ob t b) i events said deferred v all same is = elim is [ ]
left_idle see l o (ended cause) i events said deferred v all same is = elim is [ ]

pub left_serving : {T : Type 0} (see : T → Paused) (l : Life) (s : HeldState T) (m : Mode) (i : ℕ) (events : List Event) (said : List Body) (deferred : List Event) (v : List (Caller × Waits))
    → ((l : Life) (st : State) → l.incarnation ≡ i → IsState see l s st → waits_in st ≡ false → v ≡ left l (object_in st) events said deferred)
    → l.incarnation ≡ i → IsMode see l (held.Serves s) m → waits m ≡ false → v ≡ left l (object_at m) events said deferred
left_serving see l s (serves st) i events said deferred v all same is free = all l st same is free
left_serving see l s (down call) i events said deferred v all same is free = elim is [ ]

pub left_down : {T : Type 0} (see : T → Paused) (l : Life) (call : Option Event) (m : Mode) (i : ℕ) (events : List Event) (said : List Body) (deferred : List Event) (v : List (Caller × Waits))
    → ((l : Life) → l.incarnation ≡ i → v ≡ left l (begun None) events said deferred)
    → l.incarnation ≡ i → IsMode see l (held.Down call) m → v ≡ left l (object_at m) events said deferred
left_down see l call (down other) i events said deferred v all same is = all l same
left_down see l call (serves st) i events said deferred v all same is = elim is [ ]

-- What is found by the log and by what is deferred is what the front has left.
pub left_stands : {T : Type 0} (see : T → Paused) (script : Script) (h : Half T) (st : Stood) (deferred : List Event) (v : List (Caller × Waits)) → IsHalf see script h st
    → waits st.front.mode ≡ false → deferred ≡ option_to_list h.due ++ h.deferred
    → ((l : Life) (m : Mode) → l.incarnation ≡ h.incarnation → IsMode see l h.mode m → waits m ≡ false
    → v ≡ left l (object_at m) (map (λ d. d.1) (drop h.first_delivered h.log.delivered.items)) (map (λ e. e.body) (drop h.first_sent h.log.sent.items)) deferred)
    → v ≡ left_at script st
left_stands see script h st deferred v is free same found =
    let l : Life = life_in script (unwrap_or st.class 0) st.front.incarnation in
    found l st.front.mode (sym is.incarnation) (is.mode (unwrap_or st.class 0) (class_there st.class)) free
    ∙ ap (λ (events : List Event). left l (object_at st.front.mode) events (map (λ e. e.body) (drop h.first_sent h.log.sent.items)) deferred) is.events
    ∙ ap (λ (said : List Body). left l (object_at st.front.mode) st.front.events said deferred) is.said
    ∙ ap (λ (events : List Event). left l (object_at st.front.mode) st.front.events st.front.said events) (same ∙ is.deferred)

-- A front that waits for nothing isn't stopped, and the newest incarnation's parts of its log begin within it.
held_goes : {T : Type 0} (m : HeldMode T) → is_held m ≡ false → is_stopped_mode m ≡ false
held_goes (held.Serves s) free = refl
held_goes (held.Down call) free = refl
held_goes held.Stopped free = absurd (true≢false free)

pub from_delivered : {T : Type 0} (see : T → Paused) (script : Script) (h : Half T) → CanTurn see script h → is_held h.mode ≡ false
    → h.first_delivered ≤ length h.log.delivered.items
from_delivered see script h (inl stopped) free = absurd (true≢false (sym stopped ∙ held_goes h.mode free))
from_delivered see script h (inr stands) free = stands.1.delivered_from

pub from_sent : {T : Type 0} (see : T → Paused) (script : Script) (h : Half T) → CanTurn see script h → is_held h.mode ≡ false
    → h.first_sent ≤ length h.log.sent.items
from_sent see script h (inl stopped) free = absurd (true≢false (sym stopped ∙ held_goes h.mode free))
from_sent see script h (inr stands) free = stands.1.sent_from
