-- A turn takes what it takes, and by that the front goes on.
use Rattle.std.proofs.Common.{◌≡◌, ◌∙◌, sym, refl, ap, subst, ℕ, inl, inr, Bool, true, false, List, ◌∷◌, [], ◌++◌, unwrap_or}
use Rattle.do_tree.specs.Tree.{Script}
use Rattle.std.specs.List.{list_any}
use Rattle.lane.specs.Lanes.{StartsWith}
use Rattle.timeline.specs.Intake.{Mode}
use Rattle.timeline.specs.Logs.{fronted}
use Rattle.timeline.specs.Object.{Life}
use Rattle.timeline.specs.declared.event.Event.{Event}
use Rattle.timeline.specs.declared.front_log.FrontLog.{FrontLog}
use Rattle.timeline.specs.declared.notice.Notice.{Notice}
use Rattle.front_turns.specs.Paused.{Paused}
use Rattle.front_turns.specs.Held.{life_in}
use Rattle.front_half.proofs.Held.{class_there}
use Rattle.front_half.specs.Moving.{IsCut, Moves, Stops}
use Rattle.front_half.specs.Standing.{Stood, IsHalf, IsMode, IsTakenBy, kind_in, is_stopped, is_stopped_mode}
use Rattle.front_half.specs.Taking.{Led, IsFirst, may_enter, on_event, waits, without}
use Rattle.front_half.specs.Turning.{IsEntered, Turns, Halts}
use Rattle.front_half.specs.declared.half.Half.{Half}
use Rattle.front_half.specs.declared.half.Mode.{Mode as HeldMode}
use Rattle.front_half.specs.declared.half.Mode.TheVariants as held

abbrev is_true : Bool → Type 0
is_true true = Unit {0}
is_true false = ⊥

not_stopped_at : {T : Type 0} (see : T → Paused) (l : Life) (h : HeldMode T) (m : Mode) → IsMode see l h m → is_stopped_mode h ≡ true → ⊥
not_stopped_at see l (held.Serves s) m is stopped = subst is_true (sym stopped) tt
not_stopped_at see l (held.Down call) m is stopped = subst is_true (sym stopped) tt
not_stopped_at see l held.Stopped m is stopped = elim is [ ]

-- A front that stands isn't stopped.
pub not_stopped : {T : Type 0} (see : T → Paused) (script : Script) (h : Half T) (st : Stood) → IsHalf see script h st → is_stopped h ≡ true → ⊥
not_stopped see script h st is stopped = not_stopped_at see (life_in script (unwrap_or st.class 0) st.front.incarnation) h.mode st.front.mode
    (is.mode (unwrap_or st.class 0) (class_there st.class)) stopped

-- What the front does without a deferred event it does all the same: its log is as it was.
moves_without : {T : Type 0} (see : T → Paused) (script : Script) (old mid new : Half T) (led : Led) (st : Stood) (place : ℕ) → mid.log ≡ old.log
    → Moves see script mid new led (without st place) → Moves see script old new led st
moves_without see script old mid new led st place same m = record {
  half = m.half;
  dropped = m.dropped ∙ ap (λ (log : FrontLog). log.dropped.items ++ led.dropped) same;
  taken = λ c from taken class is. m.taken c from taken class
      (subst (λ (log : FrontLog). IsTakenBy (kind_in script c) from taken st.front (fronted log)) (sym same) is);
}

stops_without : {T : Type 0} (script : Script) (old mid new : Half T) (led : Led) (st : Stood) (place : ℕ) → mid.log ≡ old.log
    → Stops script mid new led (without st place) → Stops script old new led st
stops_without script old mid new led st place same s = record {
  stopped = s.stopped;
  cut = subst (λ (log : FrontLog). IsCut script log new.log led st) same s.cut;
}

pub stands_without : {T : Type 0} (see : T → Paused) (script : Script) (mid : Half T) (st : Stood) (e : Event) → waits st.front.mode ≡ false
    → ((place : ℕ) × IsFirst st place e × IsHalf see script mid (without st place)) → (s : Stood) × IsHalf see script mid s × (waits s.front.mode ≡ false)
stands_without see script mid st e free first = (without st first.0, first.2, free)

pub deferred_ran : {T : Type 0} (see : T → Paused) (script : Script) (old mid new : Half T) (st : Stood) (got : List Event) (e : Event)
    → mid.log ≡ old.log → waits st.front.mode ≡ false → ((place : ℕ) × IsFirst st place e × IsHalf see script mid (without st place))
    → ((s : Stood) → IsHalf see script mid s → waits s.front.mode ≡ false → Moves see script mid new (on_event script s e) s)
    → (led : Led) × IsEntered script st got got led × Moves see script old new led st
deferred_ran see script old mid new st got e same free first moves = let led : Led = on_event script (without st first.0) e in (
  led,
  inl (record { no_event = refl; free = free; place = first.0; event = e; first = first.1; leads = refl }),
  moves_without see script old mid new led st first.0 same (moves (without st first.0) first.2 free),
)

pub deferred_lost : {T : Type 0} (see : T → Paused) (script : Script) (old mid new : Half T) (st : Stood) (got : List Event) (e : Event)
    → mid.log ≡ old.log → waits st.front.mode ≡ false → ((place : ℕ) × IsFirst st place e × IsHalf see script mid (without st place))
    → ((s : Stood) → IsHalf see script mid s → waits s.front.mode ≡ false → Stops script mid new (on_event script s e) s)
    → (led : Led) × IsEntered script st got got led × Stops script old new led st
deferred_lost see script old mid new st got e same free first stops = let led : Led = on_event script (without st first.0) e in (
  led,
  inl (record { no_event = refl; free = free; place = first.0; event = e; first = first.1; leads = refl }),
  stops_without script old mid new led st first.0 same (stops (without st first.0) first.2 free),
)

pub event_ran : {T : Type 0} (see : T → Paused) (script : Script) (old mid new : Half T) (st : Stood) (before got : List Event)
    → mid ≡ old → waits st.front.mode ≡ false → list_any (may_enter st.front.mode) st.deferred ≡ false → IsHalf see script old st
    → ((e : Event) × (got ≡ before ++ e ∷ []) × ((s : Stood) → IsHalf see script mid s → waits s.front.mode ≡ false → Moves see script mid new (on_event script s e) s))
    → (led : Led) × IsEntered script st before got led × Moves see script old new led st
event_ran see script old mid new st before got same free none is took = (
  on_event script st took.0,
  inr (record { free = free; none = none; event = took.0; took = took.1; leads = refl }),
  subst (λ (h : Half _). Moves see script h new (on_event script st took.0) st) same
      (took.2 st (subst (λ (h : Half _). IsHalf see script h st) (sym same) is) free),
)

pub event_lost : {T : Type 0} (see : T → Paused) (script : Script) (old mid new : Half T) (st : Stood) (before got : List Event)
    → mid ≡ old → waits st.front.mode ≡ false → list_any (may_enter st.front.mode) st.deferred ≡ false → IsHalf see script old st
    → ((e : Event) × (got ≡ before ++ e ∷ []) × ((s : Stood) → IsHalf see script mid s → waits s.front.mode ≡ false → Stops script mid new (on_event script s e) s))
    → (led : Led) × IsEntered script st before got led × Stops script old new led st
event_lost see script old mid new st before got same free none is took = (
  on_event script st took.0,
  inr (record { free = free; none = none; event = took.0; took = took.1; leads = refl }),
  subst (λ (h : Half _). Stops script h new (on_event script st took.0) st) same
      (took.2 st (subst (λ (h : Half _). IsHalf see script h st) (sym same) is) free),
)

pub entered_turns : {T : Type 0} (see : T → Paused) (script : Script) (old new : Half T) (st : Stood) (before got : List Event) (heard_before heard told : List Notice)
    → old.stuck ≡ false → IsHalf see script old st → (heard ≡ heard_before) × StartsWith heard_before told
    → ((led : Led) × IsEntered script st before got led × Moves see script old new led st)
    → Turns see script old new st before got heard_before heard told
entered_turns see script old new st before got heard_before heard told goes is none took = record {
  goes = sym is.stuck ∙ goes;
  led = took.0;
  taken = inr (record { no_notice = none.0; heard = none.1; entered = took.1 });
  moves = took.2;
}

pub entered_halts : {T : Type 0} (see : T → Paused) (script : Script) (old new : Half T) (st : Stood) (before got : List Event) (heard_before heard told : List Notice)
    → old.stuck ≡ false → IsHalf see script old st → (heard ≡ heard_before) × StartsWith heard_before told
    → ((led : Led) × IsEntered script st before got led × Stops script old new led st)
    → Halts script old new st before got heard_before heard told
entered_halts see script old new st before got heard_before heard told goes is none took = record {
  goes = sym is.stuck ∙ goes;
  led = took.0;
  taken = inr (record { no_notice = none.0; heard = none.1; entered = took.1 });
  stops = took.2;
}
