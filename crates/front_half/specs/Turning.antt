-- What a turn of a front does, as its caller sees it.
use Rattle.std.specs.Prelude.{◌≡◌, ◌⊎◌, ℕ, Bool, true, false, is_some, List, [], ◌∷◌, ◌++◌}
use Rattle.std.specs.List.{list_any}
use Rattle.lane.specs.Lanes.{StartsWith}
use Rattle.do_tree.specs.Tree.{Script}
use Rattle.timeline.specs.declared.entry.Entry.{Entry}
use Rattle.timeline.specs.declared.event.Event.{Event}
use Rattle.timeline.specs.declared.notice.Notice.{Notice}
use Rattle.front_turns.specs.Paused.{Paused}
use Rattle.front_turns.specs.declared.object.State.{State}
use Rattle.front_turns.specs.declared.object.State.TheVariants as state
use Rattle.front_half.specs.Moving.{Moves, Stops}
use Rattle.front_half.specs.Standing.{Stood, IsHalf, is_stopped}
use Rattle.front_half.specs.Taking.{Led, IsFirst, IsLedBy, may_enter, on_event, waits, without}
use Rattle.front_half.specs.declared.half.Half.{Half}
use Rattle.front_half.specs.declared.half.Mode.{Mode as HeldMode}
use Rattle.front_half.specs.declared.half.Mode.TheVariants as held

-- A front stands at what it has taken, or memory was wanting before.
abbrev pub CanTurn : {T : Type 0} → (T → Paused) → Script → Half T → Type 0
CanTurn see script h = (is_stopped h ≡ true) ⊎ ((st : Stood) × IsHalf see script h st)

-- Whether a front waits for an answer of its back, as it shows in what it holds.
abbrev pub is_busy : {T : Type 0} → State T → Bool
is_busy (state.Idle o) = false
is_busy (state.Waiting o r task a) = true
is_busy (state.Ended c) = true

abbrev pub is_held : {T : Type 0} → HeldMode T → Bool
is_held (held.Serves s) = is_busy s
is_held (held.Down call) = is_some call
is_held held.Stopped = true

-- What was got of the inbox and of the notices, and what was sent on the line.
abbrev pub Lanes : Type 0
Lanes = List Event × List Notice × List Entry

-- Nothing is taken, and all is as before.
pub record IsStill {T : Type 0} (old new : Half T) (before after : Lanes) : Type 0 where
  pub half : new ≡ old
  pub no_event : after.0 ≡ before.0
  pub no_notice : after.1 ≡ before.1
  pub no_entry : after.2 ≡ before.2

-- No event may be taken: an answer of the back is waited for; or no deferred event may enter, and no other has come.
abbrev pub IsQuiet : Stood → (taken told : List Event) → Type 0
IsQuiet st taken told = (waits st.front.mode ≡ true) ⊎ ((list_any (may_enter st.front.mode) st.deferred ≡ false) × StartsWith taken told)

-- A notice is taken before anything else.
pub record TakesNotice (script : Script) (st : Stood) (events_before events : List Event) (notices_before notices : List Notice) (led : Led) : Type 0 where
  pub notice : Notice
  pub took : notices ≡ notices_before ++ notice ∷ []
  pub no_event : events ≡ events_before
  pub leads : IsLedBy script st notice led

-- Where no answer of the back is waited for, the first deferred event is taken that may enter.
pub record TakesDeferred (script : Script) (st : Stood) (events_before events : List Event) (led : Led) : Type 0 where
  pub no_event : events ≡ events_before
  pub free : waits st.front.mode ≡ false
  pub place : ℕ
  pub event : Event
  pub first : IsFirst st place event
  pub leads : led ≡ on_event script (without st place) event

-- Where none may, the next one that has come.
pub record TakesEvent (script : Script) (st : Stood) (events_before events : List Event) (led : Led) : Type 0 where
  pub free : waits st.front.mode ≡ false
  pub none : list_any (may_enter st.front.mode) st.deferred ≡ false
  pub event : Event
  pub took : events ≡ events_before ++ event ∷ []
  pub leads : led ≡ on_event script st event

abbrev pub IsEntered : Script → Stood → (events_before events : List Event) → Led → Type 0
IsEntered script st events_before events led = TakesDeferred script st events_before events led ⊎ TakesEvent script st events_before events led

-- An event is taken only where no notice has come.
pub record TakesNone (script : Script) (st : Stood) (events_before events : List Event)
    (notices_before notices notices_told : List Notice) (led : Led) : Type 0 where
  pub no_notice : notices ≡ notices_before
  pub heard : StartsWith notices_before notices_told
  pub entered : IsEntered script st events_before events led

abbrev pub IsTaken : Script → Stood → (events_before events : List Event) → (notices_before notices notices_told : List Notice) → Led → Type 0
IsTaken script st events_before events notices_before notices notices_told led =
    TakesNotice script st events_before events notices_before notices led
    ⊎ TakesNone script st events_before events notices_before notices notices_told led

-- One thing was taken, and the front has gone on by it.
pub record Turns {T : Type 0} (see : T → Paused) (script : Script) (old new : Half T) (st : Stood)
    (events_before events : List Event) (notices_before notices notices_told : List Notice) : Type 0 where
  pub goes : st.stuck ≡ false
  pub led : Led
  pub taken : IsTaken script st events_before events notices_before notices notices_told led
  pub moves : Moves see script old new led st

-- Memory was wanting at it.
pub record Halts {T : Type 0} (script : Script) (old new : Half T) (st : Stood)
    (events_before events : List Event) (notices_before notices notices_told : List Notice) : Type 0 where
  pub goes : st.stuck ≡ false
  pub led : Led
  pub taken : IsTaken script st events_before events notices_before notices notices_told led
  pub stops : Stops script old new led st
