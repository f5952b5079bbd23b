-- What one turn does to a front: it goes on, or it is stopped for want of memory.
use Rattle.std.specs.Prelude.{◌≡◌, ◌⊎◌, ℕ, ◌+◌, true, List, ◌++◌, length}
use Rattle.do_tree.specs.Tree.{Script}
use Rattle.timeline.specs.Intake as intake
use Rattle.timeline.specs.Intake.{Taken, numbered}
use Rattle.timeline.specs.Logs.{fronted}
use Rattle.timeline.specs.Object.{Life, Step}
use Rattle.timeline.specs.Told.{asking}
use Rattle.timeline.specs.declared.entry.Body.{Body}
use Rattle.timeline.specs.declared.entry.Entry.{Entry}
use Rattle.timeline.specs.declared.front_log.FrontLog.{FrontLog}
use Rattle.front_turns.specs.Paused.{Paused}
use Rattle.front_turns.specs.Held.{IsState}
use Rattle.front_turns.specs.declared.object.State.{State}
use Rattle.front_half.specs.Standing.{Stood, IsClass, IsHalf, IsTakenBy, IsCutShort, kind_in, is_stopped}
use Rattle.front_half.specs.Taking.{Led}
use Rattle.front_half.specs.declared.half.Half.{Half}

-- What a step of an object says.
abbrev pub said_by : Step → List Body
said_by step = step.says ++ asking step.state

-- A step of an object was said whole: it was sent, numbered on, and the state is the step's.
pub record Speaks {T : Type 0} (see : T → Paused) (l : Life) (old new : List Entry) (before : ℕ) (s : State T) (n : ℕ) (step : Step) : Type 0 where
  pub state : IsState see l s step.state
  pub sent : new ≡ old ++ numbered l.incarnation (1 + before) (said_by step)
  pub count : n ≡ before + length (said_by step)

-- The front has gone on to here: for whatever it had taken, it has now taken this item more.
pub record Moves {T : Type 0} (see : T → Paused) (script : Script) (old new : Half T) (led : Led) (st : Stood) : Type 0 where
  pub half : IsHalf see script new led.stood
  pub dropped : new.log.dropped.items ≡ old.log.dropped.items ++ led.dropped
  pub taken : (c : ℕ) (from : intake.Front) (taken : List Taken) → IsClass led.stood.class c
      → IsTakenBy (kind_in script c) from taken st.front (fronted old.log)
      → IsTakenBy (kind_in script c) from (taken ++ led.item) led.stood.front (fronted new.log)

-- Nothing was logged of the turn; or its item was, of which the first entries were sent.
abbrev pub IsCut : Script → (old new : FrontLog) → Led → Stood → Type 0
IsCut script old new led st = (fronted new ≡ fronted old) ⊎ ((new.dropped.items ≡ old.dropped.items ++ led.dropped)
    × ((c : ℕ) (from : intake.Front) (taken : List Taken) → IsClass led.stood.class c
    → IsTakenBy (kind_in script c) from taken st.front (fronted old)
    → IsCutShort (kind_in script c) from (taken ++ led.item) (fronted new)))

-- Memory was wanting, and the front is stopped.
pub record Stops {T : Type 0} (script : Script) (old new : Half T) (led : Led) (st : Stood) : Type 0 where
  pub stopped : is_stopped new ≡ true
  pub cut : IsCut script old.log new.log led st
