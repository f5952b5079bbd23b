-- The class of a front: that of its slot's object at the opening, or of the object that was bound since.
use Rattle.std.specs.Prelude.{◌≡◌, ℕ, false, List, [], ◌∷◌, Option, Some}
use Rattle.do_tree.specs.Tree.{Script}
use Rattle.timeline.specs.Intake as intake
use Rattle.timeline.specs.Intake.{Taken}
use Rattle.timeline.specs.Logs.{Fronted, fronted}
use Rattle.timeline.specs.declared.event.Event.{Event}
use Rattle.timeline.specs.declared.notice.Notice.{Notice}
use Rattle.object_front.specs.Came.{events}
use Rattle.object_front.specs.Evaluated.{seen}
use Rattle.front_half.specs.Standing.{Stood, IsClass, IsTakenBy, kind_in, is_stopped}
use Rattle.front_half.specs.Taking.{class_after}
use Rattle.front_half.specs.Turning.{Turns, Halts}
use Rattle.object_front.specs.declared.evaluated.Evaluated.{Evaluated}
use Rattle.front_half.specs.declared.half.Half.{Half}

-- The class behind these events, where it was this.
abbrev pub class_behind : Script → Option ℕ → List Event → Option ℕ
class_behind script class [] = class
class_behind script class (e ∷ es) = class_behind script (class_after script class e) es

abbrev pub class_by : Script → Option ℕ → Fronted → Option ℕ
class_by script first log = class_behind script first (events log.delivered)

-- The front's class is the one behind the events that were delivered. A front that is stopped may have one of which nothing is logged:
-- that of the object at whose binding memory was wanting.
pub record IsClassed (script : Script) (first : Option ℕ) (half : Half Evaluated) (st : Stood) : Type 0 where
  pub now : is_stopped half ≡ false → st.class ≡ class_by script first (fronted half.log)
  pub stays : (class : ℕ) → class_by script first (fronted half.log) ≡ Some class → st.class ≡ Some class

-- A turn keeps this, also where memory was wanting.
pub record ClassComes : Type 0 where
  pub goes_on : (script : Script) (class : ℕ) (first : Option ℕ) (from : intake.Front) (taken : List Taken) (old new : Half Evaluated) (st : Stood)
      (before got : List Event) (notices_before notices told : List Notice) → is_stopped old ≡ false → IsClassed script first old st
      → IsTakenBy (kind_in script class) from taken st.front (fronted old.log)
      → (turns : Turns seen script old new st before got notices_before notices told) → IsClass turns.led.stood.class class
      → IsClassed script first new turns.led.stood
  pub halts : (script : Script) (class : ℕ) (first : Option ℕ) (from : intake.Front) (taken : List Taken) (old new : Half Evaluated) (st : Stood)
      (before got : List Event) (notices_before notices told : List Notice) → is_stopped old ≡ false → IsClassed script first old st
      → IsTakenBy (kind_in script class) from taken st.front (fronted old.log)
      → (halts : Halts script old new st before got notices_before notices told) → IsClass halts.led.stood.class class
      → IsClassed script first new halts.led.stood
