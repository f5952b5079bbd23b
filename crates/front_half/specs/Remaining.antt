-- What a front that waits for no answer of its back has left. This project's profile.
use Rattle.std.specs.Prelude.{List, None, unwrap_or}
use Rattle.do_tree.specs.Tree.{Script}
use Rattle.timeline.specs.Intake.{Mode, serves, down}
use Rattle.timeline.specs.Left.{left}
use Rattle.timeline.specs.Object.{Object, State, idle, waiting, ended, begun}
use Rattle.timeline.specs.declared.caller.Caller.{Caller}
use Rattle.timeline.specs.declared.notice.Waits.{Waits}
use Rattle.front_turns.specs.Held.{life_in}
use Rattle.front_half.specs.Standing.{Stood}

-- The object between its events. While it isn't mounted it has no task, and nothing is delivered to it.
abbrev pub object_in : State → Object
object_in (idle o) = o
object_in (waiting o t b) = o
object_in (ended cause) = begun None

abbrev pub object_at : Mode → Object
object_at (serves st) = object_in st
object_at (down call) = begun None

abbrev pub left_at : Script → Stood → List (Caller × Waits)
left_at script st =
    left (life_in script (unwrap_or st.class 0) st.front.incarnation) (object_at st.front.mode) st.front.events st.front.said st.deferred
