-- What an object says and leaves that has no class, and one whose class its script hasn't.
use Rattle.std.specs.Prelude.{◌≡◌, ℕ, false, List, [], Option, None}
use Rattle.do_tree.specs.Tree.{Script}
use Rattle.lane.specs.Lanes.{sent_on}
use Rattle.object_front.specs.Came.{kept}
use Rattle.object_front.specs.Classed.{class_by}
use Rattle.front_half.specs.Remaining.{left_at}
use Rattle.front_half.specs.Standing.{Stood, is_stopped}
use Rattle.object_messages.specs.Naming.{messages_of}
use Rattle.object_messages.specs.Unmoved.{AreAnswers}
use Rattle.timeline.specs.Logs.{Backed, Fronted, backed, fronted}
use Rattle.timeline.specs.declared.caller.Caller.{Caller}
use Rattle.timeline.specs.declared.event.Event.{Event}
use Rattle.timeline.specs.declared.message.Message.{Message}
use Rattle.timeline.specs.declared.notice.Waits.{Waits}
use Rattle.object_core.specs.Dropping.{HasSaidNothing}
use Rattle.object_core.specs.Laws.{HasLetGo, HasNothingToDo}
use Rattle.object_core.specs.One.{IsOne, Origin, TellsNow, class_in}
use Rattle.object_core.specs.declared.object.Core.{Core}

-- Its front has said nothing, nothing of it was taken or released, and no incarnation has ended.
pub record HasDoneNothing (log : Fronted) (back : Backed) : Type 0 where
  pub said : HasSaidNothing log
  pub taken : back.taken ≡ []
  pub released : back.released ≡ []
  pub stops : back.stops ≡ []

-- It has let go all that passes; no event was delivered, answered by `Down` or dropped, and none is kept; nothing was sent or taken; and no
-- call is left.
pub record IsUnmoved (log : Fronted) (back : Backed) (gone : List Message) (keeps : List Event) (leaves : List (Caller × Waits)) : Type 0 where
  pub let_go : HasLetGo log back gone
  pub delivered : log.delivered ≡ []
  pub downed : log.downed ≡ []
  pub dropped : log.dropped ≡ []
  pub sent : log.sent ≡ []
  pub taken : back.taken ≡ []
  pub kept : keeps ≡ []
  pub left : leaves ≡ []

-- While the disk tells its content: as long as it has no class by its log it has done nothing, whether memory was wanting or not, though the
-- one event that was lost then may be its binding. Of a slot with an object of no class: where each event that the front got is an answer it
-- has sent no message; and where it got none, memory wasn't wanting at it and nothing is to be done, it is unmoved.
pub record TellsWithoutClass {D : Type 0} (script : Script) (origin : Origin) (core : Core D) (st : Stood) : Type 0 where
  pub unbound : class_by script (class_in script origin.object) (fronted core.front.half.log) ≡ None
      → HasDoneNothing (fronted core.front.half.log) (backed core.back.log)
  pub asks : class_in script origin.object ≡ None → AreAnswers core.inbox.got → messages_of (fronted core.front.half.log).sent ≡ []
  pub rests : class_in script origin.object ≡ None → core.inbox.got ≡ [] → is_stopped core.front.half ≡ false → HasNothingToDo script core
      → origin.left ≡ [] → IsUnmoved (fronted core.front.half.log) (backed core.back.log) (sent_on core.out) (kept st) (left_at script st)

abbrev pub OneWithoutClass : {D : Type 0} → (D → ℕ) → (D → ℕ → List ℕ → Type 0) → (D → Option (List ℕ)) → (D → List ℕ → Type 0) → (D → ℕ) → Core D → Type 0
OneWithoutClass moment_of left_since told image faults_of core = (script : Script) (origin : Origin) → TellsNow told core.back
    → (one : IsOne moment_of left_since told image faults_of script origin core) → TellsWithoutClass script origin core one.st
