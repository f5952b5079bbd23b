-- What a fetch is at which an object at rest leaves a call.
use Rattle.std.specs.Prelude.{◌≡◌, ℕ, List, [], Option}
use Rattle.std.specs.List.{Contains}
use Rattle.do_tree.specs.Tree.{Script}
use Rattle.lane.specs.Lanes.{sent_on}
use Rattle.front_half.specs.Remaining.{left_at}
use Rattle.object_messages.specs.Naming.{answered_in, fetched_in}
use Rattle.timeline.specs.declared.caller.Caller.{Caller}
use Rattle.timeline.specs.declared.event.Event.{Event}
use Rattle.timeline.specs.declared.message.Message.{Message}
use Rattle.timeline.specs.declared.notice.Waits.TheVariants as waits
use Rattle.object_core.specs.Dropping.{AreFitting}
use Rattle.object_core.specs.Laws.{GoesOn, HasNothingToDo}
use Rattle.object_core.specs.One.{HasItsClass, IsOne, Origin, TellsNow, class_in}
use Rattle.object_core.specs.declared.object.Core.{Core}

-- A fetch that was let go, and to which no answer was given.
pub record IsUnanswered (got : List Event) (gone : List Message) (asked : ℕ × ℕ) : Type 0 where
  pub let_go : Contains (fetched_in gone) asked
  pub none_given : Contains (answered_in got) asked → ⊥

-- While the disk tells its content: where nothing is to be done in an object that goes on, and the events that it got fit it, each fetch for
-- which a call that it leaves waits is such.
abbrev pub OneWaitsForFetches : {D : Type 0} → (D → ℕ) → (D → ℕ → List ℕ → Type 0) → (D → Option (List ℕ)) → (D → List ℕ → Type 0) → (D → ℕ) → Core D → Type 0
OneWaitsForFetches moment_of left_since told image faults_of core = (script : Script) (origin : Origin) → TellsNow told core.back
    → (one : IsOne moment_of left_since told image faults_of script origin core)
    → HasItsClass script origin.object → GoesOn core → HasNothingToDo script core → origin.left ≡ []
    → AreFitting script (class_in script origin.object) core.inbox.got → (from : Caller) (incarnation number : ℕ)
    → Contains (left_at script one.st) (from, waits.Fetch incarnation number)
    → IsUnanswered core.inbox.got (sent_on core.out) (incarnation, number)
