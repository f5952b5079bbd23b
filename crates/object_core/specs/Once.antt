-- Who called an object at rest got one reply or is left.
use Rattle.std.specs.Prelude.{◌≡◌, ℕ, List, [], Option}
use Rattle.do_tree.specs.Tree.{Script}
use Rattle.lane.specs.Lanes.{sent_on}
use Rattle.front_half.specs.Remaining.{left_at}
use Rattle.object_messages.specs.Exact.{IsServedOnce, callers}
use Rattle.object_messages.specs.Naming.{called_in, replied_in}
use Rattle.timeline.specs.Logs.{fronted}
use Rattle.object_core.specs.Laws.{GoesOn, HasNothingToDo}
use Rattle.object_core.specs.One.{HasItsClass, IsOne, Origin, TellsNow}
use Rattle.object_core.specs.declared.object.Core.{Core}

-- Of those whose calls the front got, once, each got one reply among the messages that left, or is left; where no call was dropped.
abbrev pub OneServesOnce : {D : Type 0} → (D → ℕ) → (D → ℕ → List ℕ → Type 0) → (D → Option (List ℕ)) → (D → List ℕ → Type 0) → (D → ℕ) → Core D → Type 0
OneServesOnce moment_of left_since told image faults_of core = (script : Script) (origin : Origin) → TellsNow told core.back
    → (one : IsOne moment_of left_since told image faults_of script origin core)
    → HasItsClass script origin.object → GoesOn core → HasNothingToDo script core → origin.left ≡ [] → called_in (fronted core.front.half.log).dropped ≡ []
    → IsServedOnce (called_in core.inbox.got) (replied_in (sent_on core.out)) (callers (left_at script one.st))
