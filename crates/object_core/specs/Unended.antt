-- What left of an object of which no incarnation has stopped.
use Rattle.std.specs.Prelude.{◌≡◌, ℕ, List, [], Option}
use Rattle.do_tree.specs.Tree.{Script}
use Rattle.object_messages.specs.Ends.{TellNoEnd}
use Rattle.object_core.specs.One.{IsOne, Origin, TellsNow, messages}
use Rattle.object_core.specs.declared.object.Core.{Core}

-- While the disk tells its content, and no incarnation has stopped, no message that left tells of an end.
abbrev pub OneTellsNoEnd : {D : Type 0} → (D → ℕ) → (D → ℕ → List ℕ → Type 0) → (D → Option (List ℕ)) → (D → List ℕ → Type 0) → (D → ℕ) → Core D → Type 0
OneTellsNoEnd moment_of left_since told image faults_of core = (script : Script) (origin : Origin) → TellsNow told core.back
    → IsOne moment_of left_since told image faults_of script origin core → core.back.log.stops.items ≡ [] → TellNoEnd (messages core.back.log.released.items)
