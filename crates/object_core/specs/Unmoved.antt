-- What an object says that was given nothing.
use Rattle.std.specs.Prelude.{◌≡◌, ℕ, List, [], Option}
use Rattle.do_tree.specs.Tree.{Script}
use Rattle.object_messages.specs.Naming.{messages_of}
use Rattle.timeline.specs.Logs.{fronted}
use Rattle.object_core.specs.One.{IsOne, Origin, TellsNow}
use Rattle.object_core.specs.Owing.{OneIsOwed}
use Rattle.object_core.specs.declared.object.Core.{Core}

-- While the disk tells its content: where the front got no event, it has sent no message.
abbrev pub OneSaysNothing : {D : Type 0} → (D → ℕ) → (D → ℕ → List ℕ → Type 0) → (D → Option (List ℕ)) → (D → List ℕ → Type 0) → (D → ℕ) → Core D → Type 0
OneSaysNothing moment_of left_since told image faults_of core = (script : Script) (origin : Origin) → TellsNow told core.back
    → IsOne moment_of left_since told image faults_of script origin core → core.inbox.got ≡ [] → messages_of (fronted core.front.half.log).sent ≡ []

-- So each object, whichever: none gets more replies of it than he made calls, what left was sent, and nothing was where no event came.
abbrev pub AllAreOwed : {D : Type 0} → (D → ℕ) → (D → ℕ → List ℕ → Type 0) → (D → Option (List ℕ)) → (D → List ℕ → Type 0) → (D → ℕ) → Type 0
AllAreOwed {D} moment_of left_since told image faults_of = (core : Core D) → OneIsOwed moment_of left_since told image faults_of core

abbrev pub AllSayNothing : {D : Type 0} → (D → ℕ) → (D → ℕ → List ℕ → Type 0) → (D → Option (List ℕ)) → (D → List ℕ → Type 0) → (D → ℕ) → Type 0
AllSayNothing {D} moment_of left_since told image faults_of = (core : Core D) → OneSaysNothing moment_of left_since told image faults_of core
