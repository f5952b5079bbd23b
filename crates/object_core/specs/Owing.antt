-- Whom and what an object names: those who called it, and what it asked.
use Rattle.std.specs.Prelude.{◌≡◌, ◌≤◌, ℕ, true, false, List, ◌++◌, Option}
use Rattle.std.specs.List.{Contains}
use Rattle.do_tree.specs.Tree.{Script}
use Rattle.object_front.specs.Came.{events}
use Rattle.front_half.specs.Standing.{is_stopped}
use Rattle.object_messages.specs.Naming.{asked_in, called_in, messages_of, replied_in, times, times_of}
use Rattle.timeline.specs.Logs.{Fronted, fronted}
use Rattle.timeline.specs.declared.caller.Caller.{Caller}
use Rattle.timeline.specs.declared.message.Message.{Message}
use Rattle.object_core.specs.One.{IsGivenUnasked, IsOne, Origin, TellsNow, messages}
use Rattle.object_core.specs.declared.object.Core.{Core}

-- Nobody gets more replies than he made calls, of those that were delivered or answered by `Down`; and what left of calls and fetches was
-- sent, and left once.
pub record IsOwed (log : Fronted) (gone : List Message) : Type 0 where
  pub replies : (from : Caller) → times from (replied_in gone) ≤ times from (called_in (events log.delivered ++ events log.downed))
  pub asked : (asked : ℕ × ℕ) → Contains (asked_in gone) asked → Contains (asked_in (messages_of log.sent)) asked
  pub once : (asked : ℕ × ℕ) → times_of asked (asked_in gone) ≤ 1

abbrev pub OneIsOwed : {D : Type 0} → (D → ℕ) → (D → ℕ → List ℕ → Type 0) → (D → Option (List ℕ)) → (D → List ℕ → Type 0) → (D → ℕ) → Core D → Type 0
OneIsOwed moment_of left_since told image faults_of core = (script : Script) (origin : Origin) → TellsNow told core.back
    → IsOne moment_of left_since told image faults_of script origin core → IsOwed (fronted core.front.half.log) (messages core.back.log.released.items)

-- A front that stands still was given an answer to a call or a fetch that it didn't make.
abbrev pub OneSticks : {D : Type 0} → (D → ℕ) → (D → ℕ → List ℕ → Type 0) → (D → Option (List ℕ)) → (D → List ℕ → Type 0) → (D → ℕ) → Core D → Type 0
OneSticks moment_of left_since told image faults_of core = (script : Script) (origin : Origin) → TellsNow told core.back
    → IsOne moment_of left_since told image faults_of script origin core → is_stopped core.front.half ≡ false → core.front.half.stuck ≡ true
    → IsGivenUnasked (fronted core.front.half.log) core.inbox.got
