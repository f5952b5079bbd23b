-- What an object dropped, where the events that it got fit it.
use Rattle.std.specs.Prelude.{◌≤◌, ◌==◌, ◌&&◌, ℕ, Bool, false, List, length, Option}
use Rattle.std.specs.List.{All, IsDistinct}
use Rattle.do_tree.specs.Tree.{Script}
use Rattle.lane.specs.Lanes.{StartsWith}
use Rattle.timeline.specs.Logs.{Fronted, fronted}
use Rattle.timeline.specs.declared.back_log.Missed.{Missed}
use Rattle.timeline.specs.declared.event.Event.{Event}
use Rattle.timeline.specs.declared.event.Event.TheVariants as event
use Rattle.object_core.specs.Dropping.{AreFitting, MayDrop}
use Rattle.object_core.specs.One.{IsOne, Origin, TellsNow, class_in}
use Rattle.object_core.specs.declared.object.Core.{Core}

-- Both answer the same call or fetch; and among these events no two do.
abbrev pub same_answer : Event → Event → Bool
same_answer (event.Answer incarnation number result at) (event.Answer other that r moment) = (incarnation == other) && (number == that)
same_answer e other = false

abbrev pub AreAnsweredOnce : List Event → Type 0
AreAnsweredOnce es = IsDistinct same_answer es

-- Of an answer: its incarnation has ended.
abbrev pub IsOfEnded : Fronted → Event → Type 0
IsOfEnded log (event.Answer incarnation number result at) = incarnation ≤ length log.ends
IsOfEnded log e = Unit {0}

-- No call and no binding was dropped; a tick or an eviction only where a mounting had failed; an answer only where its incarnation had ended,
-- or where one to the same call or fetch was delivered, of which there is none where each gets at most one.
pub record DropsOnly (events : List Event) (log : Fronted) (downs : List Missed) : Type 0 where
  pub each : All (MayDrop log downs) log.dropped
  pub answers : AreAnsweredOnce events → All (IsOfEnded log) log.dropped

-- While the object's disk tells its content: where the events fit it of which it got the first.
abbrev pub OneDrops : {D : Type 0} → (D → ℕ) → (D → ℕ → List ℕ → Type 0) → (D → Option (List ℕ)) → (D → List ℕ → Type 0) → (D → ℕ) → Core D → Type 0
OneDrops moment_of left_since told image faults_of core = (script : Script) (origin : Origin) → TellsNow told core.back
    → IsOne moment_of left_since told image faults_of script origin core → (events : List Event) → StartsWith events core.inbox.got
    → AreFitting script (class_in script origin.object) events → DropsOnly events (fronted core.front.half.log) core.back.log.downs.items
