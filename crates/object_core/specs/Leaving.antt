-- What an object leaves at rest: the calls that it hasn't answered, and what each waits for.
use Rattle.std.specs.Prelude.{◌≡◌, ℕ, false, List, [], ◌∷◌, Option}
use Rattle.do_tree.specs.Tree.{Script}
use Rattle.object_front.specs.Came.{kept}
use Rattle.front_half.specs.Remaining.{left_at, object_in}
use Rattle.front_half.specs.Standing.{IsClass}
use Rattle.front_half.specs.Taking.{waits}
use Rattle.output_gate.specs.Telling.{opened_map}
use Rattle.storage_map.specs.Contents.{Contents}
use Rattle.timeline.specs.Headline.{life_of, state_of}
use Rattle.timeline.specs.History.{History, history, said_in}
use Rattle.timeline.specs.Left.{left}
use Rattle.timeline.specs.Logs.{Backed, Fronted, backed, fronted}
use Rattle.timeline.specs.declared.caller.Caller.{Caller}
use Rattle.timeline.specs.declared.event.Event.{Event}
use Rattle.timeline.specs.declared.notice.Waits.{Waits}
use Rattle.object_core.specs.Laws.{GoesOn, HasNothingToDo}
use Rattle.object_core.specs.One.{HasItsClass, IsOne, Origin, TellsNow}
use Rattle.object_core.specs.declared.object.Core.{Core}

-- The calls of the newest incarnation without a reply, and the calls among the events that are kept, in the order in which they were taken.
abbrev pub left_by : Script → ℕ → Contents → (keeps : List Event) → History → List (Caller × Waits)
left_by script class opened keeps [] = []
left_by script class opened keeps (i ∷ older) =
    left (life_of script class i) (object_in (state_of script class opened i older)) i.delivered (said_in i.sent) keeps

abbrev pub left_of : Script → ℕ → Contents → Fronted → Backed → (keeps : List Event) → List (Caller × Waits)
left_of script class opened front back keeps = left_by script class opened keeps (history front back)

-- What a front at rest has left is what its logs show.
abbrev pub OneLeaves : {D : Type 0} → (D → ℕ) → (D → ℕ → List ℕ → Type 0) → (D → Option (List ℕ)) → (D → List ℕ → Type 0) → (D → ℕ) → Core D → Type 0
OneLeaves moment_of left_since told image faults_of core = (script : Script) (origin : Origin) → TellsNow told core.back
    → (one : IsOne moment_of left_since told image faults_of script origin core) → (class : ℕ) → IsClass one.st.class class
    → HasItsClass script origin.object → GoesOn core → HasNothingToDo script core
    → left_at script one.st ≡ left_of script class (opened_map origin.start) (fronted core.front.half.log) (backed core.back.log) (kept one.st)

-- Then the front waits for no answer of its back, and for no mounting.
abbrev pub OneRests : {D : Type 0} → (D → ℕ) → (D → ℕ → List ℕ → Type 0) → (D → Option (List ℕ)) → (D → List ℕ → Type 0) → (D → ℕ) → Core D → Type 0
OneRests moment_of left_since told image faults_of core = (script : Script) (origin : Origin) → TellsNow told core.back
    → (one : IsOne moment_of left_since told image faults_of script origin core) → (class : ℕ) → IsClass one.st.class class
    → HasItsClass script origin.object → GoesOn core → HasNothingToDo script core → waits one.st.front.mode ≡ false
