-- The steps of a back over any disk, as its front's side sees them, with whatever maps it is seen before and after.
use Rattle.std.specs.Prelude.{◌≡◌, ◌≢◌, ℕ, true, false, List, [], ◌∷◌, ◌++◌, option_to_list, Option}
use Rattle.storage_map.specs.Contents.{Contents}
use Rattle.storage_map.specs.declared.op.Op.{Op}
use Rattle.timeline.specs.Logs.{backed}
use Rattle.timeline.specs.declared.entry.Entry.{Entry}
use Rattle.timeline.specs.declared.message.Message.{Message}
use Rattle.timeline.specs.declared.notice.Notice.{Notice}
use Rattle.output_gate.specs.Entering.{Takes, is_unfit, notice_with}
use Rattle.output_gate.specs.Flushing.{Flushes}
use Rattle.output_gate.specs.Mending.{Mends}
use Rattle.output_gate.specs.Releasing.{Releases, released_notices}
use Rattle.output_gate.specs.Serving.{alarm_of, IsBack}
use Rattle.output_gate.specs.Taking.{fit_of, may_take}
use Rattle.output_gate.specs.Telling.{opened_map}
use Rattle.output_gate.specs.declared.back.Back.{Back}
use Rattle.output_gate.specs.declared.back.Mode.TheVariants.{Mounted}
use Rattle.object_history.specs.Seen.{rear_of}
use Rattle.object_history.specs.Stepping.{BackSteps, IsMapOf, IsRear}

-- A flush of batches that aren't durable is a flight of all, or the end by a failed append.
abbrev pub FlushSteps : {D : Type 0} → (D → ℕ) → (D → ℕ → List ℕ → Type 0) → (D → Option (List ℕ)) → (D → List ℕ → Type 0) → (D → ℕ) → Back D → Type 0
FlushSteps {D} moment_of left_since told image faults_of back = (start : List (List Op)) (opening : ℕ) (later : Back D) (m n : Contents)
    → IsBack moment_of left_since told image faults_of start opening back → back.before ≢ back.durable → Flushes faults_of back later
    → BackSteps (rear_of m back) (rear_of n later) [] []

-- What is let go is a message, the answer to a sync or the end by a halt; the front is told of the last two, and at a halt of the
-- back's alarm.
abbrev pub ReleaseSteps : {D : Type 0} → (D → ℕ) → (D → ℕ → List ℕ → Type 0) → (D → Option (List ℕ)) → (D → List ℕ → Type 0) → (D → ℕ) → Back D → Type 0
ReleaseSteps {D} moment_of left_since told image faults_of back = (start : List (List Op)) (opening : ℕ) (later : Back D) (m n : Contents)
    (sent_before sent : List Notice) (out_before out : List Message) → IsBack moment_of left_since told image faults_of start opening back
    → (releases : Releases moment_of back later sent_before sent out_before out) → (back.mode ≡ Mounted → n.alarm ≡ alarm_of back)
    → BackSteps (rear_of m back) (rear_of n later) [] (released_notices back releases.first.body)

-- A mounting begins the next incarnation or fails; what the front is told of it is what was sent, where the later map has the alarm of
-- the back that was mounted.
abbrev pub MendSteps : {D : Type 0} → (D → ℕ) → (D → ℕ → List ℕ → Type 0) → (D → Option (List ℕ)) → (D → List ℕ → Type 0) → (D → ℕ) → Back D → Type 0
MendSteps {D} moment_of left_since told image faults_of back = (start : List (List Op)) (opening : ℕ) (later : Back D) (m n : Contents)
    (sent_before sent : List Notice) → IsBack moment_of left_since told image faults_of start opening back → Mends faults_of back later sent_before sent
    → (notices : List Notice) × BackSteps (rear_of m back) (rear_of n later) [] notices
    × ((later.mode ≡ Mounted → n.alarm ≡ alarm_of later) → sent ≡ sent_before ++ notices)

-- Of any back that is seen with the map that is due all is known that these laws take for granted.
abbrev pub BackIsRear : {D : Type 0} → (D → ℕ) → (D → ℕ → List ℕ → Type 0) → (D → Option (List ℕ)) → (D → List ℕ → Type 0) → (D → ℕ) → Back D → Type 0
BackIsRear moment_of left_since told image faults_of back = (start : List (List Op)) (opening : ℕ) (m : Contents)
    → IsBack moment_of left_since told image faults_of start opening back → IsMapOf (opened_map start) (backed back.log) m
    → IsRear (opened_map start) (rear_of m back)

-- An entry that is taken, where it doesn't leave the back stuck, with what the map answers to it.
abbrev pub TakeSteps : {D : Type 0} → (D → ℕ) → (D → ℕ → List ℕ → Type 0) → (D → Option (List ℕ)) → (D → List ℕ → Type 0) → (D → ℕ) → Back D → Type 0
TakeSteps {D} moment_of left_since told image faults_of back = (start : List (List Op)) (opening : ℕ) (later : Back D) (m n : Contents)
    (got_before got : List Entry) (sent_before sent : List Notice) → IsBack moment_of left_since told image faults_of start opening back → may_take back ≡ true
    → (takes : Takes told image back later got_before got sent_before sent) → is_unfit (fit_of back takes.entry) ≡ false
    → BackSteps (rear_of m back) (rear_of n later) (takes.entry ∷ [])
    (option_to_list (notice_with takes.failed (fit_of back takes.entry) takes.entry m))
