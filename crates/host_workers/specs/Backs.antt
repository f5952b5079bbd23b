-- What the cell of a back has taken, told and let go.
use Rattle.std.specs.Prelude.{◌≡◌, ◌≤◌, ℕ, ℤ, false, List, [], ◌++◌, length, Option}
use Rattle.storage_map.specs.Limits.{Object}
use Rattle.storage_map.specs.declared.op.Op.{Op}
use Rattle.timeline.specs.Logs.{backed}
use Rattle.timeline.specs.declared.entry.Entry.{Entry}
use Rattle.timeline.specs.declared.message.Message.{Message as Sent}
use Rattle.timeline.specs.declared.notice.Notice.{Notice}
use Rattle.output_gate.specs.Logs.{no_log}
use Rattle.output_gate.specs.Serving.{IsBack, is_stopped}
use Rattle.output_gate.specs.declared.back.Back.{Back}
use Rattle.object_core.specs.Alone.{IsBackAlone}
use Rattle.object_core.specs.Limited.{Extent}
use Rattle.object_core.specs.One.{messages}
use Rattle.host_workers.specs.Runs.{Tells}
use Rattle.host_workers.specs.declared.back_cell.BackCell.{BackCell}

-- A back of a slot that was just mounted: nothing is logged and nothing is held.
pub record IsFresh {D : Type 0} (back : Back D) : Type 0 where
  pub log : backed back.log ≡ no_log
  pub held : back.held.items ≡ []
  pub free : back.stuck ≡ false
  pub serves : is_stopped back ≡ false

-- What a back has logged as taken is what its end of the line gave, but for the last entry, at which it is stuck or stopped. What it has
-- logged as released is what was sent on its lane out; and the notices that were sent to its front are those of its steps.
pub record IsBackOver {D : Type 0} (moment_of : D → ℕ) (left_since : D → ℕ → List ℕ → Type 0) (told : D → Option (List ℕ))
    (image : D → List ℕ → Type 0) (faults_of : D → ℕ) (start : List (List Op)) (opening : ℕ) (back : Back D) (got : List Entry)
    (notices : List Notice) (out : List Sent) : Type 0 where
  pub stands : IsBack moment_of left_since told image faults_of start opening back
  pub lost : List Entry
  pub few : length lost ≤ 1
  pub none_lost : back.stuck ≡ false → is_stopped back ≡ false → lost ≡ []
  pub took : got ≡ back.log.taken.items ++ lost
  pub left : messages back.log.released.items ≡ out
  pub tells : Tells told start back notices

-- So is the back of a cell, over what went through the cell's own ends.
abbrev pub IsBackCell : {D T : Type 0} → (D → ℕ) → (D → ℕ → List ℕ → Type 0) → (D → Option (List ℕ)) → (D → List ℕ → Type 0) → (D → ℕ)
    → (start : List (List Op)) → (opening : ℕ) → BackCell D T → Type 0
IsBackCell moment_of left_since told image faults_of start opening cell =
    IsBackOver moment_of left_since told image faults_of start opening cell.back cell.line.got cell.notices.sent cell.out.sent

abbrev pub CanStep : {D T : Type 0} → (D → ℕ) → (D → ℕ → List ℕ → Type 0) → (D → Option (List ℕ)) → (D → List ℕ → Type 0) → (D → ℕ)
    → BackCell D T → Type 0
CanStep moment_of left_since told image faults_of cell =
    (start : List (List Op)) × (opening : ℕ) × IsBackCell moment_of left_since told image faults_of start opening cell

abbrev pub KeepsBackCell : {D T : Type 0} → (D → ℕ) → (D → ℕ → List ℕ → Type 0) → (D → Option (List ℕ)) → (D → List ℕ → Type 0) → (D → ℕ)
    → (old new : BackCell D T) → Type 0
KeepsBackCell moment_of left_since told image faults_of old new = (start : List (List Op)) (opening : ℕ)
    → IsBackCell moment_of left_since told image faults_of start opening old → IsBackCell moment_of left_since told image faults_of start opening new

-- Of the back of a slot with this object, this journal's extent and this alarm when it was mounted: what is known of it where it ran alone, over what went
-- through the cell's own ends.
abbrev pub IsCellAlone : {D T : Type 0} → (D → ℕ) → (D → ℕ → List ℕ → Type 0) → (D → Option (List ℕ)) → (D → List ℕ → Type 0) → (D → ℕ)
    → (start : List (List Op)) → (opening : ℕ) → Option Object → Extent → (alarm : Option (ℤ × ℕ)) → BackCell D T → Type 0
IsCellAlone moment_of left_since told image faults_of start opening object extent alarm cell =
    IsBackAlone moment_of left_since told image faults_of start opening object extent alarm cell.back cell.line.got cell.notices.sent cell.out.sent

abbrev pub KeepsCellAlone : {D T : Type 0} → (D → ℕ) → (D → ℕ → List ℕ → Type 0) → (D → Option (List ℕ)) → (D → List ℕ → Type 0) → (D → ℕ)
    → (old new : BackCell D T) → Type 0
KeepsCellAlone moment_of left_since told image faults_of old new = (start : List (List Op)) (opening : ℕ) (object : Option Object) (extent : Extent)
    (alarm : Option (ℤ × ℕ)) → IsCellAlone moment_of left_since told image faults_of start opening object extent alarm old
    → IsCellAlone moment_of left_since told image faults_of start opening object extent alarm new

-- The ends are those of the same lanes.
pub record SameLanes {D T : Type 0} (old new : BackCell D T) : Type 0 where
  pub line : (new.line.lane ≡ old.line.lane) × (new.line.told ≡ old.line.told)
  pub notices : new.notices.lane ≡ old.notices.lane
  pub out : new.out.lane ≡ old.out.lane
