-- The cells of an object's halves, once both have ended and their lanes were closed.
use Rattle.std.specs.Prelude.{◌≡◌, ℕ, ℤ, List, [], ◌++◌, Option}
use Rattle.lane.specs.Lanes.{Both, sent_on}
use Rattle.timeline.specs.declared.entry.Entry.{Entry}
use Rattle.timeline.specs.declared.event.Event.{Event}
use Rattle.timeline.specs.declared.message.Message.{Message as Sent}
use Rattle.timeline.specs.declared.notice.Notice.{Notice}
use Rattle.object_core.specs.Alone.{AreApart}
use Rattle.object_core.specs.One.{IsOne, Origin, class_in}
use Rattle.object_core.specs.declared.object.Core.{Core}
use Rattle.host_workers.specs.Backs.{IsCellAlone}
use Rattle.host_workers.specs.Fronts.{IsFrontCell, script_of}
use Rattle.host_workers.specs.declared.back_cell.BackCell.{BackCell}
use Rattle.host_workers.specs.declared.front_cell.FrontCell.{FrontCell}

-- What a lane still has: of what was sent on it all that wasn't taken waits.
abbrev pub IsRestOf : {X : Type 0} → (sent got : List X) → Both X → Type 0
IsRestOf sent got rest = sent ≡ got ++ rest.waiting

-- With these lanes between them: the front was made with the class of the slot's object, and with the alarm of its map.
pub record AreEnded {D T : Type 0} (moment_of : D → ℕ) (left_since : D → ℕ → List ℕ → Type 0) (told : D → Option (List ℕ))
    (image : D → List ℕ → Type 0) (faults_of : D → ℕ) (origin : Origin) (alarm : Option (ℤ × ℕ)) (front : FrontCell T)
    (back : BackCell D T) (inbox : Both Event) (line : Both Entry) (notices : Both Notice) (out : Both Sent) : Type 0 where
  pub is_front : IsFrontCell (class_in (script_of front) origin.object) alarm front
  pub is_back : IsCellAlone moment_of left_since told image faults_of origin.start origin.opening origin.object origin.extent alarm back
  pub inbox_got : inbox.got ≡ front.inbox.got
  pub line_rest : IsRestOf front.line.sent back.line.got line
  pub notices_rest : IsRestOf back.notices.sent front.notices.got notices
  pub out_rest : back.out.sent ≡ origin.left ++ sent_on out

-- They are halves that ran apart, as they are joined to one object.
abbrev pub CellsAreApart : {D T : Type 0} → (D → ℕ) → (D → ℕ → List ℕ → Type 0) → (D → Option (List ℕ)) → (D → List ℕ → Type 0) → (D → ℕ)
    → FrontCell T → BackCell D T → Type 0
CellsAreApart moment_of left_since told image faults_of front back = (origin : Origin) (alarm : Option (ℤ × ℕ)) (inbox : Both Event) (line : Both Entry)
    (notices : Both Notice) (out : Both Sent) → AreEnded moment_of left_since told image faults_of origin alarm front back inbox line notices out
    → AreApart moment_of left_since told image faults_of (script_of front) origin front.front.half inbox back.back line notices out

-- The object of these cells' halves, over what was posted to it and what was taken of it: whatever its halves began with, it is one of that.
pub record IsJoined {D T : Type 0} (moment_of : D → ℕ) (left_since : D → ℕ → List ℕ → Type 0) (told : D → Option (List ℕ))
    (image : D → List ℕ → Type 0) (faults_of : D → ℕ) (front : FrontCell T) (back : BackCell D T) (posts : List Event) (taken : List Sent)
    (core : Core D) : Type 0 where
  pub front_is : core.front ≡ front.front
  pub back_is : core.back ≡ back.back
  pub given : sent_on core.inbox ≡ posts
  pub collected : core.out.got ≡ taken
  pub one : (origin : Origin) (alarm : Option (ℤ × ℕ)) → origin.left ≡ [] → IsFrontCell (class_in (script_of front) origin.object) alarm front
      → IsCellAlone moment_of left_since told image faults_of origin.start origin.opening origin.object origin.extent alarm back
      → IsOne moment_of left_since told image faults_of (script_of front) origin core
