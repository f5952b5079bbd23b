-- Opening the slots, and why it stops.
use Rattle.std.specs.Prelude.{◌≡◌, ◌⊎◌, ◌<◌, ℕ, List, ◌++◌, map, Option, Some, None, IfSome, IsSome, ◌+◌, ◌≤◌, ⊤, vec_len}
use Rattle.std.specs.Vec.{vec_capacity}
use Rattle.std.specs.List.{range_with_len}
use Rattle.batch_journal.specs.Frames.{Frame}
use Rattle.batch_journal.specs.Moments.{LeavesOnly}
use Rattle.batch_journal.specs.Mounting.{ImageOrSame}
use Rattle.batch_journal.specs.Reading.{IsObjectOf}
use Rattle.batch_journal.specs.Recovery.{Recovers}
use Rattle.batch_journal.specs.Refused.{IsForeign, IsDamaged, IsMixed}
use Rattle.do_disk.specs.Asks.{Ask, for_slot}
use Rattle.do_disk.specs.Disk.{IfTold, Rose, next_count}
use Rattle.placement.specs.Slots.{Slots, object_at}
use Rattle.timeline.specs.Headline.{IsPrefix}
use Rattle.host_core.specs.declared.room.Queues.{Queues}
use Rattle.host_core.specs.declared.opening.OpenEnd.{OpenEnd}
use Rattle.host_core.specs.declared.opening.OpenEnd.TheVariants.{Failed, BadSlot}
use Rattle.host_core.specs.declared.settings.Bad.{Bad}
use Rattle.host_core.specs.declared.settings.Bad.TheVariants.{Foreign, Damaged, Mixed, Twice}

-- A disk, which was handed out at 0 faults, isn't mounted, and its count rose.
abbrev pub HasFailedDisk : {S : Type 0} → (S → ℕ) → Option S → Type 0
HasFailedDisk faults_of None = ⊥
HasFailedDisk faults_of (Some disk) = Rose 0 (faults_of disk)

-- A crash at any moment since the first call of the mounting leaves the file of this content.
abbrev pub LeavesFile : {S : Type 0} → (S → ℕ → List ℕ → Type 0) → Option (List ℕ) → S → Type 0
LeavesFile left_since content disk = (c : List ℕ) → left_since disk (next_count 0) c → content ≡ Some c

-- A disk that isn't mounted: what a crash leaves of it, at any moment since it was handed out with a file of this content, is what one might
-- have left of it then, or, where its file wasn't as a mounting leaves it, one that recovers to the same.
pub record LeavesHanded {S : Type 0} (told : S → Option (List ℕ)) (image : S → List ℕ → Type 0) (moment_of : S → ℕ) (left_since : S → ℕ → List ℕ → Type 0)
    (content : Option (List ℕ)) (disk : S) : Type 0 where
  pub handed : S
  pub first : moment_of handed ≡ 0
  pub content_is : told handed ≡ content
  pub leaves : LeavesOnly moment_of left_since handed disk (ImageOrSame (told handed) (image handed))

-- The file names this object.
pub record NamesObject (file : List ℕ) (object : List ℕ × List ℕ) : Type 0 where
  pub frames : List Frame
  pub recovers : Recovers file frames
  pub names : IsObjectOf (Some object) frames

-- The slot behind those that were mounted is bad so: its file is foreign, damaged or mixed, or names the object of one of these.
abbrev pub IsBad : (contents : ℕ → Option (List ℕ)) → (named : Slots) → (at : ℕ) → Bad → Type 0
IsBad contents named at (Foreign slot place) = (slot ≡ at) × IfTold (contents at) (λ file. IsForeign file place)
IsBad contents named at (Damaged slot place) = (slot ≡ at) × IfTold (contents at) (λ file. IsDamaged file place)
IsBad contents named at (Mixed slot first other) = (slot ≡ at) × IfTold (contents at) (λ file. IsMixed file first other)
IsBad contents named at (Twice a b) =
    (b ≡ at) × (a < at) × ((object : List ℕ × List ℕ) × (object_at named a ≡ Some object) × IfTold (contents at) (λ file. NamesObject file object))

-- A bad slot whose file isn't written: any but one that names the object of another.
abbrev pub IsRefused : Bad → Type 0
IsRefused (Twice a b) = ⊥
IsRefused other = ⊤

-- Why opening stops at this slot, and its disk, where it was handed out. Only a foreign, damaged or mixed file is as it was for sure.
pub record StopsOpening {S : Type 0} (told : S → Option (List ℕ)) (image : S → List ℕ → Type 0) (moment_of : S → ℕ) (left_since : S → ℕ → List ℕ → Type 0)
    (faults_of : S → ℕ)
    (contents : ℕ → Option (List ℕ)) (named : Slots) (at : ℕ) (faults faults_after : ℕ) (unopened : Option S) (end : OpenEnd) : Type 0 where
  pub failed : end ≡ Failed → Rose faults faults_after ⊎ HasFailedDisk faults_of unopened
  pub bad : (bad : Bad) → end ≡ BadSlot bad → IsBad contents named at bad × IsSome unopened
  pub handed : IfSome unopened (LeavesHanded told image moment_of left_since (contents at))
  pub untouched : (bad : Bad) → end ≡ BadSlot bad → IsRefused bad → IfSome unopened (LeavesFile left_since (contents at))

-- The questions for the slots of a folder, from slot 0 on.
abbrev pub slot_asks : List ℕ → ℕ → List Ask
slot_asks folder slots = map (for_slot folder) (range_with_len 0 slots)

-- Of these questions, in order, the first ones were asked.
pub record Asks (before after asks : List Ask) : Type 0 where
  pub asked : List Ask
  pub added : after ≡ before ++ asked
  pub first : IsPrefix asked asks

-- So many queues more can be put without further memory.
pub record HasRoom (more : ℕ) (queues : Queues) : Type 0 where
  pub inboxes : vec_len queues.inboxes + more ≤ vec_capacity queues.inboxes
  pub outs : vec_len queues.outs + more ≤ vec_capacity queues.outs
