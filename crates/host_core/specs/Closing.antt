-- The row of an object, and what the object has left.
use Rattle.std.specs.Prelude.{◌≡◌, ◌⊎◌, ◌+◌, ◌++◌, false, ℕ, List, [], map, slice_get, Option, Some, Result, Ok}
use Rattle.batch_journal.specs.Moments.{IsTold}
use Rattle.do_tree.specs.Tree.{Script}
use Rattle.do_value.specs.declared.fault.NoMemory.{NoMemory}
use Rattle.lane.specs.Lanes.{Both}
use Rattle.mailbox.specs.Posting.{of_slot}
use Rattle.object_front.specs.Evaluated.{seen}
use Rattle.front_half.specs.Remaining.{left_at}
use Rattle.front_half.specs.Standing.{Stood, IsHalf}
use Rattle.front_half.specs.Taking.{waits}
use Rattle.object_front.specs.declared.evaluated.Evaluated.{Evaluated}
use Rattle.front_half.specs.declared.half.Half.{Half}
use Rattle.placement.specs.Slots.{Slots, object_at}
use Rattle.storage_map.specs.Limits.{Object}
use Rattle.timeline.specs.Logs.{fronted}
use Rattle.timeline.specs.Switch.{SwitchLog}
use Rattle.timeline.specs.declared.caller.Caller.{Caller}
use Rattle.timeline.specs.declared.event.Event.{Event}
use Rattle.timeline.specs.declared.message.Message.{Message}
use Rattle.timeline.specs.declared.notice.Waits.{Waits}
use Rattle.object_core.specs.One.{HasItsClass, IsGivenUnasked}
use Rattle.object_core.specs.declared.object.Core.{Core}
use Rattle.host_workers.specs.declared.joining.Halves.{Halves}
use Rattle.host_core.specs.Quiet.{IsLetGo, IsOfNoClass, IsSettled, IsUntouched, remaining_of}
use Rattle.host_core.specs.Rows.{IsRow}
use Rattle.host_core.specs.Slots.{IsGoing, IsResting, IsSlot}
use Rattle.host_core.specs.declared.report.SlotReport.{SlotReport}

-- The row tells of this object, whichever slot it stands in.
abbrev pub IsRowOf : {D : Type 0} (moment_of : D → ℕ) (left_since : D → ℕ → List ℕ → Type 0) (told : D → Option (List ℕ)) (image : D → List ℕ → Type 0)
    (faults_of : D → ℕ)
    → Core D → SlotReport D → Type 0
IsRowOf moment_of left_since told image faults_of core row = (limit : ℕ) (script : Script) (content : Option (List ℕ)) (named : Option Object)
    (posts : List Event) (routed : List Message) (inbox : Both Event) (out : Both Message)
    → IsSlot moment_of left_since told image faults_of limit script content named posts routed core inbox out
    → IsRow moment_of left_since told faults_of limit script content named posts routed row

-- The halves of each slot from this one on are those of an object that stands by what was posted to the slot and routed from it.
abbrev pub AreHalves : {D : Type 0} (moment_of : D → ℕ) (left_since : D → ℕ → List ℕ → Type 0) (told : D → Option (List ℕ)) (image : D → List ℕ → Type 0)
    (faults_of : D → ℕ)
    → (limit : ℕ) → Script → (contents : ℕ → Option (List ℕ)) → (named : Slots) → SwitchLog → (from : ℕ) → List (Halves D) → Type 0
AreHalves {D} moment_of left_since told image faults_of limit script contents named log from apart = (at : ℕ) (halves : Halves D)
    → slice_get apart at ≡ Some halves
    → (core : Core D) × (inbox : Both Event) × (out : Both Message) × (core.front ≡ halves.front) × (core.back ≡ halves.back)
    × IsSlot moment_of left_since told image faults_of limit script (contents (from + at)) (object_at named (from + at))
    (of_slot (from + at) log.posts) (of_slot (from + at) log.routed) core inbox out

-- Where the object goes on and rests, and none of its messages waits to be routed, the row tells that nothing of it is held back.
abbrev pub IsLetGoOf : {D : Type 0} (moment_of : D → ℕ) (left_since : D → ℕ → List ℕ → Type 0) (told : D → Option (List ℕ)) (image : D → List ℕ → Type 0)
    (faults_of : D → ℕ)
    → Core D → SlotReport D → Type 0
IsLetGoOf moment_of left_since told image faults_of core row = (limit : ℕ) (script : Script) (content : Option (List ℕ)) (named : Option Object)
    (posts : List Event) (routed : List Message) (inbox : Both Event) (out : Both Message)
    → IsGoing moment_of left_since told image faults_of limit script content named posts routed core inbox out
    → IsResting script core inbox → out.waiting ≡ [] → IsLetGo told script named routed row

-- A front that waits for no answer of its back has left this.
abbrev pub IsLeftOf : Half Evaluated → List (Caller × Waits) → Type 0
IsLeftOf front remaining = (script : Script) (st : Stood) → IsHalf seen script front st → waits st.front.mode ≡ false → remaining ≡ left_at script st

-- What is left of a slot, with the slot.
abbrev pub with_slot : ℕ → List (Caller × Waits) → List (ℕ × Caller × Waits)
with_slot slot remaining = map (λ item. (slot, item.0, item.1)) remaining

-- What this front has left stands behind what others had, with its slot; memory was wanting for none of them.
pub record AddsLeft (slot : ℕ) (front : Half Evaluated) (asked : Result (Unit {0}) NoMemory) (old new : List (ℕ × Caller × Waits)) : Type 0 where
  pub asked_others : asked ≡ Ok tt
  pub remaining : List (Caller × Waits)
  pub added : new ≡ old ++ with_slot slot remaining
  pub is_left : IsLeftOf front remaining

-- A slot with an object of a class that the script has, or with none, is quiet while its disk tells its content; or its front stands still at an
-- answer to what it didn't ask. One with an object of another class is as it was where nothing was posted to it.
pub record IsSettledUnless {D : Type 0} (told : D → Option (List ℕ)) (limit : ℕ) (script : Script) (content : Option (List ℕ)) (named : Option Object)
    (posts : List Event)
    (routed : List Message) (remaining : List (Caller × Waits)) (row : SlotReport D) : Type 0 where
  pub known : IsTold (told row.store) → HasItsClass script named
      → IsGivenUnasked (fronted row.front) posts ⊎ IsSettled limit script content named posts routed remaining row
  pub unknown : IsTold (told row.store) → IsOfNoClass script named → posts ≡ [] → IsUntouched posts routed remaining row

-- So does the row of this object tell, where it goes on and rests, none of its messages waits to be routed, and its front has left this.
abbrev pub IsSettledOf : {D : Type 0} (moment_of : D → ℕ) (left_since : D → ℕ → List ℕ → Type 0) (told : D → Option (List ℕ)) (image : D → List ℕ → Type 0)
    (faults_of : D → ℕ)
    → Core D → SlotReport D → Type 0
IsSettledOf moment_of left_since told image faults_of core row = (limit : ℕ) (script : Script) (content : Option (List ℕ)) (named : Option Object)
    (posts : List Event) (routed : List Message) (inbox : Both Event) (out : Both Message)
    → IsGoing moment_of left_since told image faults_of limit script content named posts routed core inbox out
    → IsResting script core inbox → out.waiting ≡ [] → (remaining : List (Caller × Waits)) → IsLeftOf core.front.half remaining
    → IsSettledUnless told limit script content named posts routed remaining row

-- Each row tells this of its own slot.
abbrev pub AreSettledUnless : {D : Type 0} (told : D → Option (List ℕ)) → (limit : ℕ) → Script → (contents : ℕ → Option (List ℕ)) → (named : Slots) → SwitchLog
    → (left : List (ℕ × Caller × Waits)) → List (SlotReport D) → Type 0
AreSettledUnless {D} told limit script contents named log left rows = (slot : ℕ) (row : SlotReport D) → slice_get rows slot ≡ Some row
    → IsSettledUnless told limit script (contents slot) (object_at named slot) (of_slot slot log.posts) (of_slot slot log.routed) (remaining_of slot left) row
