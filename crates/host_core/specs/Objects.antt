-- The slots of a run, all of them.
use Rattle.std.specs.Prelude.{◌≡◌, ◌<◌, ℕ, List, [], length, slice_get, Option, Some}
use Rattle.std.specs.List.{All}
use Rattle.do_tree.specs.Tree.{Script}
use Rattle.lane.specs.Lanes.{Both}
use Rattle.timeline.specs.Switch.{SwitchLog}
use Rattle.timeline.specs.declared.event.Event.{Event}
use Rattle.timeline.specs.declared.message.Message.{Message}
use Rattle.mailbox.specs.Posting.{of_slot}
use Rattle.object_core.specs.One.{CanRun, TellsNow}
use Rattle.object_core.specs.declared.object.Core.{Core}
use Rattle.placement.specs.Slots.{Slots, object_at}
use Rattle.host_core.specs.Slots.{IsSlot, IsGoing, IsResting}
use Rattle.host_core.specs.declared.objects.Objects.{Objects}

-- Each slot has its object and both its queues, of which this holds.
pub record AllSlots {D : Type 0} (P : ℕ → Core D → Both Event → Both Message → Type 0) (objects : Objects D) : Type 0 where
  pub inboxes : length objects.inboxes.items ≡ length objects.cores.items
  pub outs : length objects.outs.items ≡ length objects.cores.items
  pub each : (slot : ℕ) (core : Core D) (inbox : Both Event) (out : Both Message) → slice_get objects.cores.items slot ≡ Some core
      → slice_get objects.inboxes.items slot ≡ Some inbox → slice_get objects.outs.items slot ≡ Some out → P slot core inbox out

-- An object can run in each slot.
abbrev pub CanAllRun : {D : Type 0} (moment_of : D → ℕ) (left_since : D → ℕ → List ℕ → Type 0) (told : D → Option (List ℕ)) (image : D → List ℕ → Type 0)
    (faults_of : D → ℕ)
    → Script → Objects D → Type 0
CanAllRun moment_of left_since told image faults_of script = AllSlots (λ slot core inbox out. CanRun moment_of left_since told image faults_of script core)

module _ {D : Type 0} (moment_of : D → ℕ) (left_since : D → ℕ → List ℕ → Type 0) (told : D → Option (List ℕ)) (image : D → List ℕ → Type 0) (faults_of : D → ℕ)
    (limit : ℕ) (script : Script) where
  -- Each slot stands by what was posted to it and routed from it; and as long as memory suffices it goes on.
  abbrev pub AreSlots : (contents : ℕ → Option (List ℕ)) (named : Slots) → SwitchLog → Objects D → Type 0
  AreSlots contents named log = AllSlots (λ slot core inbox out.
      IsSlot moment_of left_since told image faults_of limit script (contents slot) (object_at named slot) (of_slot slot log.posts)
      (of_slot slot log.routed) core inbox out)

  abbrev pub AreGoing : (contents : ℕ → Option (List ℕ)) (named : Slots) → SwitchLog → Objects D → Type 0
  AreGoing contents named log = AllSlots (λ slot core inbox out.
      IsGoing moment_of left_since told image faults_of limit script (contents slot) (object_at named slot) (of_slot slot log.posts)
      (of_slot slot log.routed) core inbox out)

-- Each slot rests.
abbrev pub AreResting : {D : Type 0} → Script → Objects D → Type 0
AreResting script = AllSlots (λ slot core inbox out. IsResting script core inbox)

-- No message waits to be routed.
abbrev pub AreRouted : {D : Type 0} → Objects D → Type 0
AreRouted = AllSlots (λ slot core inbox out. out.waiting ≡ [])

-- Each message that was routed came from a slot that is there.
abbrev pub AreThere : ℕ → SwitchLog → Type 0
AreThere slots log = All (λ sent. sent.0 < slots) log.routed

-- Each slot's disk tells its content now.
abbrev pub ObjectsTell : {D : Type 0} → (told : D → Option (List ℕ)) → Objects D → Type 0
ObjectsTell {D} told objects = (slot : ℕ) (core : Core D) → slice_get objects.cores.items slot ≡ Some core → TellsNow told core.back
