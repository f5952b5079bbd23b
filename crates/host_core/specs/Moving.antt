-- What goes to one object and comes from it.
use Rattle.std.specs.Prelude.{◌≡◌, ℕ, List, [], ◌++◌, length, slice_get, Option, Some, Result, OnOk}
use Rattle.do_value.specs.declared.fault.NoMemory.{NoMemory}
use Rattle.lane.specs.Lanes.{Both, sent_on, StartsWith}
use Rattle.timeline.specs.declared.event.Event.{Event}
use Rattle.timeline.specs.declared.message.Message.{Message}
use Rattle.mailbox.specs.Posting.{of_slot}
use Rattle.object_core.specs.declared.object.Core.{Core}
use Rattle.host_workers.specs.Switches.{kept_in}

-- Of what was posted so much was taken, and the first of it, or all, was given, in order.
pub record Gives {D : Type 0} (old new : Core D) (inbox later : Both Event) (result : Result (Unit {0}) NoMemory) : Type 0 where
  pub posted : sent_on later ≡ sent_on inbox
  pub taken : List Event
  pub got : later.got ≡ inbox.got ++ taken
  pub given : List Event
  pub first : StartsWith taken given
  pub sent : sent_on new.inbox ≡ sent_on old.inbox ++ given
  pub all : OnOk result ((given ≡ taken) × (later.waiting ≡ []))
  pub out : new.out ≡ old.out

-- A message that was taken before and isn't routed, if there is one, stands in the queue from its slot's object, behind what it had.
pub record KeepsMessage (kept : Option (ℕ × Message)) (old new : List (Both Message)) : Type 0 where
  pub many : length new ≡ length old
  pub each : (slot : ℕ) (before after : Both Message) → slice_get old slot ≡ Some before → slice_get new slot ≡ Some after
      → (after.got ≡ before.got) × (sent_on after ≡ sent_on before ++ of_slot slot (kept_in kept))

-- Of what left so much was collected, and the first of it, or all, was handed on, in order.
pub record HandsOn {D : Type 0} (old new : Core D) (out later : Both Message) (result : Result (Unit {0}) NoMemory) : Type 0 where
  pub same : new ≡ record old { out = new.out }
  pub left : sent_on new.out ≡ sent_on old.out
  pub collected : List Message
  pub got : new.out.got ≡ old.out.got ++ collected
  pub handed : List Message
  pub first : StartsWith collected handed
  pub sent : sent_on later ≡ sent_on out ++ handed
  pub taken : later.got ≡ out.got
  pub all : OnOk result ((handed ≡ collected) × (new.out.waiting ≡ []))
