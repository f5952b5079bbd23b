-- The lanes and the cells of slots that were just mounted.
use Rattle.std.specs.Prelude.{◌≡◌, ◌≤◌, ◌+◌, ℕ, List, [], map, slice_get, Option, Some, vec_len}
use Rattle.std.specs.Vec.{vec_capacity}
use Rattle.do_tree.specs.Tree.{Script}
use Rattle.output_gate.specs.Serving.{alarm_of}
use Rattle.object_core.specs.Limited.{extent_of}
use Rattle.object_core.specs.One.{AreFresh, class_in}
use Rattle.output_gate.specs.Serving.{IsBack}
use Rattle.storage_map.specs.declared.op.Op.{Op}
use Rattle.host_workers.specs.Backs.{IsBackCell, IsCellAlone}
use Rattle.host_workers.specs.Fronts.{IsFrontCell, script_of as script_of_front}
use Rattle.host_workers.specs.declared.joining.Halves.{Halves}
use Rattle.worker_pool.specs.declared.making.Made.{Made}
use Rattle.worker_pool.specs.declared.making.Slot.{Slot}
use Rattle.worker_pool.specs.declared.making.SlotEnds.{SlotEnds}

-- The ends of each lane are those of one, and nothing went through it.
pub record AreNewEnds {T : Type 0} (ends : SlotEnds T) : Type 0 where
  pub events : (ends.inbox.lane ≡ ends.events.lane) × (ends.inbox.sent ≡ []) × (ends.events.got ≡ [])
  pub entries : (ends.line.lane ≡ ends.entries.lane) × (ends.line.sent ≡ []) × (ends.entries.got ≡ [])
  pub notices : (ends.told.lane ≡ ends.notices.lane) × (ends.told.sent ≡ []) × (ends.notices.got ≡ [])
  pub messages : (ends.messages.lane ≡ ends.out.lane) × (ends.messages.sent ≡ []) × (ends.out.got ≡ [])

-- The halves of each slot are those of one that was just mounted.
abbrev pub AreJustMounted : {D : Type 0} → Script → List (Halves D) → Type 0
AreJustMounted {D} script all = (slot : ℕ) (halves : Halves D) → slice_get all slot ≡ Some halves → AreFresh script halves.front.half halves.back

-- There are no cells and no ends yet.
pub record IsEmpty {D T : Type 0} (made : Made D T) : Type 0 where
  pub fronts : made.fronts.items ≡ []
  pub backs : made.backs.items ≡ []
  pub outs : made.outs.items ≡ []
  pub inboxes : made.inboxes.items ≡ []

-- There is room for those of so many slots more.
pub record HasRoom {D T : Type 0} (more : ℕ) (made : Made D T) : Type 0 where
  pub fronts : vec_len made.fronts + more ≤ vec_capacity made.fronts
  pub backs : vec_len made.backs + more ≤ vec_capacity made.backs
  pub outs : vec_len made.outs + more ≤ vec_capacity made.outs
  pub inboxes : vec_len made.inboxes + more ≤ vec_capacity made.inboxes

module _ {D : Type 0} (moment_of : D → ℕ) (left_since : D → ℕ → List ℕ → Type 0) (told : D → Option (List ℕ)) (image : D → List ℕ → Type 0)
    (faults_of : D → ℕ) (script : Script) where
  -- The cells of a slot's halves, and the switch's ends of its lanes: nothing went through them.
  pub record IsMade {T : Type 0} (halves : Halves D) (made : Slot D T) : Type 0 where
    pub script_is : script_of_front made.front ≡ script
    pub front : IsFrontCell (class_in script halves.back.identity) (alarm_of halves.back) made.front
    pub back : (start : List (List Op)) (opening : ℕ) → IsBack moment_of left_since told image faults_of start opening halves.back
        → IsBackCell moment_of left_since told image faults_of start opening made.back
    pub alone : (start : List (List Op)) (opening : ℕ) → IsBack moment_of left_since told image faults_of start opening halves.back
        → IsCellAlone moment_of left_since told image faults_of start opening halves.back.identity (extent_of halves.back) (alarm_of halves.back) made.back
    pub same : made.back.back ≡ halves.back
    pub inbox : made.inbox.lane ≡ made.front.inbox.lane
    pub line : made.back.line.lane ≡ made.front.line.lane
    pub notices : made.back.notices.lane ≡ made.front.notices.lane
    pub out : made.out.lane ≡ made.back.out.lane
    pub no_message : made.out.got ≡ []
    pub no_event : made.inbox.sent ≡ []

  -- So are those of all slots, each at its slot's number.
  pub record AreMade {T : Type 0} (all : List (Halves D)) (made : Made D T) : Type 0 where
    pub slots : List (Halves D × Slot D T)
    pub halves : all ≡ map (λ (s : Halves D × Slot D T). s.0) slots
    pub fronts : made.fronts.items ≡ map (λ (s : Halves D × Slot D T). Some s.1.front) slots
    pub backs : made.backs.items ≡ map (λ (s : Halves D × Slot D T). Some s.1.back) slots
    pub outs : made.outs.items ≡ map (λ (s : Halves D × Slot D T). s.1.out) slots
    pub inboxes : made.inboxes.items ≡ map (λ (s : Halves D × Slot D T). s.1.inbox) slots
    pub each : (slot : ℕ) (s : Halves D × Slot D T) → slice_get slots slot ≡ Some s → IsMade s.0 s.1
