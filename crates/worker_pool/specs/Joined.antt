-- The cells of the slots, and what they are joined to.
use Rattle.std.specs.Prelude.{◌≡◌, ◌≤◌, ◌+◌, ℕ, List, [], ◌∷◌, ◌++◌, map, vec_len, Option, Some, Result, Ok, Err}
use Rattle.std.specs.List.{AllByRecursion, AllZip}
use Rattle.std.specs.Vec.{vec_capacity}
use Rattle.lane.specs.Lanes.{Sending, Taking}
use Rattle.object_core.specs.declared.object.Core.{Core}
use Rattle.timeline.specs.declared.event.Event.{Event}
use Rattle.timeline.specs.declared.message.Message.{Message}
use Rattle.host_workers.specs.Apart.{IsJoined}
use Rattle.host_workers.specs.declared.back_cell.BackCell.{BackCell}
use Rattle.host_workers.specs.declared.front_cell.FrontCell.{FrontCell}
use Rattle.host_workers.specs.declared.joining.Halves.{Halves}
use Rattle.worker_pool.specs.declared.closing.Room.{Room}

-- The cells of a slot, with the switch's ends of their lanes.
pub record Slot (D T : Type 0) : Type 0 where
  pub front : FrontCell T
  pub back : BackCell D T
  pub out : Taking Message
  pub inbox : Sending Event

-- They are the ends of four lanes.
pub record HasItsEnds {D T : Type 0} (slot : Slot D T) : Type 0 where
  pub inbox : slot.inbox.lane ≡ slot.front.inbox.lane
  pub line : slot.front.line.lane ≡ slot.back.line.lane
  pub notices : slot.back.notices.lane ≡ slot.front.notices.lane
  pub out : slot.back.out.lane ≡ slot.out.lane

-- These are those of the slot, and none is missing.
pub record IsOf {D T : Type 0} (slot : Slot D T) (front : Option (FrontCell T)) (back : Option (Option (BackCell D T))) (out : Option (Taking Message))
    (inbox : Option (Sending Event)) : Type 0 where
  pub front_is : front ≡ Some slot.front
  pub back_is : back ≡ Some (Some slot.back)
  pub out_is : out ≡ Some slot.out
  pub inbox_is : inbox ≡ Some slot.inbox
  pub ends : HasItsEnds slot

-- So are these those of the slots, in order.
pub record AreOf {D T : Type 0} (slots : List (Slot D T)) (fronts : List (Option (FrontCell T))) (backs : List (Option (BackCell D T)))
    (outs : List (Taking Message)) (inboxes : List (Sending Event)) : Type 0 where
  pub fronts_are : fronts ≡ map (λ (slot : Slot D T). Some slot.front) slots
  pub backs_are : backs ≡ map (λ (slot : Slot D T). Some slot.back) slots
  pub outs_are : outs ≡ map (λ (slot : Slot D T). slot.out) slots
  pub inboxes_are : inboxes ≡ map (λ (slot : Slot D T). slot.inbox) slots
  pub ends : AllByRecursion (λ (slot : Slot D T). HasItsEnds slot) slots

module _ {D : Type 0} where
  -- There is room for one more of either kind.
  abbrev pub HasRoom : Room D → Type 0
  HasRoom room = (vec_len room.cores + 1 ≤ vec_capacity room.cores) × (vec_len room.apart + 1 ≤ vec_capacity room.apart)

  -- There is as much room.
  abbrev pub KeepsRoom : (old new : Room D) → Type 0
  KeepsRoom old new = (vec_capacity old.cores ≤ vec_capacity new.cores) × (vec_capacity old.apart ≤ vec_capacity new.apart)

  abbrev pub halves_of : Result (Core D) (Halves D) → Halves D
  halves_of (Ok core) = record { front = core.front; back = core.back }
  halves_of (Err halves) = halves

  -- The object stands behind the others, where no halves are apart; or its halves do.
  pub data IsPut (joined : Result (Core D) (Halves D)) (old new : Room D) : Type 0 where
    as_core : (core : Core D) → joined ≡ Ok core → old.apart.items ≡ [] → new.cores.items ≡ old.cores.items ++ core ∷ []
        → new.apart.items ≡ old.apart.items → IsPut joined old new
    as_halves : new.cores.items ≡ old.cores.items → new.apart.items ≡ old.apart.items ++ halves_of joined ∷ [] → IsPut joined old new

module _ {D T : Type 0} (moment_of : D → ℕ) (left_since : D → ℕ → List ℕ → Type 0) (told : D → Option (List ℕ)) (image : D → List ℕ → Type 0)
    (faults_of : D → ℕ) where
  -- The object of the slot's cells.
  abbrev pub IsCoreOf : Slot D T → Core D → Type 0
  IsCoreOf slot core = IsJoined moment_of left_since told image faults_of slot.front slot.back slot.inbox.sent slot.out.got core

  -- The halves of such an object.
  abbrev pub AreHalvesOf : Slot D T → Halves D → Type 0
  AreHalvesOf slot halves = (core : Core D) × (core.front ≡ halves.front) × (core.back ≡ halves.back) × IsCoreOf slot core

  -- The first slots have their objects, and of the others there are the halves.
  pub record AreJoined (slots : List (Slot D T)) (cores : List (Core D)) (apart : List (Halves D)) : Type 0 where
    pub joined : List (Slot D T)
    pub refused : List (Slot D T)
    pub all : slots ≡ joined ++ refused
    pub each_core : AllZip IsCoreOf joined cores
    pub each_apart : AllZip AreHalvesOf refused apart
