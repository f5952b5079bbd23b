-- The places of a board: each is empty, or holds the cell that is named for it.
use Rattle.std.specs.Prelude.{◌≡◌, ◌≤◌, ◌<◌, ◌+◌, ℕ, Bool, true, false, List, [], ◌∷◌, length, map, slice_get, Option, Some, is_some, ⊤}
use Rattle.do_disk.specs.Slots.{most_slots}
use Rattle.lane.specs.Lanes.{LaneId, Sending, Taking}
use Rattle.storage_map.specs.declared.op.Op.{Op}
use Rattle.timeline.specs.declared.event.Event.{Event}
use Rattle.timeline.specs.declared.message.Message.{Message}
use Rattle.host_workers.specs.Backs.{IsBackCell, IsCellAlone}
use Rattle.host_workers.specs.Fronts.{IsFrontCell, script_of as script_of_front}
use Rattle.host_workers.specs.Lines.{HasCounted, IsLinesCell, IsNumbered}
use Rattle.host_workers.specs.Names.{Run}
use Rattle.host_workers.specs.Switches.{HasPrinted, IsSwitchCell, script_of as script_of_switch}
use Rattle.host_workers.specs.declared.back_cell.BackCell.{BackCell}
use Rattle.host_workers.specs.declared.cells.Cells.{Cells}
use Rattle.host_workers.specs.declared.cells.Held.{Held}
use Rattle.host_workers.specs.declared.cells.Held.TheVariants.{Front, Back, Switch, Lines}
use Rattle.host_workers.specs.declared.board.Look.{Look}
use Rattle.host_workers.specs.declared.board.Look.TheVariants as look
use Rattle.host_workers.specs.declared.front_cell.FrontCell.{FrontCell}
use Rattle.host_workers.specs.declared.jobs.Job.{Job}
use Rattle.host_workers.specs.declared.jobs.Job.TheVariants as job
use Rattle.host_workers.specs.declared.lines_cell.LinesCell.{LinesCell}
use Rattle.host_workers.specs.declared.switch_cell.SwitchCell.{SwitchCell}

-- Which places have their cell.
pub record Places : Type 0 where
  pub fronts : List Bool
  pub backs : List Bool
  pub switch : Bool
  pub lines : Bool

-- How many of these places are empty.
abbrev pub empties : List Bool → ℕ
empties [] = 0
empties (false ∷ places) = 1 + empties places
empties (true ∷ places) = empties places

-- What an empty place counts in the ledger: one; but that of the lines more than all others together (at most 513), so that who has taken
-- the lines knows that their place is empty.
abbrev pub lines_count : ℕ
lines_count = 1024

abbrev pub counts : ℕ → Bool → ℕ
counts each false = each
counts each true = 0

-- What the empty places count together: nothing exactly where no place is empty.
abbrev pub empty_places : Places → ℕ
empty_places places = empties places.fronts + empties places.backs + counts 1 places.switch + counts lines_count places.lines

-- There is a cell at this place.
abbrev pub IsThere : Places → Job → Type 0
IsThere places (job.Front slot) = slice_get places.fronts slot ≡ Some true
IsThere places (job.Back slot) = slice_get places.backs slot ≡ Some true
IsThere places job.Switch = places.switch ≡ true
IsThere places job.Lines = places.lines ≡ true

-- Where a look says that something is to be done, it is with a cell that is there.
abbrev pub IsLook : Places → Look → Type 0
IsLook places (look.Do job) = IsThere places job
IsLook places look.Wait = ⊤
IsLook places (look.End end) = ⊤

-- The lanes of these ends are those that are named for their slots.
abbrev pub AreNamed : (ℕ → LaneId) → List LaneId → Type 0
AreNamed named lanes = (slot : ℕ) (lane : LaneId) → slice_get lanes slot ≡ Some lane → lane ≡ named slot

-- The front of this slot: it runs the script that is named, by the lanes of its slot, and began as is named.
pub record IsFrontOf {T : Type 0} (run : Run) (slot : ℕ) (cell : FrontCell T) : Type 0 where
  pub script : script_of_front cell ≡ run.script
  pub inbox : cell.inbox.lane ≡ run.inboxes slot
  pub notices : cell.notices.lane ≡ run.notices slot
  pub line : cell.line.lane ≡ run.entries slot
  pub front : IsFrontCell (run.classes slot) (run.alarms slot) cell

-- The back of this slot, so too: whichever batches and whichever moment its mounting is said to have, and some are.
pub record IsBackOf {D T : Type 0} (moment_of : D → ℕ) (left_since : D → ℕ → List ℕ → Type 0) (told : D → Option (List ℕ))
    (image : D → List ℕ → Type 0) (faults_of : D → ℕ) (run : Run) (slot : ℕ) (cell : BackCell D T) : Type 0 where
  pub line : cell.line.lane ≡ run.entries slot
  pub notices : cell.notices.lane ≡ run.notices slot
  pub out : cell.out.lane ≡ run.outs slot
  pub some : (start : List (List Op)) × (opening : ℕ) × run.begun slot start opening
  pub back : (start : List (List Op)) (opening : ℕ) → run.begun slot start opening → IsBackCell moment_of left_since told image faults_of start opening cell
  pub alone : (start : List (List Op)) (opening : ℕ) → run.begun slot start opening
      → IsCellAlone moment_of left_since told image faults_of start opening (run.objects slot) (run.extents slot) (run.alarms slot) cell

-- The switch of the run. The sink's count of faults is the one named as long as no write has failed, and rose where one did.
pub record IsSwitchOf {W T : Type 0} (taken : W → Option (List ℕ)) (faults : W → ℕ) (run : Run) (cell : SwitchCell W T) : Type 0 where
  pub script : script_of_switch cell ≡ run.script
  pub lines : cell.lines.lane ≡ run.lines
  pub slots : length cell.outs.items ≡ run.slots
  pub outs : AreNamed run.outs (map (λ (end : Taking Message). end.lane) cell.outs.items)
  pub inboxes : AreNamed run.inboxes (map (λ (end : Sending Event). end.lane) cell.inboxes.items)
  pub switch : IsSwitchCell run.switch cell
  pub printed : HasPrinted taken faults run.held run.write_faults cell.switch

-- The lines of the run. The source's count of faults is the one named as long as no read has failed, and rose where one did.
pub record IsLinesOf {R T : Type 0} (left : R → Option (List ℕ)) (faults : R → ℕ) (run : Run) (cell : LinesCell R T) : Type 0 where
  pub lane : cell.send.lane ≡ run.lines
  pub lines : (whole : List ℕ) → run.input whole → IsLinesCell left whole cell
  pub counted : HasCounted faults run.read_faults cell.lines
  pub numbered : IsNumbered cell

module _ {D R W T : Type 0} where
  abbrev pub places_of : Cells D R W T → Places
  places_of cells = record {
    fronts = map is_some cells.fronts.items;
    backs = map is_some cells.backs.items;
    switch = is_some cells.switch;
    lines = is_some cells.lines;
  }

  -- What the place of a cell that is out counts.
  abbrev pub held_count : Held D R W T → ℕ
  held_count (Front slot cell) = 1
  held_count (Back slot cell) = 1
  held_count (Switch cell) = 1
  held_count (Lines cell) = lines_count

module _ {D R W T : Type 0} (run : Run) (moment_of : D → ℕ) (left_since : D → ℕ → List ℕ → Type 0) (told : D → Option (List ℕ))
    (image : D → List ℕ → Type 0) (faults_of : D → ℕ) (left : R → Option (List ℕ)) (read_faults : R → ℕ) (taken : W → Option (List ℕ))
    (write_faults : W → ℕ) where
  -- Each cell that is there is the one named for its place.
  pub record AreCells (cells : Cells D R W T) : Type 0 where
    pub few : run.slots ≤ most_slots
    pub each_front : length cells.fronts.items ≡ run.slots
    pub each_back : length cells.backs.items ≡ run.slots
    pub fronts : (slot : ℕ) (cell : FrontCell T) → slice_get cells.fronts.items slot ≡ Some (Some cell) → IsFrontOf run slot cell
    pub backs : (slot : ℕ) (cell : BackCell D T) → slice_get cells.backs.items slot ≡ Some (Some cell)
        → IsBackOf moment_of left_since told image faults_of run slot cell
    pub switch : (cell : SwitchCell W T) → cells.switch ≡ Some cell → IsSwitchOf taken write_faults run cell
    pub lines : (cell : LinesCell R T) → cells.lines ≡ Some cell → IsLinesOf left read_faults run cell

  -- The ledger's total is what the empty places count. There is a place for each slot, and a worker.
  pub record IsBoard (total slots workers : ℕ) (cells : Cells D R W T) : Type 0 where
    pub counted : total ≡ empty_places (places_of cells)
    pub many : slots ≡ run.slots
    pub some : 1 ≤ workers
    pub named : AreCells cells

  -- A cell that is out is the one named for its place.
  abbrev pub IsHeld : Held D R W T → Type 0
  IsHeld (Front slot cell) = (slot < run.slots) × IsFrontOf run slot cell
  IsHeld (Back slot cell) = (slot < run.slots) × IsBackOf moment_of left_since told image faults_of run slot cell
  IsHeld (Switch cell) = IsSwitchOf taken write_faults run cell
  IsHeld (Lines cell) = IsLinesOf left read_faults run cell
