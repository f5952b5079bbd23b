-- The cells of a run once all its workers have ended.
use Rattle.std.specs.Prelude.{◌≡◌, ◌≤◌, ℕ, List, [], length, map, slice_get, Option, Some}
use Rattle.do_disk.specs.Slots.{most_slots}
use Rattle.do_tree.specs.Tree.{Script}
use Rattle.lane.specs.Lanes.{Sending, Taking}
use Rattle.line_server.specs.Lines.{IsReading, source_of}
use Rattle.line_server.specs.declared.lines.Lines.{Lines}
use Rattle.mailbox.specs.Runs.{out_of, state_of}
use Rattle.mailbox.specs.declared.switch.Switch.{Switch}
use Rattle.output_gate.specs.Serving.{alarm_of}
use Rattle.object_core.specs.Limited.{extent_of}
use Rattle.object_core.specs.One.{class_in}
use Rattle.output_gate.specs.Serving.{IsBack}
use Rattle.storage_map.specs.declared.op.Op.{Op}
use Rattle.timeline.specs.declared.event.Event.{Event}
use Rattle.timeline.specs.declared.message.Message.{Message}
use Rattle.host_workers.specs.Backs.{IsCellAlone}
use Rattle.host_workers.specs.Fronts.{IsFrontCell, script_of as script_of_front}
use Rattle.host_workers.specs.Lines.{HasCounted, IsLinesCell, IsNumbered}
use Rattle.host_workers.specs.Switches.{HasPrinted, IsSwitchCell, script_of as script_of_switch}
use Rattle.host_workers.specs.declared.back_cell.BackCell.{BackCell}
use Rattle.host_workers.specs.declared.cells.Cells.{Cells}
use Rattle.host_workers.specs.declared.front_cell.FrontCell.{FrontCell}
use Rattle.host_workers.specs.declared.joining.Halves.{Halves}
use Rattle.host_workers.specs.declared.lines_cell.LinesCell.{LinesCell}
use Rattle.host_workers.specs.declared.switch_cell.SwitchCell.{SwitchCell}

module _ {D T : Type 0} (moment_of : D → ℕ) (left_since : D → ℕ → List ℕ → Type 0) (told : D → Option (List ℕ)) (image : D → List ℕ → Type 0)
    (faults_of : D → ℕ) (script : Script) where
  -- The cells of a slot's halves, which began so, with the switch's ends of their lanes.
  pub record IsWorked (begun : Halves D) (front : FrontCell T) (back : BackCell D T) (posts : Sending Event) (messages : Taking Message) : Type 0 where
    pub script_is : script_of_front front ≡ script
    pub is_front : IsFrontCell (class_in script begun.back.identity) (alarm_of begun.back) front
    pub is_back : (start : List (List Op)) (opening : ℕ) → IsBack moment_of left_since told image faults_of start opening begun.back
        → IsCellAlone moment_of left_since told image faults_of start opening begun.back.identity (extent_of begun.back) (alarm_of begun.back) back
    pub inbox : posts.lane ≡ front.inbox.lane
    pub line : front.line.lane ≡ back.line.lane
    pub notices : back.notices.lane ≡ front.notices.lane
    pub out : back.out.lane ≡ messages.lane

module _ {D R W T : Type 0} (moment_of : D → ℕ) (left_since : D → ℕ → List ℕ → Type 0) (told : D → Option (List ℕ)) (image : D → List ℕ → Type 0)
    (faults_of : D → ℕ) (left : R → Option (List ℕ)) (read_faults : R → ℕ) (taken : W → Option (List ℕ)) (write_faults : W → ℕ) (script : Script) where
  -- No cell is missing, and each is that of its place in a run that began with these halves, this switch and this reader.
  pub record HasWorked (all : List (Halves D)) (switch : Switch W) (lines : Lines R) (cells : Cells D R W T) : Type 0 where
    pub fronts : List (FrontCell T)
    pub backs : List (BackCell D T)
    pub switch_cell : SwitchCell W T
    pub lines_cell : LinesCell R T
    pub fronts_are : cells.fronts.items ≡ map (λ (cell : FrontCell T). Some cell) fronts
    pub backs_are : cells.backs.items ≡ map (λ (cell : BackCell D T). Some cell) backs
    pub switch_is : cells.switch ≡ Some switch_cell
    pub lines_are : cells.lines ≡ Some lines_cell
    pub each_front : length fronts ≡ length all
    pub each_back : length backs ≡ length all
    pub each_out : length switch_cell.outs.items ≡ length all
    pub each_inbox : length switch_cell.inboxes.items ≡ length all
    pub each : (slot : ℕ) (begun : Halves D) (front : FrontCell T) (back : BackCell D T) (inbox : Sending Event) (out : Taking Message)
        → slice_get all slot ≡ Some begun → slice_get fronts slot ≡ Some front → slice_get backs slot ≡ Some back
        → slice_get switch_cell.inboxes.items slot ≡ Some inbox → slice_get switch_cell.outs.items slot ≡ Some out
        → IsWorked moment_of left_since told image faults_of script begun front back inbox out
    pub same_script : script_of_switch switch_cell ≡ script
    pub is_switch : IsSwitchCell (state_of switch) switch_cell
    pub printed : HasPrinted taken write_faults (taken (out_of switch)) (write_faults (out_of switch)) switch_cell.switch
    pub lane : lines_cell.send.lane ≡ switch_cell.lines.lane
    pub reads : (whole : List ℕ) → IsReading left whole [] lines → IsLinesCell left whole lines_cell
    pub counted : HasCounted read_faults (read_faults (source_of lines)) lines_cell.lines
    pub numbered : IsNumbered lines_cell
    pub few : length all ≤ most_slots
