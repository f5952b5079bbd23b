-- The run that names cells which have done nothing.
use Rattle.std.specs.Prelude.{ℕ, List, [], length, slice_get, Option, Some, None}
use Rattle.lane.specs.Lanes.{nowhere}
use Rattle.line_server.specs.Lines.{IsReading, source_of}
use Rattle.mailbox.specs.Runs.{out_of, state_of}
use Rattle.output_gate.specs.Serving.{alarm_of}
use Rattle.object_core.specs.Limited.{extent_of}
use Rattle.object_core.specs.One.{class_in}
use Rattle.output_gate.specs.Serving.{IsBack}
use Rattle.timeline.specs.Switch.{opened}
use Rattle.host_workers.specs.Names.{Run, no_extent, nobody}
use Rattle.host_workers.specs.Switches.{script_of as script_of_switch}
use Rattle.host_workers.specs.declared.back_cell.BackCell.{BackCell}
use Rattle.host_workers.specs.declared.cells.Cells.{Cells}
use Rattle.host_workers.specs.declared.front_cell.FrontCell.{FrontCell}
use Rattle.host_workers.specs.declared.lines_cell.LinesCell.{LinesCell}
use Rattle.host_workers.specs.declared.switch_cell.SwitchCell.{SwitchCell}

-- What is known of what is there, or this.
abbrev pub of_some : {A B : Type 0} → B → (A → B) → Option A → B
of_some other f None = other
of_some other f (Some x) = f x

-- So of the cell at a place.
abbrev pub of_place : {A B : Type 0} → B → (A → B) → Option (Option A) → B
of_place other f None = other
of_place other f (Some None) = other
of_place other f (Some (Some x)) = f x

-- What is said of what is there, where it is.
abbrev pub said_of_some : {A : Type 0} → (A → Type 0) → Option A → Type 0
said_of_some P None = Unit {0}
said_of_some P (Some x) = P x

-- So of the cell at a place.
abbrev pub said_of_place : {A : Type 0} → (A → Type 0) → Option (Option A) → Type 0
said_of_place P None = Unit {0}
said_of_place P (Some None) = Unit {0}
said_of_place P (Some (Some x)) = P x

-- The run that these cells name, which have done nothing.
abbrev pub run_of : {D R W T : Type 0} → (moment_of : D → ℕ) → (left_since : D → ℕ → List ℕ → Type 0) → (told : D → Option (List ℕ))
    → (image : D → List ℕ → Type 0) → (faults_of : D → ℕ) → (left : R → Option (List ℕ)) → (read_faults : R → ℕ) → (taken : W → Option (List ℕ))
    → (write_faults : W → ℕ) → Cells D R W T → Run
run_of {D} {R} {W} {T} moment_of left_since told image faults_of left read_faults taken write_faults cells = record {
  script = of_some nobody.script (λ (cell : SwitchCell W T). script_of_switch cell) cells.switch;
  slots = length cells.fronts.items;
  inboxes = λ slot. of_place nowhere (λ (cell : FrontCell T). cell.inbox.lane) (slice_get cells.fronts.items slot);
  notices = λ slot. of_place nowhere (λ (cell : FrontCell T). cell.notices.lane) (slice_get cells.fronts.items slot);
  entries = λ slot. of_place nowhere (λ (cell : FrontCell T). cell.line.lane) (slice_get cells.fronts.items slot);
  outs = λ slot. of_place nowhere (λ (cell : BackCell D T). cell.out.lane) (slice_get cells.backs.items slot);
  classes = λ slot. of_place None (λ (cell : BackCell D T). class_in
      (of_some nobody.script (λ (cell : SwitchCell W T). script_of_switch cell) cells.switch) cell.back.identity) (slice_get cells.backs.items slot);
  alarms = λ slot. of_place None (λ (cell : BackCell D T). alarm_of cell.back) (slice_get cells.backs.items slot);
  begun = λ slot start opening. said_of_place
      (λ (cell : BackCell D T). IsBack moment_of left_since told image faults_of start opening cell.back) (slice_get cells.backs.items slot);
  objects = λ slot. of_place None (λ (cell : BackCell D T). cell.back.identity) (slice_get cells.backs.items slot);
  extents = λ slot. of_place no_extent (λ (cell : BackCell D T). extent_of cell.back) (slice_get cells.backs.items slot);
  lines = of_some nowhere (λ (cell : LinesCell R T). cell.send.lane) cells.lines;
  switch = of_some (opened []) (λ (cell : SwitchCell W T). state_of cell.switch) cells.switch;
  input = λ whole. said_of_some (λ (cell : LinesCell R T). IsReading left whole [] cell.lines) cells.lines;
  held = of_some None (λ (cell : SwitchCell W T). taken (out_of cell.switch)) cells.switch;
  read_faults = of_some 0 (λ (cell : LinesCell R T). read_faults (source_of cell.lines)) cells.lines;
  write_faults = of_some 0 (λ (cell : SwitchCell W T). write_faults (out_of cell.switch)) cells.switch;
}
