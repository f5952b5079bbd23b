-- The cells of a run that all workers have left are those of its place each.
use Rattle.std.proofs.Common.{◌≡◌, ◌+◌, ◌∙◌, sym, ap, refl, subst, ℕ, ℤ, suc, arith, List, [], ◌∷◌, length, map, slice_get, Option, Some, None, is_some}
use Rattle.std.proofs.lemmas.List.{length-map}
use Rattle.do_tree.specs.Tree.{Script}
use Rattle.lane.specs.Lanes.{Sending, Taking}
use Rattle.line_server.specs.declared.lines.Lines.{Lines}
use Rattle.mailbox.specs.declared.switch.Switch.{Switch}
use Rattle.object_core.specs.Limited.{Extent}
use Rattle.storage_map.specs.Limits.{Object}
use Rattle.timeline.specs.Switch as timeline
use Rattle.timeline.specs.declared.event.Event.{Event}
use Rattle.timeline.specs.declared.message.Message.{Message}
use Rattle.host_workers.specs.Backs.{IsCellAlone}
use Rattle.host_workers.specs.Board.{AreCells, counts, empties, empty_places, lines_count, places_of}
use Rattle.host_workers.specs.Fronts.{IsFrontCell}
use Rattle.host_workers.specs.Lines.{HasCounted}
use Rattle.host_workers.specs.Names.{Run}
use Rattle.host_workers.specs.Switches.{HasPrinted, IsSwitchCell}
use Rattle.host_workers.specs.declared.back_cell.BackCell.{BackCell}
use Rattle.host_workers.specs.declared.cells.Cells.{Cells}
use Rattle.host_workers.specs.declared.front_cell.FrontCell.{FrontCell}
use Rattle.host_workers.specs.declared.joining.Halves.{Halves}
use Rattle.host_workers.specs.declared.lines_cell.LinesCell.{LinesCell}
use Rattle.host_workers.specs.declared.switch_cell.SwitchCell.{SwitchCell}
use Rattle.worker_pool.proofs.Beginning.{BeginsWith, to_map}
use Rattle.worker_pool.specs.Worked.{HasWorked, IsWorked}

-- where no place is empty, each has its cell
pub all_there : {A : Type 0} (places : List (Option A)) → empties (map is_some places) ≡ 0 → (cells : List A) × (places ≡ map (λ (x : A). Some x) cells)
all_there [] none = ([], refl)
all_there (None ∷ places) none = absurd (omega (arith, none))
all_there {A} (Some x ∷ places) none = let rest = all_there places none in (x ∷ rest.0, ap (λ (l : List (Option A)). Some x ∷ l) rest.1)

-- so has the one place
pub one_there : {A : Type 0} (each : ℕ) (place : Option A) → counts (suc each) (is_some place) ≡ 0 → (x : A) × (place ≡ Some x)
one_there each None none = absurd (omega (arith, none))
one_there each (Some x) none = (x, refl)

-- what none of counts together none of counts alone
none_each : (fronts backs switch lines : ℕ) → fronts + backs + switch + lines ≡ 0 → (fronts ≡ 0) × (backs ≡ 0) × (switch ≡ 0) × (lines ≡ 0)
none_each fronts backs switch lines none = (omega arith, omega arith, omega arith, omega arith)

module _ {D R W T : Type 0} (moment_of : D → ℕ) (left_since : D → ℕ → List ℕ → Type 0) (told : D → Option (List ℕ)) (image : D → List ℕ → Type 0)
    (faults_of : D → ℕ) (left : R → Option (List ℕ)) (read_faults : R → ℕ) (taken : W → Option (List ℕ)) (write_faults : W → ℕ)
    (script : Script) (run : Run) (all : List (Halves D)) (switch : Switch W) (lines : Lines R)
    (begins : BeginsWith moment_of left_since told image faults_of left read_faults taken write_faults script run all switch lines)
    (cells : Cells D R W T) (are : AreCells run moment_of left_since told image faults_of left read_faults taken write_faults cells) where
  module _ (fs : List (FrontCell T)) (bs : List (BackCell D T)) (sc : SwitchCell W T) (fronts_are : cells.fronts.items ≡ map (λ (cell : FrontCell T). Some cell) fs)
      (backs_are : cells.backs.items ≡ map (λ (cell : BackCell D T). Some cell) bs) (switch_is : cells.switch ≡ Some sc) where
    -- the cells of a slot, and the switch's ends of its lanes
    slot_worked : (slot : ℕ) (begun : Halves D) (front : FrontCell T) (back : BackCell D T) (inbox : Sending Event) (out : Taking Message)
        → slice_get all slot ≡ Some begun → slice_get fs slot ≡ Some front → slice_get bs slot ≡ Some back
        → slice_get sc.inboxes.items slot ≡ Some inbox → slice_get sc.outs.items slot ≡ Some out
        → IsWorked moment_of left_since told image faults_of script begun front back inbox out
    slot_worked slot begun front back inbox out begun_at front_at back_at inbox_at out_at =
        let f = are.fronts slot front (ap (λ (l : List (Option (FrontCell T))). slice_get l slot) fronts_are ∙ to_map (λ (cell : FrontCell T). Some cell) fs slot front front_at) in
        let b = are.backs slot back (ap (λ (l : List (Option (BackCell D T))). slice_get l slot) backs_are ∙ to_map (λ (cell : BackCell D T). Some cell) bs slot back back_at) in
        let s = are.switch sc switch_is in
        let known = begins.objects slot begun begun_at in
        let mounted = begins.backs slot begun begun_at in
        record {
          script_is = f.script ∙ begins.script_is;
          is_front = subst (λ (x : Option ℕ × Option (ℤ × ℕ)). IsFrontCell x.0 x.1 front) (λ i. (known.1 i, mounted.0 i)) f.front;
          is_back = λ start opening is. subst (λ (x : Option Object × Extent × Option (ℤ × ℕ)). IsCellAlone moment_of left_since told image faults_of start opening x.0 x.1 x.2 back)
              (λ i. (known.0 i, mounted.1 i, mounted.0 i)) (b.alone start opening (begins.begun slot begun begun_at start opening is));
          inbox = s.inboxes slot inbox.lane (to_map (λ (end : Sending Event). end.lane) sc.inboxes.items slot inbox inbox_at) ∙ sym f.inbox;
          line = f.line ∙ sym b.line;
          notices = b.notices ∙ sym f.notices;
          out = b.out ∙ sym (s.outs slot out.lane (to_map (λ (end : Taking Message). end.lane) sc.outs.items slot out out_at));
        }

    -- all cells are those of a run that began so
    worked : (lc : LinesCell R T) → cells.lines ≡ Some lc
        → HasWorked moment_of left_since told image faults_of left read_faults taken write_faults script all switch lines cells
    worked lc lines_is =
        let s = are.switch sc switch_is in
        let l = are.lines lc lines_is in
        record {
          fronts = fs;
          backs = bs;
          switch_cell = sc;
          lines_cell = lc;
          fronts_are = fronts_are;
          backs_are = backs_are;
          switch_is = switch_is;
          lines_are = lines_is;
          each_front = sym (length-map fs (λ (cell : FrontCell T). Some cell)) ∙ sym (ap length fronts_are) ∙ are.each_front ∙ begins.many;
          each_back = sym (length-map bs (λ (cell : BackCell D T). Some cell)) ∙ sym (ap length backs_are) ∙ are.each_back ∙ begins.many;
          each_out = s.slots ∙ begins.many;
          each_inbox = s.switch.each_inbox ∙ sym s.switch.each_out ∙ s.slots ∙ begins.many;
          each = slot_worked;
          same_script = s.script ∙ begins.script_is;
          is_switch = subst (λ (x : timeline.Switch). IsSwitchCell x sc) begins.switch_is s.switch;
          printed = subst (λ (x : Option (List ℕ) × ℕ). HasPrinted taken write_faults x.0 x.1 sc.switch) (λ i. (begins.held.0 i, begins.held.1 i)) s.printed;
          lane = l.lane ∙ sym s.lines;
          reads = λ whole reading. l.lines whole (begins.input whole reading);
          counted = subst (λ (x : ℕ). HasCounted read_faults x lc.lines) begins.read_from l.counted;
          numbered = l.numbered;
          few = begins.few;
        }

  -- where no place is empty, so are all
  pub has_worked : empty_places (places_of cells) ≡ 0
      → HasWorked moment_of left_since told image faults_of left read_faults taken write_faults script all switch lines cells
  has_worked none =
      let alone = none_each (empties (map is_some cells.fronts.items)) (empties (map is_some cells.backs.items)) (counts 1 (is_some cells.switch))
      (counts lines_count (is_some cells.lines)) none in
      let fronts = all_there cells.fronts.items alone.0 in
      let backs = all_there cells.backs.items alone.1 in
      let one_switch = one_there 0 cells.switch alone.2 in
      let one_reader = one_there 1023 cells.lines alone.3 in
      worked fronts.0 backs.0 one_switch.0 fronts.1 backs.1 one_switch.1 one_reader.0 one_reader.1
