-- The cells that were made of fresh halves are those of the run that they name.
use Rattle.std.proofs.Common.{◌≡◌, ◌≤◌, ◌∙◌, sym, ap, refl, subst, ℕ, ℤ, zero, suc, arith, List, [], ◌∷◌, length, map, slice_get, Option, Some, None, is_some}
use Rattle.std.proofs.lemmas.List.{length-map}
use Rattle.std.proofs.lemmas.Option.{slice_get-map}
use Rattle.std.specs.Option.{option_map}
use Rattle.do_disk.specs.Slots.{most_slots}
use Rattle.do_tree.specs.Tree.{Script}
use Rattle.lane.specs.Lanes.{Sending, Taking, nowhere}
use Rattle.line_server.specs.Lines.{IsReading, source_of}
use Rattle.line_server.specs.declared.lines.Lines.{Lines}
use Rattle.mailbox.specs.Posting.{at_slot}
use Rattle.mailbox.specs.Runs.{out_of, state_of}
use Rattle.mailbox.specs.declared.switch.Switch.{Switch}
use Rattle.output_gate.specs.Serving.{alarm_of}
use Rattle.object_core.specs.Limited.{Extent, extent_of}
use Rattle.object_core.specs.One.{class_in}
use Rattle.output_gate.specs.declared.back.Back.{Back}
use Rattle.output_gate.specs.Serving.{IsBack}
use Rattle.storage_map.specs.Limits.{Object}
use Rattle.storage_map.specs.declared.op.Op.{Op}
use Rattle.timeline.specs.declared.event.Event.{Event}
use Rattle.timeline.specs.declared.message.Message.{Message}
use Rattle.worker_pool.proofs.Rows.{Row}
use Rattle.host_workers.specs.Backs.{IsCellAlone}
use Rattle.host_workers.specs.Board.{AreCells, AreNamed, IsBackOf, IsFrontOf, IsLinesOf, IsSwitchOf, empties, empty_places, places_of}
use Rattle.host_workers.specs.Fronts.{IsFrontCell}
use Rattle.host_workers.specs.Lines.{HasCounted, IsLinesCell, IsNumbered}
use Rattle.host_workers.specs.Names.{Run, no_extent}
use Rattle.host_workers.specs.Switches.{HasPrinted, IsSwitchCell, got_of, script_of as script_of_switch, sent_on}
use Rattle.host_workers.specs.declared.back_cell.BackCell.{BackCell}
use Rattle.host_workers.specs.declared.cells.Cells.{Cells}
use Rattle.host_workers.specs.declared.front_cell.FrontCell.{FrontCell}
use Rattle.host_workers.specs.declared.lines_cell.LinesCell.{LinesCell}
use Rattle.host_workers.specs.declared.joining.Halves.{Halves}
use Rattle.host_workers.specs.declared.switch_cell.SwitchCell.{SwitchCell}
use Rattle.worker_pool.specs.Fresh.{AreFreshSlots}
use Rattle.worker_pool.specs.Making.{AreMade}
use Rattle.worker_pool.specs.Named.{of_place, run_of, said_of_place}
use Rattle.worker_pool.specs.declared.making.Made.{Made}

module _ {A B : Type 0} where
  -- what stands in a mapped list comes from what stands there
  pub of_map : (f : A → B) (xs : List A) (at : ℕ) (y : B) → slice_get (map f xs) at ≡ Some y → (x : A) × (slice_get xs at ≡ Some x) × (f x ≡ y)
  of_map f [] at y e = cc
  of_map f (x ∷ xs) zero y e = (x, refl, cc)
  of_map f (x ∷ xs) (suc at) y e = of_map f xs at y e

  -- and what stands in a list stands, mapped, in the mapped one
  pub to_map : (f : A → B) (xs : List A) (at : ℕ) (x : A) → slice_get xs at ≡ Some x → slice_get (map f xs) at ≡ Some (f x)
  to_map f xs at x e = slice_get-map f xs at ∙ ap (option_map f) e

-- The run begins with what was handed in.
pub record BeginsWith {D R W : Type 0} (moment_of : D → ℕ) (left_since : D → ℕ → List ℕ → Type 0) (told : D → Option (List ℕ)) (image : D → List ℕ → Type 0)
    (faults_of : D → ℕ) (left : R → Option (List ℕ)) (read_faults : R → ℕ) (taken : W → Option (List ℕ)) (write_faults : W → ℕ)
    (script : Script) (run : Run) (all : List (Halves D)) (switch : Switch W) (lines : Lines R) : Type 0 where
  pub few : length all ≤ most_slots
  pub script_is : run.script ≡ script
  pub many : run.slots ≡ length all
  pub objects : (slot : ℕ) (halves : Halves D) → slice_get all slot ≡ Some halves
      → (run.objects slot ≡ halves.back.identity) × (run.classes slot ≡ class_in script halves.back.identity)
  pub backs : (slot : ℕ) (halves : Halves D) → slice_get all slot ≡ Some halves
      → (run.alarms slot ≡ alarm_of halves.back) × (run.extents slot ≡ extent_of halves.back)
  pub begun : (slot : ℕ) (halves : Halves D) → slice_get all slot ≡ Some halves → (start : List (List Op)) (opening : ℕ)
      → IsBack moment_of left_since told image faults_of start opening halves.back → run.begun slot start opening
  pub switch_is : run.switch ≡ state_of switch
  pub input : (whole : List ℕ) → IsReading left whole [] lines → run.input whole
  pub read_from : run.read_faults ≡ read_faults (source_of lines)
  pub held : (run.held ≡ taken (out_of switch)) × (run.write_faults ≡ write_faults (out_of switch))

-- where each end has nothing, each slot's lane has
pub all_unused : {S X : Type 0} (items : S → List X) (ends : List S) → ((at : ℕ) (end : S) → slice_get ends at ≡ Some end → items end ≡ [])
    → (slot : ℕ) → at_slot items ends slot ≡ []
all_unused items [] each zero = refl
all_unused items [] each (suc slot) = refl
all_unused items (end ∷ ends) each zero = each 0 end refl
all_unused items (end ∷ ends) each (suc slot) = all_unused items ends (λ at e is. each (suc at) e is) slot

-- no place of a mapped list of cells is empty
pub none_empty : {A B : Type 0} (f : A → B) (xs : List A) → empties (map (λ (p : Option B). is_some p) (map (λ (x : A). Some (f x)) xs)) ≡ 0
none_empty f [] = refl
none_empty f (x ∷ xs) = none_empty f xs

module _ {D T : Type 0} (moment_of : D → ℕ) (left_since : D → ℕ → List ℕ → Type 0) (told : D → Option (List ℕ)) (image : D → List ℕ → Type 0)
    (faults_of : D → ℕ) (script : Script) (all : List (Halves D)) (m : Made D T) (made : AreMade moment_of left_since told image faults_of script all m) where
  -- nothing was taken from any slot
  pub no_message : (slot : ℕ) → at_slot got_of m.outs.items slot ≡ []
  no_message = all_unused got_of m.outs.items (λ at end is.
      let found = of_map (λ (s : Row D T). s.1.out) made.slots at end (ap (λ (l : List (Taking Message)). slice_get l at) (sym made.outs) ∙ is) in
      sym (ap got_of found.2) ∙ (made.each at found.0 found.1).no_message)

  -- nothing was posted to any slot
  pub no_event : (slot : ℕ) → at_slot sent_on m.inboxes.items slot ≡ []
  no_event = all_unused sent_on m.inboxes.items (λ at end is.
      let found = of_map (λ (s : Row D T). s.1.inbox) made.slots at end (ap (λ (l : List (Sending Event)). slice_get l at) (sym made.inboxes) ∙ is) in
      sym (ap sent_on found.2) ∙ (made.each at found.0 found.1).no_event)

module _ {D R W T : Type 0} (moment_of : D → ℕ) (left_since : D → ℕ → List ℕ → Type 0) (told : D → Option (List ℕ)) (image : D → List ℕ → Type 0)
    (faults_of : D → ℕ) (left : R → Option (List ℕ)) (read_faults : R → ℕ) (taken : W → Option (List ℕ)) (write_faults : W → ℕ)
    (script : Script) (all : List (Halves D)) (m : Made D T) (sc : SwitchCell W T)
    (lc : LinesCell R T) (made : AreMade moment_of left_since told image faults_of script all m) where
  -- the cells that were made
  abbrev cells : Cells D R W T
  cells = record { fronts = m.fronts; backs = m.backs; switch = Some sc; lines = Some lc }

  -- the run that they name
  abbrev run : Run
  run = run_of moment_of left_since told image faults_of left read_faults taken write_faults cells

  -- each slot's front is at its place
  front_at : (slot : ℕ) (s : Row D T) → slice_get made.slots slot ≡ Some s → slice_get m.fronts.items slot ≡ Some (Some s.1.front)
  front_at slot s at = ap (λ (l : List (Option (FrontCell T))). slice_get l slot) made.fronts ∙ to_map (λ (s : Row D T). Some s.1.front) made.slots slot s at

  -- so is each slot's back
  back_at : (slot : ℕ) (s : Row D T) → slice_get made.slots slot ≡ Some s → slice_get m.backs.items slot ≡ Some (Some s.1.back)
  back_at slot s at = ap (λ (l : List (Option (BackCell D T))). slice_get l slot) made.backs ∙ to_map (λ (s : Row D T). Some s.1.back) made.slots slot s at

  -- of each slot's halves those are known that its cells have
  object_is : (slot : ℕ) (s : Row D T) → slice_get made.slots slot ≡ Some s → run.objects slot ≡ s.0.back.identity
  object_is slot s at =
      ap (λ (p : Option (Option (BackCell D T))). of_place None (λ (cell : BackCell D T). cell.back.identity) p) (back_at slot s at)
      ∙ ap (λ (b : Back D). b.identity) (made.each slot s at).same

  -- the alarm is that of its back
  alarm_is : (slot : ℕ) (s : Row D T) → slice_get made.slots slot ≡ Some s → run.alarms slot ≡ alarm_of s.0.back
  alarm_is slot s at =
      ap (λ (p : Option (Option (BackCell D T))). of_place None (λ (cell : BackCell D T). alarm_of cell.back) p) (back_at slot s at)
      ∙ ap (λ (b : Back D). alarm_of b) (made.each slot s at).same

  -- so is the extent of its journal
  extent_is : (slot : ℕ) (s : Row D T) → slice_get made.slots slot ≡ Some s → run.extents slot ≡ extent_of s.0.back
  extent_is slot s at =
      ap (λ (p : Option (Option (BackCell D T))). of_place no_extent (λ (cell : BackCell D T). extent_of cell.back) p) (back_at slot s at)
      ∙ ap (λ (b : Back D). extent_of b) (made.each slot s at).same

  -- its back was mounted so
  begun_so : (slot : ℕ) (s : Row D T) → slice_get made.slots slot ≡ Some s → (start : List (List Op)) (opening : ℕ)
      → IsBack moment_of left_since told image faults_of start opening s.0.back → run.begun slot start opening
  begun_so slot s at start opening known = subst (λ (p : Option (Option (BackCell D T))). said_of_place (λ (cell : BackCell D T). IsBack moment_of left_since told image faults_of start opening cell.back) p)
      (sym (back_at slot s at)) (subst (λ (b : Back D). IsBack moment_of left_since told image faults_of start opening b) (sym (made.each slot s at).same) known)

  -- it was mounted as the run names it
  so_begun : (slot : ℕ) (s : Row D T) → slice_get made.slots slot ≡ Some s → (start : List (List Op)) (opening : ℕ)
      → run.begun slot start opening → IsBack moment_of left_since told image faults_of start opening s.0.back
  so_begun slot s at start opening so = subst (λ (b : Back D). IsBack moment_of left_since told image faults_of start opening b) (made.each slot s at).same
      (subst (λ (p : Option (Option (BackCell D T))). said_of_place (λ (cell : BackCell D T). IsBack moment_of left_since told image faults_of start opening cell.back) p) (back_at slot s at) so)

  module _ (same : script_of_switch sc ≡ script) where
    -- the class is that of its back's object
    class_is : (slot : ℕ) (s : Row D T) → slice_get made.slots slot ≡ Some s → run.classes slot ≡ class_in script s.0.back.identity
    class_is slot s at =
        ap (λ (p : Option (Option (BackCell D T))). of_place None (λ (cell : BackCell D T). class_in (script_of_switch sc) cell.back.identity) p) (back_at slot s at)
        ∙ ap (λ (x : Script). class_in x s.1.back.back.identity) same ∙ ap (λ (b : Back D). class_in script b.identity) (made.each slot s at).same

    -- each slot's front is the one that is named
    front_is : (slot : ℕ) (s : Row D T) → slice_get made.slots slot ≡ Some s → IsFrontOf run slot s.1.front
    front_is slot s at =
        let h = made.each slot s at in
        let class = class_is slot s at in
        let alarm = alarm_is slot s at in
        record {
          script = h.script_is ∙ sym same;
          inbox = sym (ap (λ (p : Option (Option (FrontCell T))). of_place nowhere (λ (cell : FrontCell T). cell.inbox.lane) p) (front_at slot s at));
          notices = sym (ap (λ (p : Option (Option (FrontCell T))). of_place nowhere (λ (cell : FrontCell T). cell.notices.lane) p) (front_at slot s at));
          line = sym (ap (λ (p : Option (Option (FrontCell T))). of_place nowhere (λ (cell : FrontCell T). cell.line.lane) p) (front_at slot s at));
          front = subst (λ (x : Option ℕ × Option (ℤ × ℕ)). IsFrontCell x.0 x.1 s.1.front) (λ i. (sym class i, sym alarm i)) h.front;
        }

    -- so is each front that is there
    fronts_are : (slot : ℕ) (cell : FrontCell T) → slice_get m.fronts.items slot ≡ Some (Some cell) → IsFrontOf run slot cell
    fronts_are slot cell at =
        let found = of_map (λ (s : Row D T). Some s.1.front) made.slots slot (Some cell) (ap (λ (l : List (Option (FrontCell T))). slice_get l slot) (sym made.fronts) ∙ at) in
        let is : Some found.0.1.front ≡ Some cell = found.2 in
        let cell_is : found.0.1.front ≡ cell = cc in
        subst (λ (x : FrontCell T). IsFrontOf run slot x) cell_is (front_is slot found.0 found.1)

  module _ (fresh : AreFreshSlots moment_of left_since told image faults_of script all) where
    -- each slot's halves are those that were handed in
    half_at : (slot : ℕ) (s : Row D T) → slice_get made.slots slot ≡ Some s → slice_get all slot ≡ Some s.0
    half_at slot s at = ap (λ (l : List (Halves D)). slice_get l slot) made.halves ∙ to_map (λ (s : Row D T). s.0) made.slots slot s at

    -- each slot's back is the one that is named
    back_is : (slot : ℕ) (s : Row D T) → slice_get made.slots slot ≡ Some s → IsBackOf moment_of left_since told image faults_of run slot s.1.back
    back_is slot s at =
        let h = made.each slot s at in
        let begun = (fresh slot s.0 (half_at slot s at)).some in
        let object = object_is slot s at in
        let extent = extent_is slot s at in
        let alarm = alarm_is slot s at in
        record {
          line = h.line ∙ sym (ap (λ (p : Option (Option (FrontCell T))). of_place nowhere (λ (cell : FrontCell T). cell.line.lane) p) (front_at slot s at));
          notices = h.notices ∙ sym (ap (λ (p : Option (Option (FrontCell T))). of_place nowhere (λ (cell : FrontCell T). cell.notices.lane) p) (front_at slot s at));
          out = sym (ap (λ (p : Option (Option (BackCell D T))). of_place nowhere (λ (cell : BackCell D T). cell.out.lane) p) (back_at slot s at));
          some = (begun.0, begun.1, begun_so slot s at begun.0 begun.1 begun.2);
          back = λ start opening so. h.back start opening (so_begun slot s at start opening so);
          alone = λ start opening so. subst (λ (x : Option Object × Extent × Option (ℤ × ℕ)). IsCellAlone moment_of left_since told image faults_of start opening x.0 x.1 x.2 s.1.back)
              (λ i. (sym object i, sym extent i, sym alarm i)) (h.alone start opening (so_begun slot s at start opening so));
        }

    -- so is each back that is there
    backs_are : (slot : ℕ) (cell : BackCell D T) → slice_get m.backs.items slot ≡ Some (Some cell)
        → IsBackOf moment_of left_since told image faults_of run slot cell
    backs_are slot cell at =
        let found = of_map (λ (s : Row D T). Some s.1.back) made.slots slot (Some cell) (ap (λ (l : List (Option (BackCell D T))). slice_get l slot) (sym made.backs) ∙ at) in
        let is : Some found.0.1.back ≡ Some cell = found.2 in
        let cell_is : found.0.1.back ≡ cell = cc in
        subst (λ (x : BackCell D T). IsBackOf moment_of left_since told image faults_of run slot x) cell_is (back_is slot found.0 found.1)

  -- the switch's ends from which it takes are those of the slots
  outs_named : (outs : List (Taking Message)) → outs ≡ m.outs.items → AreNamed run.outs (map (λ (end : Taking Message). end.lane) outs)
  outs_named outs same slot lane at =
      let end = of_map (λ (end : Taking Message). end.lane) outs slot lane at in
      let found = of_map (λ (s : Row D T). s.1.out) made.slots slot end.0 (ap (λ (l : List (Taking Message)). slice_get l slot) (sym (same ∙ made.outs)) ∙ end.1) in
      sym end.2 ∙ sym (ap (λ (x : Taking Message). x.lane) found.2) ∙ (made.each slot found.0 found.1).out
      ∙ sym (ap (λ (p : Option (Option (BackCell D T))). of_place nowhere (λ (cell : BackCell D T). cell.out.lane) p) (back_at slot found.0 found.1))

  -- so are those on which it posts
  inboxes_named : (inboxes : List (Sending Event)) → inboxes ≡ m.inboxes.items → AreNamed run.inboxes (map (λ (end : Sending Event). end.lane) inboxes)
  inboxes_named inboxes same slot lane at =
      let end = of_map (λ (end : Sending Event). end.lane) inboxes slot lane at in
      let found = of_map (λ (s : Row D T). s.1.inbox) made.slots slot end.0 (ap (λ (l : List (Sending Event)). slice_get l slot) (sym (same ∙ made.inboxes)) ∙ end.1) in
      sym end.2 ∙ sym (ap (λ (x : Sending Event). x.lane) found.2) ∙ (made.each slot found.0 found.1).inbox
      ∙ sym (ap (λ (p : Option (Option (FrontCell T))). of_place nowhere (λ (cell : FrontCell T). cell.inbox.lane) p) (front_at slot found.0 found.1))

  -- there is a front for each slot
  pub many_fronts : length m.fronts.items ≡ length all
  many_fronts = ap length made.fronts ∙ length-map made.slots (λ (s : Row D T). Some s.1.front) ∙ sym (length-map made.slots (λ (s : Row D T). s.0)) ∙ sym (ap length made.halves)

  -- there is a back for each slot
  pub many_backs : length m.backs.items ≡ length all
  many_backs = ap length made.backs ∙ length-map made.slots (λ (s : Row D T). Some s.1.back) ∙ sym (length-map made.slots (λ (s : Row D T). s.0)) ∙ sym (ap length made.halves)

  -- there is an end to take from for each slot
  pub many_outs : length m.outs.items ≡ length all
  many_outs = ap length made.outs ∙ length-map made.slots (λ (s : Row D T). s.1.out) ∙ sym (length-map made.slots (λ (s : Row D T). s.0)) ∙ sym (ap length made.halves)

  -- there is an end to post on for each slot
  pub many_inboxes : length m.inboxes.items ≡ length all
  many_inboxes = ap length made.inboxes ∙ length-map made.slots (λ (s : Row D T). s.1.inbox) ∙ sym (length-map made.slots (λ (s : Row D T). s.0)) ∙ sym (ap length made.halves)

  -- none of the places of the cells is empty
  pub none_missing : empty_places (places_of cells) ≡ 0
  none_missing =
      let fronts : empties (map is_some m.fronts.items) ≡ 0 = ap (λ (l : List (Option (FrontCell T))). empties (map is_some l)) made.fronts ∙ none_empty (λ (s : Row D T). s.1.front) made.slots in
      let backs : empties (map is_some m.backs.items) ≡ 0 = ap (λ (l : List (Option (BackCell D T))). empties (map is_some l)) made.backs ∙ none_empty (λ (s : Row D T). s.1.back) made.slots in
      omega (arith, fronts, backs)

  -- all cells are those of the run that they name
  pub are_cells : length all ≤ most_slots → script_of_switch sc ≡ script → AreFreshSlots moment_of left_since told image faults_of script all
      → sc.lines.lane ≡ lc.send.lane → sc.outs.items ≡ m.outs.items → sc.inboxes.items ≡ m.inboxes.items → IsSwitchCell (state_of sc.switch) sc
      → HasPrinted taken write_faults (taken (out_of sc.switch)) (write_faults (out_of sc.switch)) sc.switch
      → ((whole : List ℕ) → IsReading left whole [] lc.lines → IsLinesCell left whole lc)
      → HasCounted read_faults (read_faults (source_of lc.lines)) lc.lines → IsNumbered lc
      → AreCells run moment_of left_since told image faults_of left read_faults taken write_faults cells
  are_cells few same fresh lane outs inboxes switch printed lines counted numbered = record {
    few = subst (λ (n : ℕ). n ≤ most_slots) (sym many_fronts) few;
    each_front = refl;
    each_back = many_backs ∙ sym many_fronts;
    fronts = fronts_are same;
    backs = backs_are fresh;
    switch = λ cell is. let sc_is : sc ≡ cell = cc in subst (λ (x : SwitchCell W T). IsSwitchOf taken write_faults run x) sc_is (record {
      script = refl;
      lines = lane;
      slots = ap length outs ∙ many_outs ∙ sym many_fronts;
      outs = outs_named sc.outs.items outs;
      inboxes = inboxes_named sc.inboxes.items inboxes;
      switch = switch;
      printed = printed;
    });
    lines = λ cell is. let lc_is : lc ≡ cell = cc in subst (λ (x : LinesCell R T). IsLinesOf left read_faults run x) lc_is (record {
      lane = refl;
      lines = lines;
      counted = counted;
      numbered = numbered;
    });
  }

  -- that run begins with what was handed in
  pub begins_with : (switch : Switch W) (lines : Lines R) → length all ≤ most_slots → script_of_switch sc ≡ script → sc.switch ≡ switch → lc.lines ≡ lines
      → BeginsWith moment_of left_since told image faults_of left read_faults taken write_faults script run all switch lines
  begins_with switch lines few same switch_is lines_are = record {
    few = few;
    script_is = same;
    many = many_fronts;
    objects = λ slot halves at.
        let found = of_map (λ (s : Row D T). s.0) made.slots slot halves (ap (λ (l : List (Halves D)). slice_get l slot) (sym made.halves) ∙ at) in (
          object_is slot found.0 found.1 ∙ ap (λ (h : Halves D). h.back.identity) found.2,
          class_is same slot found.0 found.1 ∙ ap (λ (h : Halves D). class_in script h.back.identity) found.2,
        );
    backs = λ slot halves at.
        let found = of_map (λ (s : Row D T). s.0) made.slots slot halves (ap (λ (l : List (Halves D)). slice_get l slot) (sym made.halves) ∙ at) in (
          alarm_is slot found.0 found.1 ∙ ap (λ (h : Halves D). alarm_of h.back) found.2,
          extent_is slot found.0 found.1 ∙ ap (λ (h : Halves D). extent_of h.back) found.2,
        );
    begun = λ slot halves at start opening known.
        let found = of_map (λ (s : Row D T). s.0) made.slots slot halves (ap (λ (l : List (Halves D)). slice_get l slot) (sym made.halves) ∙ at) in
        begun_so slot found.0 found.1 start opening (subst (λ (h : Halves D). IsBack moment_of left_since told image faults_of start opening h.back) (sym found.2) known);
    switch_is = ap (λ (s : Switch W). state_of s) switch_is;
    input = λ whole reading. subst (λ (l : Lines R). IsReading left whole [] l) (sym lines_are) reading;
    read_from = ap (λ (l : Lines R). read_faults (source_of l)) lines_are;
    held = (ap (λ (s : Switch W). taken (out_of s)) switch_is, ap (λ (s : Switch W). write_faults (out_of s)) switch_is);
  }
