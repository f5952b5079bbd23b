-- What the workers leave is what a run of them leaves.
use Rattle.std.proofs.Common.{◌≡◌, ◌∙◌, ap, sym, refl, subst, ℕ, ◌+◌, ◌<◌, ◌≤◌, arith, false, List, [], ◌++◌, length, map, slice_get, Option, Some, None, Ok, Err, All}
use Rattle.std.proofs.lemmas.Option.{slice_get_within}
use Rattle.do_tree.specs.Tree.{Script}
use Rattle.lane.specs.Lanes.{StartsWith}
use Rattle.line_server.specs.Lines.{IsReading}
use Rattle.line_server.specs.Seen.{seen}
use Rattle.line_server.specs.declared.lines.Lines.{Lines}
use Rattle.mailbox.specs.Posting.{of_slot}
use Rattle.mailbox.specs.Runs.{fault_of, log_of, state_of}
use Rattle.mailbox.specs.Seen.{seen_line}
use Rattle.mailbox.specs.declared.fault.SwitchFault.TheVariants.{WriteFailed}
use Rattle.mailbox.specs.declared.switch.Switch.{Switch}
use Rattle.output_gate.specs.Serving.{alarm_of}
use Rattle.object_core.specs.One.{IsOne, class_in, mounted_at}
use Rattle.object_core.specs.declared.object.Core.{Core}
use Rattle.timeline.specs.declared.event.Event.{Event}
use Rattle.timeline.specs.declared.message.Message.{Message}
use Rattle.host_workers.specs.Fronts.{IsFrontCell}
use Rattle.host_workers.specs.Switches.{IsSwitchOver, got_of, kept_in, sent_on}
use Rattle.host_workers.specs.declared.cells.Cells.{Cells}
use Rattle.host_workers.specs.declared.joining.Halves.{Halves}
use Rattle.host_workers.specs.declared.lines_cell.LinesCell.{LinesCell}
use Rattle.host_workers.specs.declared.switch_cell.SwitchCell.{SwitchCell}
use Rattle.worker_pool.specs.Ended.{HasPassedOn, HasRun, IsRunOf}
use Rattle.worker_pool.specs.Joined.{AreHalvesOf, AreJoined, AreOf, HasItsEnds, IsCoreOf, Slot}
use Rattle.worker_pool.specs.Worked.{HasWorked, IsWorked}
use Rattle.worker_pool.specs.declared.ran.Ran.{Ran}
use Rattle.worker_pool.proofs.Leftovers.{all_within, at_none, at_some, goes_on_with, starts_with}
use Rattle.worker_pool.proofs.Slots.{AreAllOf, at_of, each_of, get_before, get_behind, joined_many, some_at, zip_length, zip_other, zipped, zipped_are}

module _ {D R W T : Type 0} (moment_of : D → ℕ) (left_since : D → ℕ → List ℕ → Type 0) (told : D → Option (List ℕ)) (image : D → List ℕ → Type 0)
    (faults_of : D → ℕ) (left : R → Option (List ℕ)) (read_faults : R → ℕ) (taken : W → Option (List ℕ)) (write_faults : W → ℕ) where
  -- What is closed of these cells: the slots are joined, as far as memory was there, and the parts of the others are as they were.
  pub record IsClosed (slots : List (Slot D T)) (cell : SwitchCell W T) (lines : LinesCell R T) (ran : Ran D R W) : Type 0 where
    pub switch_is : ran.switch ≡ cell.switch
    pub kept_is : ran.kept ≡ cell.kept
    pub lines_is : ran.lines ≡ lines.lines
    pub joined : AreJoined moment_of left_since told image faults_of slots ran.cores.items ran.apart.items
    pub first : StartsWith lines.send.sent cell.lines.got
    pub free : ran.end ≡ Ok tt → fault_of cell.switch ≡ None
    pub passed : ran.end ≡ Ok tt → (lines.stopped ≡ false) × (lines.send.sent ≡ cell.lines.got ++ ran.rest.waiting)
    pub whole : ran.end ≡ Ok tt → ran.apart.items ≡ []
    pub failed : ran.end ≡ Err WriteFailed → fault_of cell.switch ≡ Some WriteFailed
    pub fails : fault_of cell.switch ≡ Some WriteFailed → ran.end ≡ Err WriteFailed

  module _ (script : Script) (all : List (Halves D)) (switch : Switch W) (lines : Lines R) (cells : Cells D R W T)
      (w : HasWorked moment_of left_since told image faults_of left read_faults taken write_faults script all switch lines cells) where
    -- The slots of the cells.
    abbrev pub slots : List (Slot D T)
    slots = zipped w.fronts w.backs w.switch_cell.outs.items w.switch_cell.inboxes.items

    -- There are as many cells of each kind.
    all_of : AreAllOf slots w.fronts w.backs w.switch_cell.outs.items w.switch_cell.inboxes.items
    all_of =
        zipped_are w.fronts w.backs w.switch_cell.outs.items w.switch_cell.inboxes.items (w.each_back ∙ sym w.each_front) (w.each_out ∙ sym w.each_front)
        (w.each_inbox ∙ sym w.each_front)

    -- What was posted to a slot, and what was taken of all slots.
    abbrev posts : ℕ → List Event
    posts slot = of_slot slot (log_of w.switch_cell.switch).posts

    abbrev routed : List (ℕ × Message)
    routed = (log_of w.switch_cell.switch).routed ++ kept_in w.switch_cell.kept

    -- The switch has run by the script of the run.
    abbrev IsSwitch : Type 0
    IsSwitch = IsSwitchOver script (state_of switch) w.switch_cell.switch w.switch_cell.kept w.switch_cell.outs.items w.switch_cell.inboxes.items w.switch_cell.lines.got

    -- It has.
    is_switch : IsSwitch
    is_switch =
        subst (λ (s : Script). IsSwitchOver s (state_of switch) w.switch_cell.switch w.switch_cell.kept w.switch_cell.outs.items w.switch_cell.inboxes.items w.switch_cell.lines.got)
        w.same_script w.is_switch

    -- The cells of a slot are those of halves with which the run began.
    abbrev IsOfHalves : ℕ → Halves D → Slot D T → Type 0
    IsOfHalves at begun slot = IsWorked moment_of left_since told image faults_of script begun slot.front slot.back slot.inbox slot.out

    -- Each slot's are.
    of_halves : (at : ℕ) (begun : Halves D) (slot : Slot D T) → slice_get all at ≡ Some begun → slice_get slots at ≡ Some slot → IsOfHalves at begun slot
    of_halves at begun slot is there =
        let a = at_of slots w.fronts w.backs w.switch_cell.outs.items w.switch_cell.inboxes.items at slot all_of there in
        w.each at begun slot.front slot.back slot.inbox slot.out is a.front_at a.back_at a.inbox_at a.out_at

    -- An object of them is one whose run began so.
    run_of : (at : ℕ) (begun : Halves D) (slot : Slot D T) (core : Core D) → slice_get all at ≡ Some begun → slice_get slots at ≡ Some slot
        → IsCoreOf moment_of left_since told image faults_of slot core
        → IsRunOf moment_of left_since told image faults_of script begun (posts at) (of_slot at routed) core
    run_of at begun slot core is there of =
        let a = at_of slots w.fronts w.backs w.switch_cell.outs.items w.switch_cell.inboxes.items at slot all_of there in
        let k = of_halves at begun slot is there in record {
          given = of.given ∙ sym (at_some sent_on w.switch_cell.inboxes.items at slot.inbox a.inbox_at) ∙ is_switch.posted at;
          collected = of.collected ∙ sym (at_some got_of w.switch_cell.outs.items at slot.out a.out_at) ∙ is_switch.routed at;
          one = λ start opening stands.
              subst (λ (s : Script). IsOne moment_of left_since told image faults_of s (mounted_at start opening begun.back) core) k.script_is
              (of.one (mounted_at start opening begun.back) (alarm_of begun.back) refl
              (subst (λ (s : Script). IsFrontCell (class_in s begun.back.identity) (alarm_of begun.back) slot.front) (sym k.script_is) k.is_front)
              (k.is_back start opening stands));
        }

    -- Each message that was taken is one of a slot.
    all_there : All (λ (sent : ℕ × Message). sent.0 < length all) routed
    all_there = all_within (length all) routed (λ slot past. sym (is_switch.routed slot) ∙ at_none got_of w.switch_cell.outs.items slot
        (subst (λ (n : ℕ). n ≤ slot) (sym w.each_out) past))

    module _ (ran : Ran D R W) (closed : IsClosed slots w.switch_cell w.lines_cell ran) where
      -- The object of each slot that was joined.
      each_core : (at : ℕ) (begun : Halves D) (core : Core D) → slice_get all at ≡ Some begun → slice_get ran.cores.items at ≡ Some core
          → IsRunOf moment_of left_since told image faults_of script begun (posts at) (of_slot at routed) core
      each_core at begun core is there =
          let j = closed.joined in
          let o = zip_other (IsCoreOf moment_of left_since told image faults_of) j.joined ran.cores.items at core j.each_core there in
          run_of at begun o.0 core is
          (subst (λ (l : List (Slot D T)). slice_get l at ≡ Some o.0) (sym j.all) (get_before j.joined j.refused at o.0 o.1)) o.2

      -- The halves of each other slot.
      each_apart : (at : ℕ) (begun halves : Halves D) → slice_get all (length ran.cores.items + at) ≡ Some begun → slice_get ran.apart.items at ≡ Some halves
          → (core : Core D) × (core.front ≡ halves.front) × (core.back ≡ halves.back)
          × IsRunOf moment_of left_since told image faults_of script begun (posts (length ran.cores.items + at)) (of_slot (length ran.cores.items + at) routed) core
      each_apart at begun halves is there =
          let j = closed.joined in
          let o = zip_other (AreHalvesOf moment_of left_since told image faults_of) j.refused ran.apart.items at halves j.each_apart there in
          let long : length ran.cores.items ≡ length j.joined = sym (zip_length (IsCoreOf moment_of left_since told image faults_of) j.joined ran.cores.items j.each_core) in
          let found : slice_get slots (length ran.cores.items + at) ≡ Some o.0 =
          subst (λ (l : List (Slot D T)). slice_get l (length ran.cores.items + at) ≡ Some o.0) (sym j.all)
          (get_behind j.joined j.refused (length ran.cores.items) at (length ran.cores.items + at) o.0 long refl o.1) in
          let h = o.2 in
          (h.0, h.1, h.2, run_of (length ran.cores.items + at) begun o.0 h.0 is found h.3)

      -- The lines that were sent are those of the input.
      passed_on : (whole : List ℕ) → IsReading left whole [] lines
          → HasPassedOn left whole (map seen w.lines_cell.send.sent) (ran.end ≡ Ok tt) w.lines_cell.lines
      passed_on whole reading =
          let r = w.reads whole reading in record {
            lost = r.lost;
            few = r.few;
            none_lost = λ ok. r.none_lost (closed.passed ok).0;
            goes = r.goes;
            first = r.first;
            looked = r.looked;
            exact = r.exact;
          }

      -- Each slot has its object or its halves.
      many_of : length ran.cores.items + length ran.apart.items ≡ length all
      many_of =
          joined_many moment_of left_since told image faults_of slots ran.cores.items ran.apart.items closed.joined
          ∙ all_of.many ∙ w.each_front

      -- The workers' cells, once closed, are what a run leaves,
      as_run : HasRun moment_of left_since told image faults_of left read_faults taken write_faults script all switch lines
          (record ran { switch = w.switch_cell.switch; kept = w.switch_cell.kept; lines = w.lines_cell.lines })
      as_run = record {
        objects = record {
          many = many_of;
          cores = each_core;
          apart = each_apart;
        };
        logged = record {
          there = all_there;
          slots = sym is_switch.each_out ∙ w.each_out;
          so_far = is_switch.so_far;
          run = is_switch.run;
          printed = w.printed;
        };
        reading = record {
          sent = w.lines_cell.send.sent;
          counted = w.counted;
          accepted = starts_with seen_line w.lines_cell.send.sent w.switch_cell.lines.got (log_of w.switch_cell.switch).accepted is_switch.lost closed.first is_switch.accepted;
          rest = λ ok. goes_on_with seen_line w.lines_cell.send.sent w.switch_cell.lines.got ran.rest.waiting (log_of w.switch_cell.switch).accepted is_switch.lost
              (closed.passed ok).1 is_switch.accepted (is_switch.none_lost (closed.free ok));
          order = w.numbered.order;
          below = w.numbered.below;
          reads = passed_on;
        };
        ends = record {
          goes_on = λ ok. (closed.free ok, closed.whole ok);
          write_failed = closed.failed;
          failed_write = closed.fails;
        };
      }

      -- and so is what is the same.
      pub has_run : HasRun moment_of left_since told image faults_of left read_faults taken write_faults script all switch lines ran
      has_run =
          subst (λ (x : Switch W × Option (ℕ × Message) × Lines R).
          HasRun moment_of left_since told image faults_of left read_faults taken write_faults script all switch lines
          (record ran { switch = x.0; kept = x.1; lines = x.2 })) (λ i. (sym closed.switch_is i, sym closed.kept_is i, sym closed.lines_is i)) as_run

    -- The cells of the slots are those of the four vectors, and each end has its other.
    pub are_of : AreOf slots cells.fronts.items cells.backs.items w.switch_cell.outs.items w.switch_cell.inboxes.items
    are_of =
        let z = all_of in record {
          fronts_are = w.fronts_are ∙ z.fronts_are;
          backs_are = w.backs_are ∙ z.backs_are;
          outs_are = z.outs_are;
          inboxes_are = z.inboxes_are;
          ends = each_of (λ (slot : Slot D T). HasItsEnds slot) slots (λ at slot there.
              let within = slice_get_within slots at slot there in
              let begun = some_at all at (omega (arith, z.many, w.each_front, within)) in
              let k = of_halves at begun.0 slot begun.1 there in
              record { inbox = k.inbox; line = k.line; notices = k.notices; out = k.out });
        }

    -- So are those of a switch's cell that is the same.
    pub are_by : (cell : SwitchCell W T) → cell ≡ w.switch_cell → AreOf slots cells.fronts.items cells.backs.items cell.outs.items cell.inboxes.items
    are_by cell same =
        subst (λ (s : SwitchCell W T). AreOf slots cells.fronts.items cells.backs.items s.outs.items s.inboxes.items) (sym same) are_of

    -- What is closed of the same cells is what a run leaves.
    pub has_run_by : (cell : SwitchCell W T) (reader : LinesCell R T) → cell ≡ w.switch_cell → reader ≡ w.lines_cell → (ran : Ran D R W)
        → IsClosed slots cell reader ran → HasRun moment_of left_since told image faults_of left read_faults taken write_faults script all switch lines ran
    has_run_by cell reader same_cell same_reader ran closed =
        has_run ran (subst (λ (x : SwitchCell W T × LinesCell R T). IsClosed slots x.0 x.1 ran) (λ i. (same_cell i, same_reader i)) closed)

    -- The ends of the lines are those of one lane.
    pub lanes_meet : (cell : SwitchCell W T) (reader : LinesCell R T) → cell ≡ w.switch_cell → reader ≡ w.lines_cell → reader.send.lane ≡ cell.lines.lane
    lanes_meet cell reader same_cell same_reader =
        ap (λ (l : LinesCell R T). l.send.lane) same_reader ∙ w.lane ∙ sym (ap (λ (s : SwitchCell W T). s.lines.lane) same_cell)
