-- The rows of objects and of halves, behind what the run has served.
use Rattle.std.proofs.Common.{◌≡◌, ◌≤◌, ◌∙◌, ap, sym, subst, refl, ℕ, true, List, [], length, Option, Some, Ok, Err, Result}
use Rattle.std.specs.Prelude.{IfErr, slice_get}
use Rattle.do_disk.specs.Disk.{IfTold}
use Rattle.do_disk.specs.Slots.{most_slots}
use Rattle.do_tree.specs.Tree.{Script}
use Rattle.line_server.specs.Lines.{IsReading, source_of}
use Rattle.line_server.specs.declared.lines.Lines.{Lines}
use Rattle.mailbox.specs.Runs.{log_of, state_of}
use Rattle.mailbox.specs.declared.fault.SwitchFault.{SwitchFault}
use Rattle.mailbox.specs.declared.fault.SwitchFault.TheVariants as switch
use Rattle.mailbox.specs.declared.switch.Switch.{Switch}
use Rattle.placement.specs.Slots.{Slots}
use Rattle.timeline.specs.Switch.{no_log, opened}
use Rattle.host_workers.specs.declared.joining.Halves.{Halves}
use Rattle.worker_pool.specs.Ended.{HasRun}
use Rattle.worker_pool.specs.Fresh.{AreFreshSlots}
use Rattle.worker_pool.specs.declared.ran.Ran.{Ran}
use Rattle.host_core.proofs.Reporting.{none_there, true_is_not}
use Rattle.host_core.proofs.Resuming.{resumed_halves}
use Rattle.host_core.specs.Begun.{AreBegun}
use Rattle.host_core.specs.Closing.{AreHalves}
use Rattle.host_core.specs.Ends.{is_served, serving_end, switch_stop}
use Rattle.host_core.specs.Resuming.{CameFrom}
use Rattle.host_core.specs.declared.serving.Stop.{Stop}

abbrev stops_so : SwitchFault → Result (Unit {0}) Stop
stops_so f = Err (switch_stop f)

-- Where a fault stopped the workers, the run isn't served.
unserved : (f : SwitchFault) (served : Result (Unit {0}) Stop) → served ≡ stops_so f → is_served (serving_end served) ≡ true → ⊥
unserved switch.WriteFailed served is sure = true_is_not (sym sure ∙ ap (λ (r : Result (Unit {0}) Stop). is_served (serving_end r)) is)
unserved switch.NoMemory served is sure = true_is_not (sym sure ∙ ap (λ (r : Result (Unit {0}) Stop). is_served (serving_end r)) is)

-- Where all that was read is served, nothing stopped the workers.
went_by : (end : Result (Unit {0}) SwitchFault) (served : Result (Unit {0}) Stop) (P : Type 0) → is_served (serving_end served) ≡ true
    → IfErr end (λ f. (served ≡ stops_so f) × P) → end ≡ Ok tt
went_by (Ok tt) served P sure stops = refl
went_by (Err f) served P sure stops = absurd (unserved f served stops.0 sure)

module _ {D : Type 0} (moment_of : D → ℕ) (left_since : D → ℕ → List ℕ → Type 0) (told : D → Option (List ℕ)) (image : D → List ℕ → Type 0)
    (faults_of : D → ℕ) (limit : ℕ) (script : Script) (contents : ℕ → Option (List ℕ)) (named : Slots) where
  -- Halves that were just mounted are fresh.
  pub begun_fresh : (all : List (Halves D)) → AreBegun moment_of left_since told image faults_of limit script contents named all
      → AreFreshSlots moment_of left_since told image faults_of script all
  begun_fresh all are = λ slot halves is. let begun = are slot halves is in record { fresh = begun.fresh; some = (begun.start, begun.opening, begun.stands) }

  module _ {R W : Type 0} (left : R → Option (List ℕ)) (read_faults : R → ℕ) (taken : W → Option (List ℕ)) (write_faults : W → ℕ) (ran : Ran D R W) where
    -- The workers ran over halves that were just mounted, with a switch that had done nothing and a reader that had read nothing.
    abbrev pub came_from : (all : List (Halves D)) (switch : Switch W) (lines : Lines R) (input : R)
        → AreBegun moment_of left_since told image faults_of limit script contents named all → length named ≡ length all → length all ≤ most_slots
        → state_of switch ≡ opened named → log_of switch ≡ no_log → source_of lines ≡ input → IfTold (left input) (λ whole. IsReading left whole [] lines)
        → HasRun moment_of left_since told image faults_of left read_faults taken write_faults script all switch lines ran
        → CameFrom moment_of left_since told image faults_of left read_faults taken write_faults limit script contents named ran
    came_from all switch lines input begun many few objects blank source reading ran_so = record {
      all = all;
      switch = switch;
      lines = lines;
      begun = begun;
      many = many;
      few = few;
      objects = objects;
      blank = blank;
      reading = subst (λ (r : R). IfTold (left r) (λ (whole : List ℕ). IsReading left whole [] lines)) (sym source) reading;
      ran_so = ran_so;
    }

    module _ (came : CameFrom moment_of left_since told image faults_of left read_faults taken write_faults limit script contents named ran)
        (served : Result (Unit {0}) Stop) (mid : Switch W) (stops : IfErr ran.end (λ f. (served ≡ stops_so f) × (mid ≡ ran.switch))) where
      -- Where all that was read is served, each slot has its object.
      pub none_apart : is_served (serving_end served) ≡ true → ran.apart.items ≡ []
      none_apart sure = (came.ran_so.ends.goes_on (went_by ran.end served (mid ≡ ran.switch) sure stops)).1

      -- Where a fault stopped the workers, nothing was logged since; where none did, no slot has halves alone.
      halves_by : (end : Result (Unit {0}) SwitchFault) → ran.end ≡ end → IfErr end (λ f. (served ≡ stops_so f) × (mid ≡ ran.switch))
          → AreHalves moment_of left_since told image faults_of limit script contents named (log_of mid) (length ran.cores.items) ran.apart.items
      halves_by (Ok tt) is so = λ at halves there.
          none_there at halves _ (subst (λ (apart : List (Halves D)). slice_get apart at ≡ Some halves) (came.ran_so.ends.goes_on is).1 there)
      halves_by (Err f) is so =
          subst (λ (s : Switch W). AreHalves moment_of left_since told image faults_of limit script contents named (log_of s) (length ran.cores.items) ran.apart.items) (sym so.1)
          (resumed_halves moment_of left_since told image faults_of left read_faults taken write_faults limit script contents named ran came)

      -- The halves of the slots behind those with an object are those of objects, by the log at the end.
      pub halves_now : (from : ℕ) → from ≡ length ran.cores.items
          → AreHalves moment_of left_since told image faults_of limit script contents named (log_of mid) from ran.apart.items
      halves_now from is =
          subst (λ (n : ℕ). AreHalves moment_of left_since told image faults_of limit script contents named (log_of mid) n ran.apart.items) (sym is)
          (halves_by ran.end refl stops)
