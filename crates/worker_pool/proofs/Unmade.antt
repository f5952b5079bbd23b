-- Where memory was wanting before the run began, nothing was done.
use Rattle.std.proofs.Common.{◌≡◌, ◌<◌, ◌+◌, ◌∙◌, sym, ap, refl, subst, ℕ, arith, List, [], ◌++◌, length, slice_get, Option, Some, None, Ok, Err}
use Rattle.std.specs.Prelude.{false}
use Rattle.std.specs.List.{All}
use Rattle.std.proofs.lemmas.List.Elements.{All-nil}
use Rattle.do_tree.specs.Tree.{Script}
use Rattle.lane.specs.Lanes.{nowhere}
use Rattle.line_server.specs.Lines.{IsReading, fault_of as reading_fault, source_of}
use Rattle.line_server.specs.declared.fault.LineFault.TheVariants.{ReadFailed}
use Rattle.line_server.specs.declared.lines.Lines.{Lines}
use Rattle.mailbox.specs.Posting.{of_slot}
use Rattle.mailbox.specs.Runs.{log_of, state_of}
use Rattle.mailbox.specs.SoFar.{IsRunSoFar, whole as whole_run}
use Rattle.mailbox.specs.declared.fault.SwitchFault.TheVariants.{NoMemory, WriteFailed}
use Rattle.object_core.specs.One.{unused}
use Rattle.object_core.specs.Shown.{FreshAreOne}
use Rattle.object_core.specs.declared.object.Core.{Core}
use Rattle.switch_history.specs.Fit.{IsFitRun, begins as begins_fit}
use Rattle.timeline.specs.Switch as timeline
use Rattle.timeline.specs.declared.event.Event.{Event}
use Rattle.timeline.specs.declared.message.Message.{Message}
use Rattle.host_workers.proofs.Printing.{begins_printed}
use Rattle.host_workers.proofs.Reading.{begins as begins_reading}
use Rattle.host_workers.specs.Lines.{HasCounted}
use Rattle.host_workers.specs.Switches.{kept_in}
use Rattle.host_workers.specs.declared.joining.Halves.{Halves}
use Rattle.host_workers.specs.declared.lines_cell.LinesCell.{LinesCell}
use Rattle.worker_pool.specs.Ended.{HasPassedOn, HasRun, IsRunOf}
use Rattle.worker_pool.specs.Fresh.{AreFreshSlots, IsFreshReader, IsFreshSlot, IsFreshSwitch}
use Rattle.worker_pool.specs.declared.ran.Ran.{Ran}

-- a reader that stands at no fault has counted none
pub begins_counted : {R : Type 0} (faults : R → ℕ) (lines : Lines R) → reading_fault lines ≡ None → HasCounted faults (faults (source_of lines)) lines
begins_counted faults lines free = record {
  steady = λ _. refl;
  later = omega arith;
  rose = λ failed. let no : None ≡ Some ReadFailed = sym free ∙ failed in absurd cc;
}

module _ {D : Type 0} (moment_of : D → ℕ) (left_since : D → ℕ → List ℕ → Type 0) (told : D → Option (List ℕ)) (image : D → List ℕ → Type 0)
    (faults_of : D → ℕ) (are_one : FreshAreOne moment_of left_since told image faults_of) (script : Script) where
  -- halves that were just mounted are those of an object that has run nothing
  fresh_one : (halves : Halves D) → IsFreshSlot moment_of left_since told image faults_of script halves → (posts : List Event) (taken : List Message) → posts ≡ [] → taken ≡ []
      → (core : Core D) × (core.front ≡ halves.front) × (core.back ≡ halves.back) × IsRunOf moment_of left_since told image faults_of script halves posts taken core
  fresh_one halves fresh posts taken no_post no_message =
      let core : Core D = record { front = halves.front; back = halves.back; inbox = unused; line = unused; notices = unused; out = unused } in (
        core,
        refl,
        refl,
        record {
          given = sym no_post;
          collected = sym no_message;
          one = λ start opening known. are_one script start opening halves.front.half halves.back known fresh.fresh;
        },
      )

  module _ {R W : Type 0} (left : R → Option (List ℕ)) (read_faults : R → ℕ) (taken : W → Option (List ℕ)) (write_faults : W → ℕ) (ran : Ran D R W)
      (end : ran.end ≡ Err NoMemory) (none : ran.cores.items ≡ []) (none_kept : ran.kept ≡ None) (fresh_switch : IsFreshSwitch (length ran.apart.items) ran.switch)
      (fresh_lines : IsFreshReader ran.lines) (fresh : AreFreshSlots moment_of left_since told image faults_of script ran.apart.items) where
    -- no message was routed, and none is kept
    none_routed : (log_of ran.switch).routed ++ kept_in ran.kept ≡ []
    none_routed = λ i. (fresh_switch.log i).routed ++ kept_in (none_kept i)

    -- no slot has a post
    no_post : (slot : ℕ) → of_slot slot (log_of ran.switch).posts ≡ []
    no_post slot = ap (λ (l : timeline.SwitchLog). of_slot slot l.posts) fresh_switch.log

    -- no slot has a message
    no_message : (slot : ℕ) → of_slot slot ((log_of ran.switch).routed ++ kept_in ran.kept) ≡ []
    no_message slot = ap (λ (l : List (ℕ × Message)). of_slot slot l) none_routed

    -- there is no joined object
    no_core : (slot : ℕ) (core : Core D) → slice_get ran.cores.items slot ≡ Some core → ⊥
    no_core slot core there = let no : None ≡ Some core = sym (ap (λ (l : List (Core D)). slice_get l slot) none) ∙ there in absurd cc

    -- the halves are those of objects that have run nothing
    are_apart : (at : ℕ) (begun halves : Halves D) → slice_get ran.apart.items (length ran.cores.items + at) ≡ Some begun → slice_get ran.apart.items at ≡ Some halves
        → (core : Core D) × (core.front ≡ halves.front) × (core.back ≡ halves.back)
        × IsRunOf moment_of left_since told image faults_of script begun (of_slot (length ran.cores.items + at) (log_of ran.switch).posts)
        (of_slot (length ran.cores.items + at) ((log_of ran.switch).routed ++ kept_in ran.kept)) core
    are_apart at begun halves begun_at halves_at =
        let zero : length ran.cores.items ≡ 0 = ap (λ (l : List (Core D)). length l) none in
        let here : length ran.cores.items + at ≡ at = omega (arith, zero) in
        let some : Some begun ≡ Some halves = sym begun_at ∙ ap (λ (n : ℕ). slice_get ran.apart.items n) here ∙ halves_at in
        let same : begun ≡ halves = cc in
        let one = fresh_one begun (fresh (length ran.cores.items + at) begun begun_at) _ _ (no_post (length ran.cores.items + at)) (no_message (length ran.cores.items + at)) in
        (one.0, one.1 ∙ ap (λ (h : Halves D). h.front) same, one.2 ∙ ap (λ (h : Halves D). h.back) same, one.3)

    -- the run has not ended well
    not_ended : ran.end ≡ Ok tt → ⊥
    not_ended ended = let no : Err NoMemory ≡ Ok tt = sym end ∙ ended in absurd cc

    -- nothing was accepted, and nothing was read
    reads_none : (whole : List ℕ) → IsReading left whole [] ran.lines → HasPassedOn left whole [] (ran.end ≡ Ok tt) ran.lines
    reads_none bytes reading =
        let cell : LinesCell R R = record { lines = ran.lines; send = record { lane = nowhere; sent = [] }; stopped = false } in
        let is = begins_reading left bytes cell refl reading in
        record {
          lost = is.lost;
          few = is.few;
          none_lost = λ on. is.none_lost refl;
          goes = is.goes;
          first = is.first;
          looked = is.looked;
          exact = is.exact;
        }

    -- what is left is a run that did nothing
    pub unmade_run : HasRun moment_of left_since told image faults_of left read_faults taken write_faults script ran.apart.items ran.switch ran.lines ran
    unmade_run = record {
      objects = record {
        many = let zero : length ran.cores.items ≡ 0 = ap (λ (l : List (Core D)). length l) none in omega (arith, zero);
        cores = λ slot begun core begun_at there. absurd (no_core slot core there);
        apart = are_apart;
      };
      logged = record {
        there = subst (λ (l : List (ℕ × Message)). All (λ (sent : ℕ × Message). sent.0 < length ran.apart.items) l) (sym none_routed)
            (All-nil (λ (sent : ℕ × Message). sent.0 < length ran.apart.items));
        slots = fresh_switch.many;
        so_far = subst (λ (l : timeline.SwitchLog). IsRunSoFar script (state_of ran.switch) l) (sym fresh_switch.log) (whole_run (state_of ran.switch) timeline.begins);
        run = λ goes. subst (λ (l : timeline.SwitchLog). IsFitRun script (state_of ran.switch) l (state_of ran.switch)) (sym fresh_switch.log) begins_fit;
        printed = begins_printed taken write_faults ran.switch fresh_switch.log fresh_switch.free;
      };
      reading = record {
        sent = [];
        counted = begins_counted read_faults ran.lines fresh_lines.free;
        accepted = ([], sym (ap (λ (l : timeline.SwitchLog). l.accepted ++ []) fresh_switch.log));
        rest = λ ended. absurd (not_ended ended);
        order = tt;
        below = tt;
        reads = reads_none;
      };
      ends = record {
        goes_on = λ ended. absurd (not_ended ended);
        write_failed = λ failed. let no : Err NoMemory ≡ Err WriteFailed = sym end ∙ failed in absurd cc;
        failed_write = λ failed. let no : None ≡ Some WriteFailed = sym fresh_switch.free ∙ failed in absurd cc;
      };
    }
