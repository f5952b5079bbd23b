-- The cell of the lines is kept.
use Rattle.std.proofs.Common.{◌≡◌, ◌∙◌, ap, sym, refl, subst, true≢false, ℕ, ◌≤◌, arith, List, [], ◌∷◌, ◌++◌, length, map, append-nil, Option, Some, None}
use Rattle.std.proofs.lemmas.List.{map-append}
use Rattle.std.specs.Prelude.{false, Result, Ok, Err}
use Rattle.do_disk.specs.Disk.{Rose}
use Rattle.line_server.specs.Given.{CountsReads}
use Rattle.line_server.specs.Lines.{IsReading, LooksAt, fault_in, fault_of, source_of}
use Rattle.line_server.specs.Requests.{SeenLine}
use Rattle.line_server.specs.Seen.{seen}
use Rattle.line_server.specs.declared.fault.LineFault.{LineFault}
use Rattle.line_server.specs.declared.fault.LineFault.TheVariants.{ReadFailed}
use Rattle.line_server.specs.declared.line.Line.{Line}
use Rattle.line_server.specs.declared.lines.Lines.{Lines}
use Rattle.line_server.proofs.Given.{has_given_now}
use Rattle.line_server.proofs.Looking.{looked_now}
use Rattle.lane.specs.Lanes.{Sending}
use Rattle.timeline.specs.declared.notice.Stepped.{Stepped}
use Rattle.timeline.specs.declared.notice.Stepped.TheVariants.{Did}
use Rattle.host_workers.specs.Lines.{HasCounted, IsLinesCell, PassesOn, most_at, sent_of}
use Rattle.host_workers.specs.declared.lines_cell.LinesCell.{LinesCell}

none_is_few : 0 ≤ 1
none_is_few = omega arith

one_is_few : 1 ≤ 1
one_is_few = omega arith

-- What isn't so.
ok_err : {A E : Type 0} (a : A) (e : E) → Ok a ≡ Err e → ⊥
ok_err a e is = absurd cc

none_some : (fault : LineFault) → None ≡ Some fault → ⊥
none_some fault is = absurd cc

no_fault : (o : Option LineFault) → ((fault : LineFault) → o ≡ Some fault → ⊥) → o ≡ None
no_fault None never = refl
no_fault (Some fault) never = absurd (never fault refl)

pub good_answer : {A : Type 0} (a : A) (o : Option LineFault) → ((fault : LineFault) → o ≡ Some fault → Ok a ≡ Err fault) → o ≡ None
good_answer a o again = no_fault o (λ fault is. ok_err a fault (again fault is))

module _ {R T : Type 0} (left : R → Option (List ℕ)) (whole : List ℕ) where
  -- a reader that reads on has given these
  reads_on : (cell : LinesCell R T) (lost : List SeenLine) → length lost ≤ 1 → (cell.stopped ≡ false → lost ≡ []) → IsReading left whole (sent_of cell ++ lost) cell.lines
      → IsLinesCell left whole cell
  reads_on cell lost few none is = record {
    lost = lost;
    few = few;
    none_lost = none;
    goes = λ _. is;
    first = has_given_now whole (sent_of cell ++ lost) cell.lines.count cell.lines.bytes.buffer (left cell.lines.bytes.source) is.1;
    looked = subst (λ (o : Option LineFault). LooksAt left whole (sent_of cell ++ lost) (most_at o) cell.lines) (sym is.0)
        (looked_now whole (sent_of cell ++ lost) cell.lines.count cell.lines.bytes.buffer (left cell.lines.bytes.source) is.1);
    exact = λ fault. absurd (none_some ReadFailed (sym is.0 ∙ fault));
  }

  pub begins : (cell : LinesCell R T) → cell.send.sent ≡ [] → IsReading left whole [] cell.lines → IsLinesCell left whole cell
  begins cell none is =
      reads_on cell [] none_is_few (λ _. refl)
      (subst (λ (given : List SeenLine). IsReading left whole given cell.lines) (sym (ap (λ (lines : List Line). map seen lines ++ []) none)) is)

  -- the line was sent, or is lost
  passed : (old : LinesCell R T) (lines : Lines R) (line : Line) (new : LinesCell R T) (result : Result Stepped LineFault)
      → PassesOn (record { lines = lines; send = old.send; stopped = old.stopped }) new line result
      → IsReading left whole (sent_of old ++ seen line ∷ []) lines → IsLinesCell left whole new
  passed old lines line new (Ok did) by now =
      let same : sent_of new ++ [] ≡ sent_of old ++ seen line ∷ [] =
      append-nil (sent_of new) ∙ ap (λ (l : List Line). map seen l) by.sent.1 ∙ map-append seen old.send.sent (line ∷ []) in
      reads_on new [] none_is_few (λ _. refl)
      (subst (λ (x : List SeenLine × Lines R). IsReading left whole x.0 x.1) (λ i. (sym same i, sym by.lines i)) now)
  passed old lines line new (Err fault) by now =
      reads_on new (seen line ∷ []) one_is_few (λ on. absurd (true≢false (sym by.lost.2 ∙ on)))
      (subst (λ (x : Sending Line × Lines R). IsReading left whole (map seen x.0.sent ++ seen line ∷ []) x.1) (λ i. (sym by.lost.1 i, sym by.lines i)) now)

  -- One line more was read.
  pub reads_one : (old : LinesCell R T) (lines : Lines R) (line : Line) (new : LinesCell R T) (result : Result Stepped LineFault) → old.stopped ≡ false
      → ((given : List SeenLine) → IsReading left whole given old.lines → IsReading left whole (given ++ seen line ∷ []) lines) → fault_of old.lines ≡ None
      → PassesOn (record { lines = lines; send = old.send; stopped = old.stopped }) new line result → IsLinesCell left whole old → IsLinesCell left whole new
  reads_one old lines line new result on reading goes by is =
      passed old lines line new result by
      (reading (sent_of old)
      (subst (λ (given : List SeenLine). IsReading left whole given old.lines)
      (ap (λ (l : List SeenLine). sent_of old ++ l) (is.none_lost on) ∙ append-nil (sent_of old)) (is.goes goes)))

pub went : {R T : Type 0} (old new : LinesCell R T) (line : Line) (result : Result Stepped LineFault) → PassesOn old new line result → result ≡ Ok Did
    → (line : Line) × (new.send.sent ≡ old.send.sent ++ line ∷ [])
went old new line (Ok did) by is = (line, by.sent.1)
went old new line (Err fault) by is = absurd cc

-- ---- the source's count
steady_as : {T : Type 0} (before now : ℕ) (result : Result T LineFault) → CountsReads before now result → fault_in result ≡ None → now ≡ before
steady_as before now (Ok x) counts none = counts.steady
steady_as before now (Err fault) counts none = absurd (none_some fault (sym none))

some_is : (fault other : LineFault) → Some fault ≡ Some other → fault ≡ other
some_is fault other is = cc

failed_as : {T : Type 0} (result : Result T LineFault) → fault_in result ≡ Some ReadFailed → result ≡ Err ReadFailed
failed_as (Ok x) failed = absurd (none_some ReadFailed failed)
failed_as (Err fault) failed = ap Err (some_is fault ReadFailed failed)

pub counts_more : {R T : Type 0} (faults : R → ℕ) (from : ℕ) (old new : Lines R) (result : Result T LineFault) → HasCounted faults from old → fault_of old ≡ None
    → CountsReads (faults (source_of old)) (faults (source_of new)) result → fault_of new ≡ fault_in result → HasCounted faults from new
counts_more faults from old new result was goes counts fault = record {
  steady = λ none. steady_as (faults (source_of old)) (faults (source_of new)) result counts (sym fault ∙ none) ∙ was.steady goes;
  later = subst (λ (n : ℕ). n ≤ faults (source_of new)) (was.steady goes) counts.later;
  rose = λ failed. subst (λ (n : ℕ). Rose n (faults (source_of new))) (was.steady goes) (counts.rose (failed_as result (sym fault ∙ failed)));
}

-- Whatever a call did: a reader at a fault is as it was.
pub counts_on : {R T : Type 0} (faults : R → ℕ) (from : ℕ) (old new : Lines R) (result : Result T LineFault) → (at : Option LineFault) → fault_of old ≡ at
    → ((fault : LineFault) → fault_of old ≡ Some fault → (result ≡ Err fault) × (new ≡ old))
    → (fault_of old ≡ None → CountsReads (faults (source_of old)) (faults (source_of new)) result) → fault_of new ≡ fault_in result
    → HasCounted faults from old → HasCounted faults from new
counts_on faults from old new result None at again counts fault was = counts_more faults from old new result was at (counts at) fault
counts_on {R} faults from old new result (Some f) at again counts fault was = subst (λ (lines : Lines R). HasCounted faults from lines) (sym (again f at).1) was
