-- Reading on, from a state that was reached by reading.
use Rattle.std.proofs.Common.{◌≡◌, ◌≤◌, ◌+◌, ◌⊎◌, ⊎_elim, inl, inr, ℕ, List, [], ◌∷◌, ◌++◌, length, Option, Some, None, Result, Ok, Err, refl, sym, subst, ◌∙◌, arith, true, false}
use Rattle.std.proofs.lemmas.List.{append-nil}
use Rattle.line_server.specs.Cut.{is_blank}
use Rattle.line_server.specs.Given.{Gives, IsAtEnd}
use Rattle.line_server.specs.Requests.{SeenLine, seen_at, body_of}
use Rattle.line_server.specs.Bodies.{body_seen}
use Rattle.line_server.specs.Seen.{seen}
use Rattle.line_server.specs.Taken.{TakesLine, StopsAmid}
use Rattle.line_server.specs.Lines.{has_ended, most_left, IsReading, LooksAt, ReadsOn}
use Rattle.line_server.specs.declared.fault.LineFault.{LineFault}
use Rattle.line_server.specs.declared.fault.LineFault.TheVariants.{ReadFailed, NoMemory}
use Rattle.line_server.specs.declared.line.Line.{Line}
use Rattle.line_server.specs.declared.lines.Lines.{Lines}
use Rattle.line_server.specs.Limits.{most_lines}
use Rattle.line_server.proofs.Taking.{still_going}
use Rattle.line_server.proofs.Given.{goes_on, goes_on_still, has_given, has_given_now, all_at_end, all_at_most, count_at_end, count_at_most}
use Rattle.line_server.proofs.Looking.{looked_on, read_all, looked_now, looked_fewer, seen_one}

-- the answer of a fault
abbrev fails : LineFault → Result (Option Line) LineFault
fails fault = Err fault

-- the fault of an answer of one
fault_is : (fault other : LineFault) → fails fault ≡ fails other → fault ≡ other
fault_is fault other e = cc

wanting_not_failed : NoMemory ≡ ReadFailed → ⊥
wanting_not_failed e = cc

-- what is seen of a line that isn't blank
seen_line : (line : List ℕ) (answer : Line) (n : ℕ) → is_blank line ≡ false → answer.number ≡ n → body_seen answer.body ≡ body_of line → seen_at n line ≡ seen answer ∷ []
seen_line line answer n solid number body = rw (solid, number, body) refl

module _ {S : Type 0} (left : S → Option (List ℕ)) where
  -- what was given so far stands for the later state too
  abbrev pub Stays : Lines S → Lines S → Type 0
  Stays old now = (whole : List ℕ) (given : List SeenLine) → IsReading left whole given old → IsReading left whole given now

  -- a line was taken
  taken_on : (now new : Lines S) (line : List ℕ) (whole : List ℕ) (given : List SeenLine) → IsReading left whole given now → TakesLine left now.bytes new.bytes line → new.count ≡ now.count + 1 → new.fault ≡ None
      → IsReading left whole (given ++ seen_at (now.count + 1) line) new
  taken_on now new line whole given reading takes count good =
      (good, rw count (goes_on whole given now.count now.bytes.buffer takes.bytes line new.bytes.buffer _ _ reading.1 takes.gives takes.first), takes.at_end)

  -- a blank line gives nothing
  pub stays_on : (old now new : Lines S) (line : List ℕ) → Stays old now → TakesLine left now.bytes new.bytes line → new.count ≡ now.count + 1 → new.fault ≡ None → is_blank line ≡ true → Stays old new
  stays_on old now new line stays takes count good blank = λ whole given reading.
      let on : IsReading left whole (given ++ seen_at (now.count + 1) line) new = taken_on now new line whole given (stays whole given reading) takes count good in
      let none : given ++ seen_at (now.count + 1) line ≡ given = rw blank (append-nil given) in
      subst (λ g. IsReading left whole g new) none on

  -- another line gives itself
  pub reads_line : (old now new : Lines S) (line : List ℕ) (answer : Line) → Stays old now → TakesLine left now.bytes new.bytes line → new.count ≡ now.count + 1 → new.fault ≡ None → is_blank line ≡ false
      → answer.number ≡ new.count → body_seen answer.body ≡ body_of line → old.count ≤ now.count → ReadsOn left old new (Ok (Some answer))
  reads_line old now new line answer stays takes count good solid number body counted =
      let given_line : seen_at (now.count + 1) line ≡ seen answer ∷ [] = seen_line line answer (now.count + 1) solid (number ∙ count) body in
      let on : (whole : List ℕ) (given : List SeenLine) → IsReading left whole given old → IsReading left whole (given ++ seen answer ∷ []) new =
      λ whole given reading. subst (λ l. IsReading left whole (given ++ l) new) given_line (taken_on now new line whole given (stays whole given reading) takes count good) in
      record {
        reading = on;
        first = λ whole given reading. has_given_now whole (given ++ seen answer ∷ []) new.count new.bytes.buffer _ (on whole given reading).1;
        looked = λ whole given reading. looked_now whole (given ++ seen answer ∷ []) new.count new.bytes.buffer _ (on whole given reading).1;
        exact = λ is. cc;
        all = λ is. cc;
        total = λ is. cc;
        end = λ is. cc;
        met_end = λ going is. (takes.at_end is).1;
        count = omega arith;
      }

  -- the input ends
  pub reads_end : (old now new : Lines S) → Stays old now → Gives left now.bytes new.bytes [] × IsAtEnd left new.bytes × (new.bytes.ended ≡ true) → new.count ≡ now.count → new.fault ≡ None → old.count ≤ now.count → new.count ≤ most_lines
      → ReadsOn left old new (Ok None)
  reads_end old now new stays ends count good counted most =
      let on : (whole : List ℕ) (given : List SeenLine) → IsReading left whole given old → IsReading left whole given new =
      λ whole given reading. (good, rw count (goes_on_still whole given now.count now.bytes.buffer new.bytes.buffer _ _ (stays whole given reading).1 ends.0), λ _. ends.1) in
      record {
        reading = λ whole given reading. rw append-nil (on whole given reading);
        first = λ whole given reading. rw append-nil (has_given_now whole given new.count new.bytes.buffer _ (on whole given reading).1);
        looked = λ whole given reading. rw append-nil (looked_now whole given new.count new.bytes.buffer _ (on whole given reading).1);
        exact = λ is. cc;
        all = λ is whole given reading. all_at_end whole given new.count most_lines new.bytes.buffer _ (on whole given reading).1 ends.1.0 ends.1.1 most;
        total = λ is whole given reading. count_at_end whole given new.count most_lines new.bytes.buffer _ (on whole given reading).1 ends.1.0 ends.1.1 most;
        end = λ is. inr ends.2;
        met_end = λ going is. ends.1.1;
        count = omega arith;
      }

  -- the last line that is read was read, or the input was at its end
  pub reads_none : (old now : Lines S) → Stays old now → (now.count ≡ most_lines) ⊎ (has_ended now ≡ true) → (has_ended old ≡ false → has_ended now ≡ true → IsAtEnd left now.bytes) → old.count ≤ now.count
      → now.count ≤ most_lines → ReadsOn left old now (Ok None)
  reads_none old now stays out met counted most = record {
    reading = λ whole given reading. rw append-nil (stays whole given reading);
    first = λ whole given reading. rw append-nil (has_given_now whole given now.count now.bytes.buffer _ (stays whole given reading).1);
    looked = λ whole given reading. rw append-nil (looked_now whole given now.count now.bytes.buffer _ (stays whole given reading).1);
    exact = λ is. cc;
    all = λ is whole given reading.
        let on = stays whole given reading in
        ⊎_elim
        (λ full. all_at_most whole given most_lines now.bytes.buffer _ (rw full at on.1))
        (λ ended. all_at_end whole given now.count most_lines now.bytes.buffer _ on.1 (on.2 ended).0 (on.2 ended).1 most)
        out;
    total = λ is whole given reading.
        let on = stays whole given reading in
        ⊎_elim
        (λ full. full ∙ count_at_most whole given most_lines now.bytes.buffer _ (rw full at on.1))
        (λ ended. count_at_end whole given now.count most_lines now.bytes.buffer _ on.1 (on.2 ended).0 (on.2 ended).1 most)
        out;
    end = λ is. out;
    met_end = λ going is. (met going is).1;
    count = counted;
  }

  -- the input ends a blank line
  pub reads_last : (old now new : Lines S) (line : List ℕ) → Stays old now → TakesLine left now.bytes new.bytes line → new.count ≡ now.count + 1 → new.fault ≡ None → is_blank line ≡ true → has_ended new ≡ true
      → old.count ≤ now.count → new.count ≤ most_lines → ReadsOn left old new (Ok None)
  reads_last old now new line stays takes count good blank ended counted most =
      reads_none old new (stays_on old now new line stays takes count good blank) (inr ended) (λ going is. takes.at_end is) (omega arith) most

  -- a reader that met the end stays
  pub reads_again : (lines : Lines S) → has_ended lines ≡ true → lines.count ≤ most_lines → ReadsOn left lines lines (Ok None)
  reads_again lines ended most = reads_none lines lines (λ whole given reading. reading) (inr ended) (λ going is. still_going (has_ended lines) going is) (omega arith) most

  -- lines that were looked at, behind an answer of a fault
  looked_at_fault : (whole : List ℕ) (given back : List SeenLine) (most more : ℕ) (new : Lines S) → length back + most ≤ more → LooksAt left whole (given ++ back) most new → LooksAt left whole (given ++ []) more new
  looked_at_fault whole given back most more new few looked = rw append-nil (looked_fewer whole given back most more new.count (left new.bytes.source) few looked)

  -- a fault comes in the middle of a line
  pub reads_fault : (old now new : Lines S) (fault : LineFault) → Stays old now → StopsAmid left now.bytes new.bytes fault → new.count ≡ now.count → old.count ≤ now.count → ReadsOn left old new (Err fault)
  reads_fault old now new fault stays stops same counted = record {
    reading = tt;
    first = λ whole given reading. rw append-nil (has_given whole given now.count now.bytes.buffer stops.bytes new.bytes.buffer _ _ (stays whole given reading).1 stops.gives);
    looked = λ whole given reading.
        looked_at_fault whole given [] 0 (most_left (fails fault)) new (omega arith)
        (rw (append-nil, same) (looked_on whole given now.count now.bytes.buffer stops.bytes new.bytes.buffer _ _ (stays whole given reading).1 stops.gives));
    exact = λ is whole given reading.
        let failed : fault ≡ ReadFailed = fault_is fault ReadFailed is in
        rw same (read_all whole given now.count now.bytes.buffer stops.bytes new.bytes.buffer _ _ (stays whole given reading).1 stops.gives (stops.none_held failed) (stops.none_ended failed));
    all = λ is. cc;
    total = λ is. cc;
    end = λ is. cc;
    met_end = λ going is. still_going (has_ended new) stops.going is;
    count = omega arith;
  }

  -- memory is wanting for a line that was taken
  pub reads_refused : (old now new : Lines S) (line : List ℕ) (fault : LineFault) → Stays old now → TakesLine left now.bytes new.bytes line → new.count ≡ now.count + 1 → new.fault ≡ None → fault ≡ NoMemory → old.count ≤ now.count
      → ReadsOn left old new (Err fault)
  reads_refused old now new line fault stays takes count good wanting counted = record {
    reading = tt;
    first = λ whole given reading. rw append-nil (has_given whole given now.count now.bytes.buffer takes.bytes new.bytes.buffer _ _ (stays whole given reading).1 takes.gives);
    looked = λ whole given reading.
        let on : IsReading left whole (given ++ seen_at (now.count + 1) line) new = taken_on now new line whole given (stays whole given reading) takes count good in
        looked_at_fault whole given (seen_at (now.count + 1) line) 0 (most_left (fails fault)) new (rw wanting (omega (arith, seen_one (now.count + 1) line)))
        (looked_now whole (given ++ seen_at (now.count + 1) line) new.count new.bytes.buffer _ on.1);
    exact = λ is. absurd (wanting_not_failed (sym wanting ∙ fault_is fault ReadFailed is));
    all = λ is. cc;
    total = λ is. cc;
    end = λ is. cc;
    met_end = λ going is. (takes.at_end is).1;
    count = omega arith;
  }
