-- The lines that are read and accepted, one after another.
use Rattle.std.proofs.Common.{◌≡◌, ◌≤◌, ◌+◌, ◌∙◌, ap, sym, subst, refl, inl, inr, ℕ, List, [], ◌∷◌, ◌++◌, length, map, append-nil, append_assoc, Option, Some, None, arith, Result, Ok, Err}
use Rattle.std.specs.Prelude.{IfOk, IfSome, OnOk, min}
use Rattle.std.proofs.lemmas.List.{map-append}
use Rattle.do_disk.specs.Disk.{Rose}
use Rattle.lane.specs.Lanes.{Both, StartsWith}
use Rattle.line_server.proofs.Looking.{looked_fewer}
use Rattle.line_server.specs.Cut.{lines as all_lines}
use Rattle.line_server.specs.Given.{CountsReads}
use Rattle.line_server.specs.Limits.{most_lines}
use Rattle.line_server.specs.Lines.{IsAllRead, IsFirstOf, IsReading, LooksAt, count_of, fault_in, fault_of, lines_in, most_left, source_of}
use Rattle.line_server.specs.declared.fault.LineFault.{LineFault}
use Rattle.line_server.specs.declared.fault.LineFault.TheVariants as fault
use Rattle.line_server.specs.declared.lines.Lines.{Lines}
use Rattle.line_server.specs.Bodies.{body_seen}
use Rattle.line_server.specs.Going.{HasGiven, HasLookedAt}
use Rattle.line_server.specs.Requests.{SeenLine, requests, through}
use Rattle.line_server.specs.Seen.{seen}
use Rattle.line_server.specs.declared.line.Line as read
use Rattle.line_server.specs.declared.refusal.Refusal.{Refusal}
use Rattle.line_server.specs.declared.refusal.Refusal.TheVariants.{Long, Json, Shape}
use Rattle.line_server.specs.declared.request.Request.{Request}
use Rattle.line_server.specs.declared.request.Request.TheVariants.{Call, Tick, Fetched, FetchFailed, Evict}
use Rattle.mailbox.specs.Seen.{seen_line, seen_body}
use Rattle.mailbox.specs.declared.fault.SwitchFault.{SwitchFault}
use Rattle.timeline.specs.Lines.{Line}
use Rattle.host_workers.specs.Lines.{HasCounted, most_at}
use Rattle.host_core.specs.Reading.{Accepts, HasRead, body_in, read_line, read_lines, with_rest}
use Rattle.host_core.specs.Running.{IsLoggedAt}

-- ---- the lines of a log

-- What the log has of a line is what the reader has of it.
same_body : (body : Result Request Refusal) → body_in (seen_body body) ≡ body_seen body
same_body (Ok (Call number to method args)) = refl
same_body (Ok (Tick t)) = refl
same_body (Ok (Fetched k value)) = refl
same_body (Ok (FetchFailed k)) = refl
same_body (Ok (Evict to)) = refl
same_body (Err Long) = refl
same_body (Err Json) = refl
same_body (Err Shape) = refl

-- So is a line by its number.
same_line : (line : read.Line) → read_line (seen_line line) ≡ seen line
same_line line = ap (λ (b : Result _ Refusal). record { number = line.number; body = b }) (same_body line.body)

-- The lines that were passed on are those that the reader gave.
pub read_sent : (sent : List read.Line) → read_lines (map seen_line sent) ≡ map seen sent
read_sent [] = refl
read_sent (line ∷ sent) = ap (λ (l : SeenLine). l ∷ read_lines (map seen_line sent)) (same_line line) ∙ ap (λ (ls : List SeenLine). seen line ∷ ls) (read_sent sent)

-- The reader has one line more of the log.
pub read_more : (before : List Line) (line : read.Line) → read_lines (before ++ seen_line line ∷ []) ≡ read_lines before ++ seen line ∷ []
read_more before line = map-append read_line before (seen_line line ∷ []) ∙ ap (λ (l : SeenLine). read_lines before ++ l ∷ []) (same_line line)

-- ---- beginnings of lists

-- A list begins with all of it.
pub starts_whole : {T : Type 0} (list same : List T) → list ≡ same → StartsWith list same
starts_whole list same is = ([], is ∙ sym (append-nil same))

-- A list begins with what it has before others.
pub starts_front : {T : Type 0} (list front back : List T) → list ≡ front ++ back → StartsWith list front
starts_front list front back is = (back, is)

-- What begins the beginning of a list begins the list.
pub starts_further : {T : Type 0} (list front first : List T) → StartsWith list front → StartsWith front first → StartsWith list first
starts_further list front first whole part =
    (part.0 ++ whole.0, whole.1 ∙ ap (λ (l : List _). l ++ whole.0) part.1 ∙ append_assoc first part.0 whole.0)

-- ---- the lines that wait

-- The lines that wait stand behind the accepted ones still where the first of them was accepted.
pub rest_next : (before after : List Line) (line : read.Line) (old new : Both read.Line) → old.waiting ≡ line ∷ new.waiting → after ≡ before ++ seen_line line ∷ []
    → with_rest after new ≡ with_rest before old
rest_next before after line old new takes more =
    ap (λ (ls : List Line). ls ++ map seen_line new.waiting) more ∙ append_assoc before (seen_line line ∷ []) (map seen_line new.waiting)
    ∙ ap (λ (ls : List read.Line). before ++ map seen_line ls) (sym takes)

-- Where none waits, all are accepted.
pub rest_none : (before : List Line) (rest : Both read.Line) → rest.waiting ≡ [] → with_rest before rest ≡ before
rest_none before rest none = ap (λ (ls : List read.Line). before ++ map seen_line ls) none ∙ append-nil before

-- A log that stops at a line begins those with this line.
pub logged_first : (line : read.Line) (before after : List Line) (result : Result (Unit {0}) SwitchFault) → IsLoggedAt line before after result
    → StartsWith (before ++ seen_line line ∷ []) after
logged_first line before after result logged = elim logged [
  | inl more ↦ starts_whole (before ++ seen_line line ∷ []) after (sym more)
  | inr none ↦ starts_front (before ++ seen_line line ∷ []) after (seen_line line ∷ []) (ap (λ (ls : List Line). ls ++ seen_line line ∷ []) (sym none.0))
]

-- So it does those with the lines that wait, where this line is the first of them.
pub rest_stopped : (line : read.Line) (before after : List Line) (old new : Both read.Line) (result : Result (Unit {0}) SwitchFault) → old.waiting ≡ line ∷ new.waiting
    → IsLoggedAt line before after result → StartsWith (with_rest before old) after
rest_stopped line before after old new result takes logged =
    starts_further (with_rest before old) (before ++ seen_line line ∷ []) after
    (starts_front (with_rest before old) (before ++ seen_line line ∷ []) (map seen_line new.waiting)
    (sym (rest_next before (before ++ seen_line line ∷ []) line old new takes refl)))
    (logged_first line before after result logged)

-- ---- one call of the reader

-- A reader stands at a fault or at none.
either_fault : (o : Option LineFault) (P : Type 0) → (o ≡ None → P) → ((f : LineFault) → o ≡ Some f → P) → P
either_fault None P none some = none refl
either_fault (Some f) P none some = some f refl

abbrev some_fault : LineFault → Option LineFault
some_fault f = Some f

-- A fault is not none.
no_fault_is : (f : LineFault) → some_fault f ≡ None → ⊥
no_fault_is f is = absurd cc

-- Two faults of which one is told are one.
same_fault : (f g : LineFault) → some_fault f ≡ some_fault g → f ≡ g
same_fault f g is = cc

abbrev answered : {T : Type 0} → T → Result T LineFault
answered x = Ok x

-- No answer is good and a fault.
never_both : {T : Type 0} (x : T) (f : LineFault) → answered x ≡ Err f → ⊥
never_both x f is = absurd cc

-- What holds at a good answer holds where an answer has no fault.
at_good : {T : Type 0} (result : Result T LineFault) (P : Type 0) → fault_in result ≡ None → OnOk result P → P
at_good (Ok x) P none p = p
at_good (Err f) P none p = absurd (no_fault_is f none)

-- An answer leaves as many lines looked at as the fault at which the reader then stands.
most_is : {T : Type 0} (result : Result T LineFault) → most_left result ≡ most_at (fault_in result)
most_is (Ok x) = refl
most_is (Err fault.ReadFailed) = refl
most_is (Err fault.NoMemory) = refl

-- An answer with a fault is that fault.
failed_is : {T : Type 0} (result : Result T LineFault) (f : LineFault) → fault_in result ≡ Some f → result ≡ Err f
failed_is (Ok x) f is = absurd (no_fault_is f (sym is))
failed_is (Err g) f is = ap Err (same_fault g f is)

module _ {S : Type 0} (left : S → Option (List ℕ)) (whole : List ℕ) (given : List SeenLine) (old new : Lines S) (result : Result (Option read.Line) LineFault) where
  -- A read that failed gave no line.
  none_given : result ≡ Err fault.ReadFailed → given ≡ given ++ lines_in result
  none_given failed = sym (ap (λ (r : Result (Option read.Line) LineFault). given ++ lines_in r) failed ∙ append-nil given)

  -- Nor did any other fault.
  still_given : (f : LineFault) → result ≡ Err f → given ≡ given ++ lines_in result
  still_given f failed = sym (ap (λ (r : Result (Option read.Line) LineFault). given ++ lines_in r) failed ∙ append-nil given)

  -- A reader gave one line more, or stands at a fault.
  pub next_reads : OnOk result (IsReading left whole given old → IsReading left whole (given ++ lines_in result) new)
      → (IsReading left whole given old → IsFirstOf left whole (given ++ lines_in result) new)
      → (IsReading left whole given old → LooksAt left whole (given ++ lines_in result) (most_left result) new)
      → (result ≡ Err fault.ReadFailed → IsReading left whole given old → IsAllRead left whole given new)
      → fault_of new ≡ fault_in result
      → ((f : LineFault) → fault_of old ≡ Some f → (result ≡ Err f) × (new ≡ old))
      → HasRead left whole given old → HasRead left whole (given ++ lines_in result) new
  next_reads reading first looked exact stands again has = either_fault (fault_of old) (HasRead left whole (given ++ lines_in result) new)
      (λ free. let from = has.goes free in record {
        goes = λ good. at_good result (IsReading left whole given old → IsReading left whole (given ++ lines_in result) new) (sym stands ∙ good) reading from;
        first = first from;
        looked = subst (λ (n : ℕ). LooksAt left whole (given ++ lines_in result) n new) (most_is result ∙ ap most_at (sym stands)) (looked from);
        exact = λ failed. let is = failed_is result fault.ReadFailed (sym stands ∙ failed) in
            subst (λ (ls : List SeenLine). IsAllRead left whole ls new) (none_given is) (exact is from);
      })
      (λ f at. subst (λ (ls : List SeenLine). HasRead left whole ls new) (still_given f (again f at).0)
      (subst (λ (l : Lines S). HasRead left whole given l) (sym (again f at).1) has))

  -- At the end of the input all lines were given.
  pub next_all : result ≡ Ok None → ((f : LineFault) → fault_of old ≡ Some f → (result ≡ Err f) × (new ≡ old))
      → (IsReading left whole given old → given ≡ through most_lines (requests whole))
      → (IsReading left whole given old → count_of new ≡ min most_lines (length (all_lines whole)))
      → HasRead left whole given old → (given ≡ through most_lines (requests whole)) × (count_of new ≡ min most_lines (length (all_lines whole)))
  next_all ended again all total has = either_fault (fault_of old) ((given ≡ through most_lines (requests whole)) × (count_of new ≡ min most_lines (length (all_lines whole))))
      (λ free. (all (has.goes free), total (has.goes free)))
      (λ f at. absurd (never_both None f (sym ended ∙ (again f at).0)))

-- The count stays at an answer without a fault.
steady_as : {T : Type 0} (before now : ℕ) (result : Result T LineFault) → CountsReads before now result → fault_in result ≡ None → now ≡ before
steady_as before now (Ok x) counts none = counts.steady
steady_as before now (Err f) counts none = absurd (no_fault_is f none)

-- The source's count of faults goes on from where it was.
pub next_counts : {S T : Type 0} (faults : S → ℕ) (from : ℕ) (old new : Lines S) (result : Result T LineFault)
    → ((f : LineFault) → fault_of old ≡ Some f → (result ≡ Err f) × (new ≡ old))
    → (fault_of old ≡ None → CountsReads (faults (source_of old)) (faults (source_of new)) result) → fault_of new ≡ fault_in result
    → HasCounted faults from old → HasCounted faults from new
next_counts {S} faults from old new result again counts stands was = either_fault (fault_of old) (HasCounted faults from new)
    (λ free. let by = counts free in record {
      steady = λ none. steady_as (faults (source_of old)) (faults (source_of new)) result by (sym stands ∙ none) ∙ was.steady free;
      later = subst (λ (n : ℕ). n ≤ faults (source_of new)) (was.steady free) by.later;
      rose = λ failed. subst (λ (n : ℕ). Rose n (faults (source_of new))) (was.steady free) (by.rose (failed_is result fault.ReadFailed (sym stands ∙ failed)));
    })
    (λ f at. subst (λ (l : Lines S). HasCounted faults from l) (sym (again f at).1) was)

-- Of a line that came both are known.
pub both_so : {T E : Type 0} (result : Result (Option T) E) (P Q : T → Type 0) → IfOk result (λ o. IfSome o P) → IfOk result (λ o. IfSome o Q)
    → IfOk result (λ o. IfSome o (λ x. P x × Q x))
both_so (Ok (Some x)) P Q p q = (p, q)
both_so (Ok None) P Q p q = tt
both_so (Err e) P Q p q = tt

-- ---- what is accepted of what was read

-- The first of the lines given were given.
given_fewer : (whole : List ℕ) (given more : List SeenLine) (left : Option (List ℕ)) → HasGiven whole (given ++ more) left → HasGiven whole given left
given_fewer whole given more left has = record {
  read = has.read;
  source = has.source;
  beyond = more ++ has.beyond;
  first = has.first ∙ append_assoc given more has.beyond;
}

module _ {S : Type 0} (left : S → Option (List ℕ)) (whole : List ℕ) (lines : Lines S) where
  -- The first of what was given are accepted.
  pub accepts_given : (given : List SeenLine) (accepted : List Line) (back : List SeenLine) (most : ℕ) → given ≡ read_lines accepted ++ back
      → IsFirstOf left whole given lines → LooksAt left whole given most lines → Accepts whole (left (source_of lines)) accepted (count_of lines)
  accepts_given given accepted back most split first looked = record {
    first = given_fewer whole (read_lines accepted) back (left (source_of lines))
        (subst (λ (ls : List SeenLine). HasGiven whole ls (left (source_of lines))) split first);
    most = length back + most;
    looked_at = looked_fewer whole (read_lines accepted) back most (length back + most) (count_of lines) (left (source_of lines)) (omega arith)
        (subst (λ (ls : List SeenLine). HasLookedAt whole ls most (count_of lines) (left (source_of lines))) split looked);
  }

  -- The first of the lines that a reader gave are accepted.
  pub accepts_first : (all accepted : List Line) → StartsWith all accepted → HasRead left whole (read_lines all) lines
      → Accepts whole (left (source_of lines)) accepted (count_of lines)
  accepts_first all accepted first has =
      accepts_given (read_lines all) accepted (read_lines first.0) (most_at (fault_of lines)) (ap read_lines first.1 ∙ map-append read_line accepted first.0)
      has.first has.looked

  -- All of them are.
  pub accepts_whole : (accepted : List Line) → HasRead left whole (read_lines accepted) lines → Accepts whole (left (source_of lines)) accepted (count_of lines)
  accepts_whole accepted = accepts_first accepted accepted (starts_whole accepted accepted refl)

  -- The same lines by another account.
  pub has_read_as : (given same : List SeenLine) → same ≡ given → HasRead left whole given lines → HasRead left whole same lines
  has_read_as given same is = subst (λ (ls : List SeenLine). HasRead left whole ls lines) (sym is)
