-- The ends of a run before a slot is asked for.
use Rattle.std.proofs.Common.{◌≡◌, ◌≢◌, ◌⊎◌, ⊎_elim, inl, inr, ℕ, zero, suc, List, [], ◌∷◌, ◌++◌, Option, Vec, Global, Result, Err, refl, sym, ap, subst, ◌∙◌, arith}
use Rattle.command_words.specs.Asked.{checks, serves}
use Rattle.do_disk.specs.Asks.{for_text}
use Rattle.do_disk.specs.Disk.{IfTold, Rose}
use Rattle.host_core.specs.Opening.{Asks}
use Rattle.host_core.specs.Report.{IsEmpty}
use Rattle.do_host.specs.EarlyEnds.{IsRefusedBy, IsStoppedBy, IsScriptEnd}
use Rattle.do_host.specs.Endings.{EndsAs, TellsLine}
use Rattle.do_host.specs.Outside.{Given, Left, LeavesInputAndReport, Outside}
use Rattle.do_host.specs.Runs.{AtAnyEnd, Runs, TakesInput}
use Rattle.do_host.specs.ScriptRuns.{TellsAll, TellsFirst}
use Rattle.do_host.specs.ScriptLines.{IsRefusalLine, IsScriptLine, IsCheckLine}
use Rattle.do_host.specs.Status.{IsStatus, IsEarlyStatus, IsCheckStatus, IsSilentStatus, stop_status}
use Rattle.do_host.specs.Written.{WritesAll, WritesFirstOf}
use Rattle.do_host.specs.declared.early_end.EarlyEnd.{EarlyEnd}
use Rattle.do_host.specs.declared.early_end.EarlyEnd.TheVariants.{Refused, Stopped}
use Rattle.do_host.specs.declared.run_end.RunEnd.{RunEnd}
use Rattle.do_host.specs.declared.run_end.RunEnd.TheVariants.{DepotFailed, NoMemory, WriteFailed}
use Rattle.do_host.proofs.Unread.{accepts_unread, lines_unread}

-- an answer that is an end
abbrev pub early : {T : Type 0} → EarlyEnd → Result T EarlyEnd
early {T} end = Err end

pub stop_is_no_line : {T : Type 0} (stop : RunEnd) (bytes : Vec ℕ Global) → early {T = T} (Stopped stop) ≡ early {T = T} (Refused bytes) → ⊥
stop_is_no_line {T} stop bytes same = cc

pub same_stop : {T : Type 0} (stop other : RunEnd) → early {T = T} (Stopped stop) ≡ early {T = T} (Stopped other) → stop ≡ other
same_stop {T} stop other same = cc

-- What an end of reading the script shows: its line, whole or in part; or the depot failed; or memory was wanting.
pub data Shows (T : Type 0) (before after : Option (List ℕ)) (status : ℕ) (end : EarlyEnd) : Type 0 where
  whole : (bytes : Vec ℕ Global) → IsRefusedBy (early {T = T} end) bytes.items → status ≡ 2 → WritesAll before after bytes.items → Shows T before after status end
  part : (bytes : Vec ℕ Global) → IsRefusedBy (early {T = T} end) bytes.items → end ≢ Stopped WriteFailed → status ≡ 6 → WritesFirstOf before after bytes.items → Shows T before after status end
  depot : IsStoppedBy (early {T = T} end) DepotFailed → status ≡ 3 → after ≡ before → Shows T before after status end
  memory : status ≡ 4 → after ≡ before → Shows T before after status end

refused_is_no_stop : (bytes : Vec ℕ Global) (stop : RunEnd) → Refused bytes ≡ Stopped stop → ⊥
refused_is_no_stop bytes stop same = cc

shows_line : {T : Type 0} (before after : Option (List ℕ)) (status : ℕ) (bytes : Vec ℕ Global) → TellsLine before after bytes.items 2 status → Shows T before after status (Refused bytes)
shows_line {T} before after status bytes tells =
    let by : IsRefusedBy (early {T = T} (Refused bytes)) bytes.items = (bytes, refl, refl) in
    ⊎_elim (λ all. whole bytes by all.0 all.1) (λ first. part bytes by (refused_is_no_stop bytes WriteFailed) first.0 first.1) tells

shows_stop : {T : Type 0} (before after : Option (List ℕ)) (status : ℕ) (stop : RunEnd) → (stop ≡ DepotFailed) ⊎ (stop ≡ NoMemory) → status ≡ stop_status stop → after ≡ before → Shows T before after status (Stopped stop)
shows_stop {T} before after status stop which is same =
    ⊎_elim (λ e. depot (ap (λ s. early {T = T} (Stopped s)) e) (is ∙ ap stop_status e) same) (λ e. memory (is ∙ ap stop_status e) same) which

script_stop : {T : Type 0} (stop : RunEnd) → IsScriptEnd (early {T = T} (Stopped stop)) → (stop ≡ DepotFailed) ⊎ (stop ≡ NoMemory)
script_stop {T} stop is =
    ⊎_elim (λ refused. absurd (stop_is_no_line {T = T} stop refused.1.0 refused.1.1))
    (λ rest. ⊎_elim (λ failed. inl (same_stop {T = T} stop DepotFailed failed)) (λ wanting. inr (same_stop {T = T} stop NoMemory wanting)) rest) is

pub shows : {T : Type 0} (before after : Option (List ℕ)) (status : ℕ) (end : EarlyEnd) → IsScriptEnd (early {T = T} end) → EndsAs before after status end → Shows T before after status end
shows {T} before after status (Refused bytes) is ends = shows_line {T = T} before after status bytes ends
shows {T} before after status (Stopped stop) is ends = shows_stop {T = T} before after status stop (script_stop {T = T} stop is) ends.0 ends.1

-- the statuses
early_status : {T : Type 0} (before after : Option (List ℕ)) (status : ℕ) (end : EarlyEnd) → Shows T before after status end → IsEarlyStatus status
early_status {T} before after status end (whole bytes by two was) = (0, omega arith, sym two)
early_status {T} before after status end (part bytes by other six was) = (3, omega arith, sym six)
early_status {T} before after status end (depot by three same) = (1, omega arith, sym three)
early_status {T} before after status end (memory four same) = (2, omega arith, sym four)

module _ {T : Type 0} (text before after : Option (List ℕ)) (status : ℕ) (end : EarlyEnd) (refused : (line : List ℕ) → IsRefusedBy (early {T = T} end) line → IfTold text (λ t. IsRefusalLine t line)) where
  -- the line of the refusal was told, or a part of it
  pub told_two : Shows T before after status end → status ≡ 2 → TellsAll text IsRefusalLine before after
  told_two (whole bytes by two was) is = λ t told. (bytes.items, refused bytes.items by t told, was)
  told_two (part bytes by other six was) is = absurd (omega (arith, six, is))
  told_two (depot by three same) is = absurd (omega (arith, three, is))
  told_two (memory four same) is = absurd (omega (arith, four, is))

  pub told_six : Shows T before after status end → status ≡ 6 → TellsFirst text IsRefusalLine before after
  told_six (whole bytes by two was) is = absurd (omega (arith, two, is))
  told_six (part bytes by other six was) is = λ t told. (bytes.items, refused bytes.items by t told, was)
  told_six (depot by three same) is = absurd (omega (arith, three, is))
  told_six (memory four same) is = absurd (omega (arith, four, is))

  pub check_six : Shows T before after status end → status ≡ 6 → TellsFirst text IsCheckLine before after
  check_six shown is = λ t told. let part = told_six shown is t told in (part.0, inr part.1, part.2)

module _ {T : Type 0} (before after : Option (List ℕ)) (status : ℕ) (end : EarlyEnd) where
  -- the script was asked for
  pub asked_told : (P : Type 0) → ((line : List ℕ) → IsRefusedBy (early {T = T} end) line → P) → Shows T before after status end → status ≢ 3 → status ≢ 4 → P
  asked_told P refused (whole bytes by two was) no_three no_four = refused bytes.items by
  asked_told P refused (part bytes by other six was) no_three no_four = refused bytes.items by
  asked_told P refused (depot by three same) no_three no_four = absurd (no_three three)
  asked_told P refused (memory four same) no_three no_four = absurd (no_four four)

  -- the depot failed
  pub failed_three : (P : Type 0) → (IsStoppedBy (early {T = T} end) DepotFailed → P) → Shows T before after status end → status ≡ 3 → P
  failed_three P failed (whole bytes by two was) is = absurd (omega (arith, two, is))
  failed_three P failed (part bytes by other six was) is = absurd (omega (arith, six, is))
  failed_three P failed (depot by three same) is = failed by
  failed_three P failed (memory four same) is = absurd (omega (arith, four, is))

  -- nothing was written but a line
  pub silent_early : Shows T before after status end → IsSilentStatus status → after ≡ before
  silent_early (whole bytes by two was) silent = absurd (silent.2 two)
  silent_early (part bytes by other six was) silent = absurd (silent.3 six)
  silent_early (depot by three same) silent = same
  silent_early (memory four same) silent = same

  -- a write failed of the line
  pub written_six : Shows T before after status end → status ≡ 6 → end ≢ Stopped WriteFailed
  written_six (whole bytes by two was) is = absurd (omega (arith, two, is))
  written_six (part bytes by other six was) is = other
  written_six (depot by three same) is = absurd (omega (arith, three, is))
  written_six (memory four same) is = absurd (omega (arith, four, is))

  pub early_of : Shows T before after status end → IsEarlyStatus status
  early_of shown = early_status {T = T} before after status end shown

-- an early status is one of `check`, and one of a run that reads nothing
pub early_check : (status : ℕ) → IsEarlyStatus status → IsCheckStatus status
early_check status (zero, within, is) = (1, omega arith, is)
early_check status (suc zero, within, is) = (2, omega arith, is)
early_check status (suc (suc zero), within, is) = (3, omega arith, is)
early_check status (suc (suc (suc zero)), within, is) = (4, omega arith, is)
early_check status (suc (suc (suc (suc n))), within, is) = absurd (omega (arith, within))

-- a status of a run that reads nothing
abbrev pub IsUnreadStatus : ℕ → Type 0
IsUnreadStatus status = IsStatus status × (status ≢ 5) × (status ≢ 7)

unread_status : (status n : ℕ) → n ≡ status → IsStatus n → (n ≢ 5) → (n ≢ 7) → IsUnreadStatus status
unread_status status n is known five seven = subst IsUnreadStatus is (known, five, seven)

pub check_unread : (status : ℕ) → IsCheckStatus status → IsUnreadStatus status
check_unread status (zero, within, is) = unread_status status 0 is (0, omega arith, refl) (λ e. omega (arith, e)) (λ e. omega (arith, e))
check_unread status (suc zero, within, is) = unread_status status 2 is (2, omega arith, refl) (λ e. omega (arith, e)) (λ e. omega (arith, e))
check_unread status (suc (suc zero), within, is) = unread_status status 3 is (3, omega arith, refl) (λ e. omega (arith, e)) (λ e. omega (arith, e))
check_unread status (suc (suc (suc zero)), within, is) = unread_status status 4 is (4, omega arith, refl) (λ e. omega (arith, e)) (λ e. omega (arith, e))
check_unread status (suc (suc (suc (suc zero))), within, is) = unread_status status 6 is (6, omega arith, refl) (λ e. omega (arith, e)) (λ e. omega (arith, e))
check_unread status (suc (suc (suc (suc (suc n)))), within, is) = absurd (omega (arith, within))

pub usage_unread : (status : ℕ) → (status ≡ 1) ⊎ (status ≡ 6) ⊎ (status ≡ 4) → IsUnreadStatus status
usage_unread status is =
    ⊎_elim (λ e. unread_status status 1 (sym e) (1, omega arith, refl) (λ f. omega (arith, f)) (λ f. omega (arith, f)))
    (λ rest. ⊎_elim (λ e. unread_status status 6 (sym e) (6, omega arith, refl) (λ f. omega (arith, f)) (λ f. omega (arith, f)))
    (λ e. unread_status status 4 (sym e) (4, omega arith, refl) (λ f. omega (arith, f)) (λ f. omega (arith, f))) rest) is

-- what holds at any end holds of a run that leaves the report and the input
pub any_unread : {S R W : Type 0} (outside : Outside S R W) (given : Given S R W) (left : Left S R W) → IsEmpty given.report → LeavesInputAndReport given left → IsUnreadStatus left.status
    → (IsSilentStatus left.status → outside.sink.taken left.out ≡ outside.sink.taken given.out) → AtAnyEnd outside given left
any_unread outside given left empty same is silent =
    let switch = ap (λ r. r.switch) same.report in
    let lines = ap (λ r. r.lines) same.report in
    record {
      statuses = is.0;
      line_limit = lines_unread given.report left.report empty lines;
      unread = λ none. (same.input, switch, lines ∙ empty.lines);
      silent = λ none. silent;
    }

-- so does what holds of the input
pub takes_unread : {S R W : Type 0} (outside : Outside S R W) (given : Given S R W) (left : Left S R W) → IsEmpty given.report → LeavesInputAndReport given left → IsUnreadStatus left.status
    → TakesInput outside given left
takes_unread outside given left empty same is = record {
  bad_slot_kept = λ seven. absurd (is.2 seven);
  accepted = accepts_unread given.report left.report empty (outside.source.left given.input) (outside.source.left left.input) (ap outside.source.left same.input)
      (ap (λ r. r.switch) same.report) (ap (λ r. r.lines) same.report);
}

-- no early status is that of a script that is accepted, or of words that aren't taken
early_no_zero : (status : ℕ) → IsEarlyStatus status → status ≢ 0
early_no_zero status (zero, within, is) nil = omega (arith, is, nil)
early_no_zero status (suc zero, within, is) nil = omega (arith, is, nil)
early_no_zero status (suc (suc zero), within, is) nil = omega (arith, is, nil)
early_no_zero status (suc (suc (suc zero)), within, is) nil = omega (arith, is, nil)
early_no_zero status (suc (suc (suc (suc n))), within, is) nil = omega (arith, within)

pub early_no_one : (status : ℕ) → IsEarlyStatus status → status ≢ 1
early_no_one status (zero, within, is) one = omega (arith, is, one)
early_no_one status (suc zero, within, is) one = omega (arith, is, one)
early_no_one status (suc (suc zero), within, is) one = omega (arith, is, one)
early_no_one status (suc (suc (suc zero)), within, is) one = omega (arith, is, one)
early_no_one status (suc (suc (suc (suc n))), within, is) one = omega (arith, within)

-- A run that ends as reading the script did.
module _ {T S R W : Type 0} (outside : Outside S R W) (script : List ℕ) (given : Given S R W) (left : Left S R W) (end : EarlyEnd)
    (by : IsScriptEnd (early {T = T} end)) (ends : EndsAs (outside.sink.taken given.out) (outside.sink.taken left.out) left.status end)
    (refused : (line : List ℕ) → IsRefusedBy (early {T = T} end) line → IfTold (given.depot.texts script) (λ t. IsRefusalLine t line))
    (refused_whole : (line : List ℕ) → IsRefusedBy (early {T = T} end) line → left.depot.asked ≡ given.depot.asked ++ for_text script ∷ [])
    (failed : IsStoppedBy (early {T = T} end) DepotFailed → Rose given.depot.faults left.depot.faults) (asked : Asks given.depot.asked left.depot.asked (for_text script ∷ []))
    (same : LeavesInputAndReport given left)
    (write : (end ≡ Stopped WriteFailed → ⊥) → left.status ≡ 6 → Rose (outside.sink.faults_of given.out) (outside.sink.faults_of left.out)) where
  shown : Shows T (outside.sink.taken given.out) (outside.sink.taken left.out) left.status end
  shown = shows {T = T} (outside.sink.taken given.out) (outside.sink.taken left.out) left.status end by ends

  early_rose : left.status ≡ 6 → Rose (outside.sink.faults_of given.out) (outside.sink.faults_of left.out)
  early_rose six = write (written_six {T = T} (outside.sink.taken given.out) (outside.sink.taken left.out) left.status end shown six) six

  early_failed : left.status ≡ 3 → Rose given.depot.faults left.depot.faults
  early_failed three = failed_three {T = T} (outside.sink.taken given.out) (outside.sink.taken left.out) left.status end (Rose given.depot.faults left.depot.faults) failed shown three

  early_silent : IsSilentStatus left.status → outside.sink.taken left.out ≡ outside.sink.taken given.out
  early_silent silent = silent_early {T = T} (outside.sink.taken given.out) (outside.sink.taken left.out) left.status end shown silent

  early_known : IsEarlyStatus left.status
  early_known = early_of {T = T} (outside.sink.taken given.out) (outside.sink.taken left.out) left.status end shown

  early_asked : left.status ≢ 3 → left.status ≢ 4 → left.depot.asked ≡ given.depot.asked ++ for_text script ∷ []
  early_asked = asked_told {T = T} (outside.sink.taken given.out) (outside.sink.taken left.out) left.status end (left.depot.asked ≡ given.depot.asked ++ for_text script ∷ []) refused_whole shown

  early_any : IsEmpty given.report → AtAnyEnd outside given left
  early_any empty = any_unread outside given left empty same (check_unread left.status (early_check left.status early_known)) early_silent

  early_takes : IsEmpty given.report → TakesInput outside given left
  early_takes empty = takes_unread outside given left empty same (check_unread left.status (early_check left.status early_known))

  pub early_serve : (own : List ℕ) → script ≡ own → (folder : List ℕ) (slots workers journal : ℕ) → IsEmpty given.report → Runs (serves own folder slots workers journal) outside given left
  early_serve own is folder slots workers journal empty = subst (λ (path : List ℕ). Runs (serves path folder slots workers journal) outside given left) is (record {
    any = early_any empty;
    input = early_takes empty;
    status_one = λ one. absurd (early_no_one left.status early_known one);
    as_asked = inl (record {
      statuses = early_known;
      alone = same;
      tells = record {
        asked = asked;
        asked_whole = early_asked;
        refused = told_two {T = T} (given.depot.texts script) (outside.sink.taken given.out) (outside.sink.taken left.out) left.status end refused shown;
        in_part = told_six {T = T} (given.depot.texts script) (outside.sink.taken given.out) (outside.sink.taken left.out) left.status end refused shown;
        failed = early_failed;
        write_failed = early_rose;
      };
    });
  })

  pub early_checked : IsEmpty given.report → Runs (checks script) outside given left
  early_checked empty = record {
    any = early_any empty;
    input = early_takes empty;
    status_one = λ one. absurd (early_no_one left.status early_known one);
    as_asked = record {
      statuses = early_check left.status early_known;
      alone = same;
      accepted = λ good. absurd (early_no_zero left.status early_known good);
      tells = record {
        asked = asked;
        asked_whole = early_asked;
        refused = told_two {T = T} (given.depot.texts script) (outside.sink.taken given.out) (outside.sink.taken left.out) left.status end refused shown;
        in_part = check_six {T = T} (given.depot.texts script) (outside.sink.taken given.out) (outside.sink.taken left.out) left.status end refused shown;
        failed = early_failed;
        write_failed = early_rose;
      };
    };
  }

-- `check` of a script that is accepted
zero_or_six : (status own : ℕ) → (status ≡ 0) ⊎ (status ≡ 6) → own ≢ 0 → own ≢ 6 → status ≢ own
zero_or_six status own is no_zero no_six same = ⊎_elim (λ e. no_zero (sym same ∙ e)) (λ e. no_six (sym same ∙ e)) is

told_status : (status : ℕ) → (status ≡ 0) ⊎ (status ≡ 6) → IsCheckStatus status
told_status status is = ⊎_elim (λ e. (0, omega arith, sym e)) (λ e. (4, omega arith, sym e)) is

told_silent : (status : ℕ) → (status ≡ 0) ⊎ (status ≡ 6) → IsSilentStatus status → ⊥
told_silent status is silent = ⊎_elim (λ e. silent.0 e) (λ e. silent.3 e) is

pub told_runs : {S R W : Type 0} (outside : Outside S R W) (script : List ℕ) (given : Given S R W) (left : Left S R W) (bytes line : List ℕ) → IsEmpty given.report → LeavesInputAndReport given left
    → bytes ≡ line → IfTold (given.depot.texts script) (λ t. IsScriptLine t line) → (left.status ≡ 0) ⊎ (left.status ≡ 6)
    → (left.status ≢ 6 → WritesAll (outside.sink.taken given.out) (outside.sink.taken left.out) bytes) → WritesFirstOf (outside.sink.taken given.out) (outside.sink.taken left.out) bytes
    → (left.status ≡ 6 → Rose (outside.sink.faults_of given.out) (outside.sink.faults_of left.out))
    → left.depot.asked ≡ given.depot.asked ++ for_text script ∷ [] → Asks given.depot.asked left.depot.asked (for_text script ∷ []) → Runs (checks script) outside given left
told_runs outside script given left bytes line empty same_rest same told is all some_of rose asked_whole asked = record {
  any = any_unread outside given left empty same_rest (check_unread left.status (told_status left.status is)) (λ silent. absurd (told_silent left.status is silent));
  input = takes_unread outside given left empty same_rest (check_unread left.status (told_status left.status is));
  status_one = λ one. absurd (zero_or_six left.status 1 is (λ e. omega (arith, e)) (λ e. omega (arith, e)) one);
  as_asked = record {
    statuses = told_status left.status is;
    alone = same_rest;
    accepted = λ good. λ t at. (line, told t at, subst (λ (b : List ℕ). WritesAll (outside.sink.taken given.out) (outside.sink.taken left.out) b) same (all (λ six. omega (arith, good, six))));
    tells = record {
      asked = asked;
      asked_whole = λ no_three no_four. asked_whole;
      refused = λ two. absurd (zero_or_six left.status 2 is (λ e. omega (arith, e)) (λ e. omega (arith, e)) two);
      in_part = λ six. λ t at. (line, inl (told t at), subst (λ (b : List ℕ). WritesFirstOf (outside.sink.taken given.out) (outside.sink.taken left.out) b) same some_of);
      failed = λ three. absurd (zero_or_six left.status 3 is (λ e. omega (arith, e)) (λ e. omega (arith, e)) three);
      write_failed = rose;
    };
  };
}
