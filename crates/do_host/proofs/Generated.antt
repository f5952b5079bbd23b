-- The runs of `gen`.
use Rattle.std.proofs.Common.{◌≡◌, ◌≢◌, ◌≤◌, ◌<◌, ◌⊎◌, ⊎_elim, inl, inr, ℕ, ℤ, List, [], length, Some, None, Result, Ok, Err, refl, sym, ap, subst, ◌∙◌, arith}
use Rattle.std.specs.Prelude.{IsErrOf, OnErr, OnOk}
use Rattle.command_words.specs.Asked.{gens}
use Rattle.do_disk.specs.Disk.{Rose}
use Rattle.do_disk.specs.declared.memory_sink.VoidSink.{VoidSink}
use Rattle.line_server.specs.Limits.{most_lines}
use Rattle.host_core.specs.Ends.{opening_end}
use Rattle.host_core.specs.Report.{IsEmpty, is_opening_end}
use Rattle.host_core.specs.declared.opening.OpenEnd.{OpenEnd}
use Rattle.host_core.specs.declared.report.Report.{Report}
use Rattle.host_core.specs.declared.settings.ServeEnd.{ServeEnd}
use Rattle.host_core.specs.declared.settings.ServeEnd.TheVariants as ends
use Rattle.do_host.specs.EarlyEnds.{IsRefusedBy, IsStoppedBy}
use Rattle.do_host.specs.Endings.{EndsAs, TellsEnd}
use Rattle.do_host.specs.GenRuns.{GoesOn, PrintsLine, ServesMade, SumsUp, gen_script, replies_in, summary_line}
use Rattle.do_host.specs.Outside.{Disks, Given, Left, LeavesInputAndReport, Outside, Sinks}
use Rattle.do_host.specs.Runs.{AtAnyEnd, Runs}
use Rattle.do_host.specs.ScriptLines.{IsRefusalLine}
use Rattle.do_host.specs.Status.{dump_end, status_of}
use Rattle.do_host.specs.Sums.{Sums}
use Rattle.do_host.specs.Written.{WritesAll, Writes}
use Rattle.do_host.specs.declared.early_end.EarlyEnd.{EarlyEnd}
use Rattle.do_host.specs.declared.early_end.EarlyEnd.TheVariants.{Stopped}
use Rattle.do_host.specs.declared.run_end.RunEnd.{RunEnd}
use Rattle.do_host.specs.declared.run_end.RunEnd.TheVariants.{NoMemory, WriteFailed}
use Rattle.do_host.proofs.GenAccepted.{gen_not_refused}
use Rattle.do_host.proofs.Dumps.{print_kind, stopped_unread}
use Rattle.do_host.proofs.Early.{any_unread, check_unread, early}
use Rattle.do_host.proofs.Served.{Ends, ends_silent, not_usage, shows_end, status_known}

-- ---- before a slot is asked for

module _ {T S R W : Type 0} (outside : Outside S R W) (given : Given S R W) (left : Left S R W) (end : EarlyEnd) (text : List ℕ) (text_is : text ≡ gen_script)
    (by : ((line : List ℕ) × IsRefusedBy (early {T = T} end) line) ⊎ IsStoppedBy (early {T = T} end) NoMemory)
    (ends_as : EndsAs (outside.sink.taken given.out) (outside.sink.taken left.out) left.status end)
    (refused : (line : List ℕ) → IsRefusedBy (early {T = T} end) line → IsRefusalLine text line)
    (same : LeavesInputAndReport given left) (depot : left.depot ≡ given.depot) where
  -- the script isn't refused, and no depot is asked for it
  never : (line : List ℕ) → IsRefusedBy (early {T = T} end) line → ⊥
  never line is = gen_not_refused line (subst (λ (x : List ℕ). IsRefusalLine x line) text_is (refused line is))

  stopped : end ≡ Stopped NoMemory
  stopped = ⊎_elim (λ line. absurd (never line.0 line.1)) (λ wanting. let is : end ≡ Stopped NoMemory = cc in is) by

  told : (left.status ≡ 4) × (outside.sink.taken left.out ≡ outside.sink.taken given.out)
  told = subst (λ (e : EarlyEnd). EndsAs (outside.sink.taken given.out) (outside.sink.taken left.out) left.status e) stopped ends_as

  pub none_runs : (seed count : ℕ) (folder : List ℕ) → IsEmpty given.report → Runs (gens seed count folder) outside given left
  none_runs seed count folder empty = record {
    any = any_unread outside given left empty same (check_unread left.status (3, omega arith, sym told.0)) (λ silent. told.1);
    input = tt;
    status_one = λ one. absurd (omega (arith, one, told.0));
    as_asked = inl (record { wanting = told.0; alone = same; asked = depot; silent = told.1 });
  }

-- ---- the line of the summary

pub printed_line : {W : Type 0} (sink : Sinks W) (line : List ℕ) (before after : W) (result : Result (Unit {0}) RunEnd) (end : ServeEnd) → Writes (sink.taken before) (sink.taken after) line result
    → OnErr result ((result ≡ Err WriteFailed) ⊎ (result ≡ Err NoMemory)) → (IsErrOf result WriteFailed → Rose (sink.faults_of before) (sink.faults_of after))
    → ((IsErrOf result WriteFailed → ⊥) → sink.faults_of after ≡ sink.faults_of before) → end ≡ dump_end result → PrintsLine sink line before after end
printed_line {W} sink line before after result end writes stop rose steady is = record {
  ends_so = ⊎_elim (λ good. inl (is ∙ ap dump_end good)) (λ bad. inr (⊎_elim (λ write. inl (is ∙ ap dump_end write)) (λ memory. inr (is ∙ ap dump_end memory)) bad)) (print_kind result stop);
  whole = λ all.
      ⊎_elim (λ good. subst (λ (r : Result (Unit {0}) RunEnd). OnOk r (WritesAll (sink.taken before) (sink.taken after) line)) good writes.whole)
      (λ bad. absurd (⊎_elim (λ write. let no : ends.WriteFailed ≡ ends.Finished = sym (is ∙ ap dump_end write) ∙ all in cc)
      (λ memory. let no : ends.NoMemory ≡ ends.Finished = sym (is ∙ ap dump_end memory) ∙ all in cc) bad)) (print_kind result stop);
  front = writes.front;
  failed = λ some.
      ⊎_elim (λ good. absurd (let no : ends.Finished ≡ ends.WriteFailed = sym (is ∙ ap dump_end good) ∙ some in cc))
      (λ bad. ⊎_elim (λ write. rose write) (λ memory. absurd (let no : ends.NoMemory ≡ ends.WriteFailed = sym (is ∙ ap dump_end memory) ∙ some in cc)) bad) (print_kind result stop);
  steady = λ other. steady (λ write. other (is ∙ ap dump_end write));
}

-- what was added up, and printed
pub sum_printed : {S W : Type 0} (disks : Disks S) (sink : Sinks W) (count : ℕ) (served report : Report S) (before after : W) (end : ServeEnd) (sum : Result ℤ OpenEnd) (total : ℤ)
    → (report.switch ≡ served.switch) × (report.lines ≡ served.lines) × (report.unopened ≡ served.unopened)
    → Sums disks.told disks.image disks.moment_of disks.left_since disks.faults_of served.slots.items report.slots.items sum → sum ≡ Ok total
    → PrintsLine sink (summary_line count (replies_in served.switch.lines.items) total) before after end → SumsUp disks sink count served before after end report
sum_printed disks sink count served report before after end sum total same sums is prints = record {
  same = same;
  sum = sum;
  sums = sums;
  prints = λ other sum_is.
      let one : ◌≡◌ {A = Result ℤ OpenEnd} (Ok total) (Ok other) = sym is ∙ sum_is in
      let own : total ≡ other = cc in
      subst (λ (n : ℤ). PrintsLine sink (summary_line count (replies_in served.switch.lines.items) n) before after end) own prints;
  stops = λ stop sum_is. absurd (let no : ◌≡◌ {A = Result ℤ OpenEnd} (Ok total) (Err stop) = sym is ∙ sum_is in cc);
}

-- ---- the lines are served

module _ {S W : Type 0} (disks : Disks S) (sink : Sinks W) (count : ℕ) (served : Report S) (before after : W) (end : ServeEnd) (report : Report S) where
  -- the report is as serving left it but for the disks
  abbrev IsSame : Type 0
  IsSame = (report.switch ≡ served.switch) × (report.lines ≡ served.lines) × (length report.slots.items ≡ length served.slots.items)

  plain_same : (end_of : ServeEnd) → (end ≡ end_of) × (report ≡ served) × (after ≡ before) → IsSame
  plain_same end_of is = (ap (λ (r : Report S). r.switch) is.1, ap (λ (r : Report S). r.lines) is.1, ap (λ (r : Report S). length r.slots.items) is.1)

  goes_same : (serving : ServeEnd) → GoesOn disks sink count serving served before after end report → IsSame
  goes_same ends.Finished is = (is.same.0, is.same.1, is.sums.many)
  goes_same ends.OpenFailed is = plain_same ends.OpenFailed is
  goes_same (ends.BadSlot bad) is = plain_same (ends.BadSlot bad) is
  goes_same ends.ReadFailed is = plain_same ends.ReadFailed is
  goes_same ends.WriteFailed is = plain_same ends.WriteFailed is
  goes_same ends.NoMemory is = plain_same ends.NoMemory is

  -- nothing was written where not all was served
  goes_silent : (serving : ServeEnd) → serving ≢ ends.Finished → GoesOn disks sink count serving served before after end report → after ≡ before
  goes_silent ends.Finished other is = absurd (other refl)
  goes_silent ends.OpenFailed other is = is.2
  goes_silent (ends.BadSlot bad) other is = is.2
  goes_silent ends.ReadFailed other is = is.2
  goes_silent ends.WriteFailed other is = is.2
  goes_silent ends.NoMemory other is = is.2

  printed_read : (line : List ℕ) → PrintsLine sink line before after end → end ≢ ends.ReadFailed
  printed_read line prints read =
      ⊎_elim (λ all. let no : ends.Finished ≡ ends.ReadFailed = sym all ∙ read in cc)
      (λ rest. ⊎_elim (λ part. let no : ends.WriteFailed ≡ ends.ReadFailed = sym part ∙ read in cc) (λ none. let no : ends.NoMemory ≡ ends.ReadFailed = sym none ∙ read in cc) rest) prints.ends_so

  summed_read : (sum : Result ℤ OpenEnd) → ((total : ℤ) → sum ≡ Ok total → (line : List ℕ) × PrintsLine sink line before after end)
      → ((stop : OpenEnd) → sum ≡ Err stop → (end ≡ opening_end stop) × (after ≡ before)) → end ≢ ends.ReadFailed
  summed_read (Ok total) prints stops read = let line = prints total refl in printed_read line.0 line.1 read
  summed_read (Err stop) prints stops read = stopped_unread stop (sym (stops stop refl).0 ∙ read)

  -- no read of the input failed
  pub goes_read : (serving : ServeEnd) → serving ≢ ends.ReadFailed → GoesOn disks sink count serving served before after end report → end ≢ ends.ReadFailed
  goes_read ends.Finished other is = summed_read is.sum (λ total sum_is. (_, is.prints total sum_is)) is.stops
  goes_read ends.OpenFailed other is = λ read. let no : ends.OpenFailed ≡ ends.ReadFailed = sym is.0 ∙ read in cc
  goes_read (ends.BadSlot bad) other is = λ read. let no : ends.BadSlot bad ≡ ends.ReadFailed = sym is.0 ∙ read in cc
  goes_read ends.ReadFailed other is = absurd (other refl)
  goes_read ends.WriteFailed other is = λ read. let no : ends.WriteFailed ≡ ends.ReadFailed = sym is.0 ∙ read in cc
  goes_read ends.NoMemory other is = λ read. let no : ends.NoMemory ≡ ends.ReadFailed = sym is.0 ∙ read in cc

-- a count that stays at 0 didn't rise
pub none_rose : Rose 0 0 → ⊥
none_rose rose = ⊎_elim (λ less. omega (arith, less)) (λ most. omega (arith, most)) rose

-- how serving over the sink that tells nothing is told
pub tells_void : (out : VoidSink) (end : ServeEnd) → TellsEnd {W = VoidSink} (λ sink. None) (λ sink. 0) out out (status_of end) end
tells_void out ends.Finished = (refl, refl)
tells_void out ends.OpenFailed = (refl, refl)
tells_void out (ends.BadSlot bad) = inl (refl, refl, refl)
tells_void out ends.ReadFailed = (refl, refl)
tells_void out ends.WriteFailed = (refl, refl)
tells_void out ends.NoMemory = (refl, refl)

module _ {S R W : Type 0} (outside : Outside S R W) (seed count : ℕ) (folder : List ℕ) (given : Given S R W) (left : Left S R W) (run : ServesMade outside seed count folder given left) where
  made_shown : Ends outside.sink.faults_of outside.sink.taken run.summed left.out left.status run.end
  made_shown = shows_end outside.sink.faults_of outside.sink.taken run.summed left.out left.status run.end run.tells

  made_same : IsSame outside.disks outside.sink count run.served.report given.out run.summed run.end left.report
  made_same = goes_same outside.disks outside.sink count run.served.report given.out run.summed run.end left.report run.serves.end run.goes_on

  abbrev no_rows : Type 0
  no_rows = left.report.slots.items ≡ []

  few_rows : no_rows → length run.served.report.slots.items < 16
  few_rows none = omega (arith, made_same.2, ap length none)

  not_finished : no_rows → run.serves.end ≢ ends.Finished
  not_finished none is = omega (arith, few_rows none, run.serves.opened.all (λ early. subst is_opening_end is early))

  made_any : AtAnyEnd outside given left
  made_any = record {
    statuses = status_known outside.sink.faults_of outside.sink.taken run.summed left.out left.status run.end made_shown;
    line_limit = subst (λ (n : ℕ). n ≤ most_lines) (sym made_same.1) run.serves.lines.limit;
    unread = λ none. let same = run.serves.opened.unread (few_rows none) in (run.unread, made_same.0 ∙ same.2, made_same.1 ∙ same.3);
    silent = λ none silent. ap outside.sink.taken
        (ends_silent outside.sink.faults_of outside.sink.taken run.summed left.out left.status run.end made_shown silent
        ∙ goes_silent outside.disks outside.sink count run.served.report given.out run.summed run.end left.report run.serves.end (not_finished none) run.goes_on);
  }

  pub made_runs : Runs (gens seed count folder) outside given left
  made_runs = record {
    any = made_any;
    input = tt;
    status_one = λ one. absurd (not_usage outside.sink.faults_of outside.sink.taken run.summed left.out left.status run.end made_shown one);
    as_asked = inr run;
  }
