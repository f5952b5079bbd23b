-- The end of a dump, as the run shows it.
use Rattle.std.proofs.Common.{◌≡◌, ◌≢◌, ◌≤◌, ◌<◌, ◌⊎◌, ⊎_elim, inl, inr, ℕ, List, [], ◌++◌, length, map, get_or, Option, Some, None, Result, Ok, Err, OnOk, OnErr, option_map, refl, sym, ap, subst, ◌∙◌, arith}
use Rattle.std.specs.Prelude.{IfSome, IsErrOf, IsSome, slice_get}
use Rattle.std.proofs.lemmas.List.{append-nil, ext_get_or, length-map}
use Rattle.std.proofs.lemmas.Option.{get_or_from_slice_get, slice_get-map, slice_get_cases}
use Rattle.command_words.specs.Asked.{dumps}
use Rattle.do_disk.specs.Disk.{Rose}
use Rattle.placement.specs.Slots.{Slots, object_at}
use Rattle.storage_map.specs.Limits.{Object}
use Rattle.host_core.specs.Ends.{opening_end}
use Rattle.host_core.specs.Opening.{Asks, HasFailedDisk, LeavesHanded, slot_asks}
use Rattle.host_core.specs.Report.{IsEmpty, is_opening_end}
use Rattle.host_core.specs.declared.opening.OpenEnd.{OpenEnd}
use Rattle.host_core.specs.declared.opening.OpenEnd.TheVariants as opening
use Rattle.host_core.specs.declared.report.SlotReport.{SlotReport}
use Rattle.host_core.specs.declared.settings.Bad.{Bad}
use Rattle.host_core.specs.declared.settings.ServeEnd.{ServeEnd}
use Rattle.host_core.specs.declared.settings.ServeEnd.TheVariants as ends
use Rattle.do_host.specs.Dump.{AreIdleRows, HasNoValue, IsDumpOf, slots_text}
use Rattle.do_host.specs.Endings.{TellsEnd}
use Rattle.do_host.specs.Mounted.{AllMounted, StopsMounting}
use Rattle.do_host.specs.DumpRuns.{DumpsSlots}
use Rattle.do_host.specs.Outside.{Given, Left, Outside}
use Rattle.do_host.specs.Runs.{AtAnyEnd, Runs}
use Rattle.do_host.specs.Status.{dump_end}
use Rattle.do_host.specs.Storage.{Storage}
use Rattle.do_host.specs.Written.{WritesAll, Writes}
use Rattle.do_host.specs.declared.run_end.RunEnd.{RunEnd}
use Rattle.do_host.specs.declared.run_end.RunEnd.TheVariants.{NoMemory, WriteFailed}
use Rattle.do_host.proofs.Served.{Ends, dump_known, ends_seven, ends_silent, not_usage, shows_end, status_known}
use Rattle.do_host.proofs.Unread.{accepts_unread, lines_unread}

-- the end of an opening that stopped is none of these
stopped_is_open : (end : OpenEnd) → (opening_end end ≡ ends.Finished) ⊎ (opening_end end ≡ ends.WriteFailed) → ⊥
stopped_is_open opening.Failed is = ⊎_elim (λ e. let no : ends.OpenFailed ≡ ends.Finished = e in cc) (λ e. let no : ends.OpenFailed ≡ ends.WriteFailed = e in cc) is
stopped_is_open (opening.BadSlot bad) is = ⊎_elim (λ e. let no : ends.BadSlot bad ≡ ends.Finished = e in cc) (λ e. let no : ends.BadSlot bad ≡ ends.WriteFailed = e in cc) is
stopped_is_open opening.NoMemory is = ⊎_elim (λ e. let no : ends.NoMemory ≡ ends.Finished = e in cc) (λ e. let no : ends.NoMemory ≡ ends.WriteFailed = e in cc) is

stopped_failed : (end : OpenEnd) → opening_end end ≡ ends.OpenFailed → end ≡ opening.Failed
stopped_failed opening.Failed is = refl
stopped_failed (opening.BadSlot bad) is = let no : ends.BadSlot bad ≡ ends.OpenFailed = is in cc
stopped_failed opening.NoMemory is = let no : ends.NoMemory ≡ ends.OpenFailed = is in cc

stopped_bad : (end : OpenEnd) (bad : Bad) → opening_end end ≡ ends.BadSlot bad → end ≡ opening.BadSlot bad
stopped_bad opening.Failed bad is = let no : ends.OpenFailed ≡ ends.BadSlot bad = is in cc
stopped_bad (opening.BadSlot other) bad is = let same : ends.BadSlot other ≡ ends.BadSlot bad = is in cc
stopped_bad opening.NoMemory bad is = let no : ends.NoMemory ≡ ends.BadSlot bad = is in cc

pub stopped_unread : (end : OpenEnd) → opening_end end ≢ ends.ReadFailed
stopped_unread opening.Failed is = let no : ends.OpenFailed ≡ ends.ReadFailed = is in cc
stopped_unread (opening.BadSlot bad) is = let no : ends.BadSlot bad ≡ ends.ReadFailed = is in cc
stopped_unread opening.NoMemory is = let no : ends.NoMemory ≡ ends.ReadFailed = is in cc

stopped_opening : (end : OpenEnd) → is_opening_end (opening_end end)
stopped_opening opening.Failed = tt
stopped_opening (opening.BadSlot bad) = tt
stopped_opening opening.NoMemory = tt

-- the slots can't all be mounted
pub dump_stopped : {S R W : Type 0} (outside : Outside S R W) (folder : List ℕ) (slots : ℕ) (given : Given S R W) (left : Left S R W) (end : OpenEnd) → IsEmpty given.report
    → left.input ≡ given.input → left.out ≡ given.out → (left.report.switch ≡ given.report.switch) × (left.report.lines ≡ given.report.lines)
    → StopsMounting outside.disks.told outside.disks.image outside.disks.moment_of outside.disks.left_since outside.disks.faults_of (given.depot.slots folder) slots given.depot.faults left.depot.faults left.report end
    → Asks given.depot.asked left.depot.asked (slot_asks folder slots) → DumpsSlots outside folder slots (opening_end end) given left
dump_stopped {S} outside folder slots given left end empty same_input same_out same stops asks = record {
  reads_nothing = (stopped_unread end, same.0, same.1);
  reports = record {
    named = stops.named;
    many = stops.all_slots;
    one_each = stops.one_each;
    rows = stops.idle;
    within = omega (arith, stops.fewer);
    bad = λ bad is.
        ⊎_elim (λ opened. inl (opened.bad bad (stopped_bad end bad is)).0)
        (λ unread. inr (subst (λ (o : Option S). IfSome o (HasNoValue outside.disks.told (length left.report.slots.items) bad)) (sym unread.kept) (unread.bad bad (stopped_bad end bad is)))) stops.stops;
  };
  whole = λ is. absurd (stopped_is_open end (inl is));
  front = λ all. absurd (omega (arith, stops.fewer, all));
  opened = record {
    all = λ late. absurd (late (stopped_opening end));
    none_unopened = λ all. absurd (omega (arith, stops.fewer, all));
    unread = λ fewer. (same_input, same_out, same.0, same.1 ∙ empty.lines);
    early = λ is. stops.fewer;
    kept = λ bad is. ⊎_elim (λ opened. (opened.bad bad (stopped_bad end bad is)).1) (λ unread. subst (λ (o : Option S). IsSome o) (sym unread.kept) refl) stops.stops;
  };
  unopened =
      ⊎_elim (λ opened. inl (record { handed = opened.handed; untouched = λ bad is refused. opened.untouched bad (stopped_bad end bad is) refused }))
      (λ unread. inr (record { disk = unread.disk; kept = unread.kept; unread = unread.unread; telling = unread.telling; no_value = λ bad is. unread.bad bad (stopped_bad end bad is) })) stops.stops;
  causes = record {
    open_failed = λ is.
        ⊎_elim (λ opened. opened.failed (stopped_failed end is))
        (λ unread. inr (subst (λ (o : Option S). HasFailedDisk outside.disks.faults_of o) (sym unread.kept) (unread.failed (stopped_failed end is)))) stops.stops;
    read_failed = λ is. absurd (stopped_unread end is);
    write_failed = λ is. absurd (stopped_is_open end (inr is));
    sink_steady = λ other. ap outside.sink.faults_of same_out;
  };
  asked = record { first = asks; mounted = λ all. absurd (omega (arith, stops.fewer, all)) };
}

-- the objects of the rows are those of the slots
pub row_objects : {S : Type 0} (left_since : S → ℕ → List ℕ → Type 0) (contents : ℕ → Option (List ℕ)) (named : Slots) (rows : List (SlotReport S)) → length rows ≡ length named → AreIdleRows left_since contents named rows
    → map (λ (row : SlotReport S). row.identity) rows ≡ named
row_objects {S} left_since contents named rows many idle =
    let identity = λ (row : SlotReport S). row.identity in
    ext_get_or None (map identity rows) named (length-map rows identity ∙ many)
    (λ slot less.
    let there : slot < length rows = omega (arith, less, length-map rows identity) in
    get_or_of slot there (some_row slot there))
  where
    some_row : (slot : ℕ) → slot < length rows → (row : SlotReport S) × (slice_get rows slot ≡ Some row)
    some_row slot less = ⊎_elim (λ row. (row.0, row.2)) (λ past. absurd (omega (arith, less, past.0))) (slice_get_cases rows slot).1

    get_or_of : (slot : ℕ) → slot < length rows → ((row : SlotReport S) × (slice_get rows slot ≡ Some row)) → get_or (map (λ (row : SlotReport S). row.identity) rows) slot None ≡ object_at named slot
    get_or_of slot less (row, at) =
        get_or_from_slice_get (map (λ (r : SlotReport S). r.identity) rows) slot row.identity None
        (slice_get-map (λ (r : SlotReport S). r.identity) rows slot ∙ ap (option_map (λ (r : SlotReport S). r.identity)) at) ∙ (idle slot row at).object

-- how printing the slots ends
pub print_kind : (result : Result (Unit {0}) RunEnd) → OnErr result ((result ≡ Err WriteFailed) ⊎ (result ≡ Err NoMemory)) → (result ≡ Ok tt) ⊎ (result ≡ Err WriteFailed) ⊎ (result ≡ Err NoMemory)
print_kind (Ok tt) stop = inl refl
print_kind (Err end) stop = inr stop

module _ {S R W : Type 0} (outside : Outside S R W) (folder : List ℕ) (slots : ℕ) (given : Given S R W) (left : Left S R W) (storages : List Storage) (result : Result (Unit {0}) RunEnd)
    (same_input : left.input ≡ given.input) (same : (left.report.switch ≡ given.report.switch) × (left.report.lines ≡ given.report.lines))
    (mounted : AllMounted outside.disks.told outside.disks.left_since (given.depot.slots folder) slots left.report.slots.items storages)
    (writes : Writes (outside.sink.taken given.out) (outside.sink.taken left.out) (slots_text 0 (map (λ (row : SlotReport S). row.identity) left.report.slots.items) storages) result)
    (stop : OnErr result ((result ≡ Err WriteFailed) ⊎ (result ≡ Err NoMemory)))
    (rose : IsErrOf result WriteFailed → Rose (outside.sink.faults_of given.out) (outside.sink.faults_of left.out))
    (steady : (IsErrOf result WriteFailed → ⊥) → outside.sink.faults_of left.out ≡ outside.sink.faults_of given.out)
    (none : left.report.unopened ≡ None) where
  -- the end, by how printing ended
  end_kind : (dump_end result ≡ ends.Finished) ⊎ (dump_end result ≡ ends.WriteFailed) ⊎ (dump_end result ≡ ends.NoMemory)
  end_kind = ⊎_elim (λ good. inl (ap dump_end good)) (λ bad. inr (⊎_elim (λ write. inl (ap dump_end write)) (λ memory. inr (ap dump_end memory)) bad)) (print_kind result stop)

  is_no : (end : ServeEnd) → (ends.Finished ≢ end) → (ends.WriteFailed ≢ end) → (ends.NoMemory ≢ end) → dump_end result ≢ end
  is_no end no_finish no_write no_memory is =
      ⊎_elim (λ good. no_finish (sym good ∙ is)) (λ bad. ⊎_elim (λ write. no_write (sym write ∙ is)) (λ memory. no_memory (sym memory ∙ is)) bad) end_kind

  objects_are : map (λ (row : SlotReport S). row.identity) left.report.slots.items ≡ mounted.named
  objects_are = row_objects outside.disks.left_since (given.depot.slots folder) mounted.named left.report.slots.items (mounted.all_rows ∙ sym mounted.all_slots) mounted.mounted.idle

  abbrev text_all : List ℕ
  text_all = slots_text 0 (map (λ (row : SlotReport S). row.identity) left.report.slots.items) storages

  is_dump : IsDumpOf outside.disks.told (given.depot.slots folder) mounted.named left.report.slots.items (slots_text 0 (map (λ (row : SlotReport S). row.identity) left.report.slots.items) storages)
  is_dump = record {
    storages = storages;
    many = mounted.mounted.many ∙ mounted.all_rows ∙ sym mounted.all_slots;
    each = mounted.mounted.each;
    text_is = ap (λ (objects : List (Option Object)). slots_text 0 objects storages) objects_are;
  }

  finished_is_good : dump_end result ≡ ends.Finished → result ≡ Ok tt
  finished_is_good is =
      ⊎_elim (λ good. good)
      (λ bad. absurd (⊎_elim (λ write. let no : ends.WriteFailed ≡ ends.Finished = sym (ap dump_end write) ∙ is in cc) (λ memory. let no : ends.NoMemory ≡ ends.Finished = sym (ap dump_end memory) ∙ is in cc) bad))
      (print_kind result stop)

  failed_is_write : dump_end result ≡ ends.WriteFailed → IsErrOf result WriteFailed
  failed_is_write is =
      ⊎_elim (λ good. absurd (let no : ends.Finished ≡ ends.WriteFailed = sym (ap dump_end good) ∙ is in cc))
      (λ bad. ⊎_elim (λ write. write) (λ memory. absurd (let no : ends.NoMemory ≡ ends.WriteFailed = sym (ap dump_end memory) ∙ is in cc)) bad)
      (print_kind result stop)

  on_good : result ≡ Ok tt → WritesAll (outside.sink.taken given.out) (outside.sink.taken left.out) (slots_text 0 (map (λ (row : SlotReport S). row.identity) left.report.slots.items) storages)
  on_good good =
      subst (λ (r : Result (Unit {0}) RunEnd). OnOk r (WritesAll (outside.sink.taken given.out) (outside.sink.taken left.out)
      (slots_text 0 (map (λ (row : SlotReport S). row.identity) left.report.slots.items) storages))) good writes.whole

  is_no_bad : (bad : Bad) → dump_end result ≢ ends.BadSlot bad
  is_no_bad bad = is_no (ends.BadSlot bad) (λ e. cc) (λ e. cc) (λ e. cc)

  -- all were mounted, and printed as far as that went
  pub dump_printed : left.depot.asked ≡ given.depot.asked ++ slot_asks folder slots → DumpsSlots outside folder slots (dump_end result) given left
  dump_printed asked = record {
    reads_nothing = (is_no ends.ReadFailed (λ e. cc) (λ e. cc) (λ e. cc), same.0, same.1);
    reports = record {
      named = mounted.named;
      many = mounted.all_slots;
      one_each = mounted.one_each;
      rows = mounted.mounted.idle;
      within = omega (arith, mounted.all_rows);
      bad = λ bad is. absurd (is_no_bad bad is);
    };
    whole = λ is. (text_all, is_dump, on_good (finished_is_good is));
    front = λ all. (text_all, is_dump, writes.front);
    opened = record {
      all = λ late. mounted.all_rows;
      none_unopened = λ all. none;
      unread = λ fewer. absurd (omega (arith, fewer, mounted.all_rows));
      early = λ is. absurd (⊎_elim (λ e. is_no ends.OpenFailed (λ f. cc) (λ f. cc) (λ f. cc) e) (λ bad. is_no_bad bad.0 bad.1) is);
      kept = λ bad is. absurd (is_no_bad bad is);
    };
    unopened = inl (record {
      handed = subst (λ (o : Option S). IfSome o (LeavesHanded outside.disks.told outside.disks.image outside.disks.moment_of outside.disks.left_since
          (given.depot.slots folder (length left.report.slots.items)))) (sym none) tt;
      untouched = λ bad is refused. absurd (is_no_bad bad is);
    });
    causes = record {
      open_failed = λ is. absurd (is_no ends.OpenFailed (λ e. cc) (λ e. cc) (λ e. cc) is);
      read_failed = λ is. absurd (is_no ends.ReadFailed (λ e. cc) (λ e. cc) (λ e. cc) is);
      write_failed = λ is. rose (failed_is_write is);
      sink_steady = λ other. steady (λ failed. other (ap dump_end failed));
    };
    asked = record {
      first = record { asked = slot_asks folder slots; added = asked; first = ([], append-nil (slot_asks folder slots)) };
      mounted = λ all. asked;
    };
  }

-- a dump, by how its end is shown
module _ {S R W : Type 0} (outside : Outside S R W) (folder : List ℕ) (slots : ℕ) (given : Given S R W) (left : Left S R W) (dumped : W) (end : ServeEnd) (some : 1 ≤ slots) (empty : IsEmpty given.report)
    (unread : left.input ≡ given.input) (tells : TellsEnd outside.sink.taken outside.sink.faults_of dumped left.out left.status end)
    (printed : DumpsSlots outside folder slots end given (record left { out = dumped })) where
  shown : Ends outside.sink.faults_of outside.sink.taken dumped left.out left.status end
  shown = shows_end outside.sink.faults_of outside.sink.taken dumped left.out left.status end tells

  any_dump : AtAnyEnd outside given left
  any_dump = record {
    statuses = status_known outside.sink.faults_of outside.sink.taken dumped left.out left.status end shown;
    line_limit = lines_unread given.report left.report empty printed.reads_nothing.2;
    unread = λ none. (unread, printed.reads_nothing.1, printed.reads_nothing.2 ∙ empty.lines);
    silent = λ none silent. ap outside.sink.taken
        (ends_silent outside.sink.faults_of outside.sink.taken dumped left.out left.status end shown silent ∙ (printed.opened.unread (omega (arith, some, ap length none))).1);
  }

  pub dump_runs : Runs (dumps folder slots) outside given left
  dump_runs = record {
    any = any_dump;
    input = record {
      bad_slot_kept = λ seven. let bad = ends_seven outside.sink.faults_of outside.sink.taken dumped left.out left.status end shown seven in printed.opened.kept bad.0 bad.1;
      accepted = accepts_unread given.report left.report empty (outside.source.left given.input) (outside.source.left left.input) (ap outside.source.left unread) printed.reads_nothing.1
          printed.reads_nothing.2;
    };
    status_one = λ one. absurd (not_usage outside.sink.faults_of outside.sink.taken dumped left.out left.status end shown one);
    as_asked = record {
      statuses = dump_known outside.sink.faults_of outside.sink.taken dumped left.out left.status end printed.reads_nothing.0 shown;
      unread = unread;
      end = end;
      dumped = dumped;
      tells = tells;
      dumps = printed;
    };
  }
