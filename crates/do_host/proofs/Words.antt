-- Runs that end with the words: memory was wanting for them, or they are no command.
use Rattle.std.proofs.Common.{◌≡◌, ◌≢◌, ◌<◌, ◌⊎◌, ⊎_elim, inl, inr, ℕ, List, [], ◌∷◌, ◌++◌, length, replicate, Option, None, refl, sym, ap, subst, ◌∙◌, arith}
use Rattle.std.specs.Prelude.{IfSome}
use Rattle.std.proofs.lemmas.List.{append-nil, length-replicate}
use Rattle.std.proofs.lemmas.Option.{slice_get_within}
use Rattle.command_words.specs.Asked.{Asked, checks, dumps, gens, serves, usage}
use Rattle.do_disk.specs.Asks.{Ask, for_text}
use Rattle.do_disk.specs.Disk.{Rose}
use Rattle.host_core.specs.Opening.{Asks, LeavesHanded, slot_asks}
use Rattle.host_core.specs.Report.{IsEmpty}
use Rattle.host_core.specs.declared.report.SlotReport.{SlotReport}
use Rattle.host_core.specs.declared.settings.ServeEnd.TheVariants as ends
use Rattle.do_host.specs.Dump.{AreIdleRows, IsDumpOf, slots_text}
use Rattle.do_host.specs.DumpRuns.{DumpsSlots}
use Rattle.do_host.specs.Outside.{Given, Left, LeavesInputAndReport, Outside, left_of}
use Rattle.do_host.specs.Runs.{IfNotMade, Runs, RunsAs, usage_line}
use Rattle.do_host.specs.ScriptRuns.{TellsOfScript}
use Rattle.do_host.specs.Written.{WritesAll, WritesFirstOf}
use Rattle.do_host.proofs.Dumping.{front_none}
use Rattle.do_host.proofs.Early.{any_unread, takes_unread, usage_unread}
use Rattle.do_host.proofs.Mounts.{no_object, none_each}

-- nothing of these questions was asked
none_asked : (questions asks : List Ask) → Asks questions questions asks
none_asked questions asks = record { asked = []; added = sym (append-nil questions); first = (asks, refl) }

-- what holds of every command holds of each but `gen`
if_not_made : {P : Type 0} (command : Asked) → P → IfNotMade command P
if_not_made (serves script folder slots workers journal) p = p
if_not_made (checks script) p = p
if_not_made (dumps folder slots) p = p
if_not_made (gens seed count folder) p = tt
if_not_made usage p = p

-- memory was wanting for the words
module _ {S R W : Type 0} (outside : Outside S R W) (given : Given S R W) (empty : IsEmpty given.report) where
  abbrev wanting : Left S R W
  wanting = left_of given.depot given.input given.out given.report 4

  untouched : LeavesInputAndReport given wanting
  untouched = record { input = refl; report = refl }

  of_script : (script : List ℕ) (IsLineOf : List ℕ → List ℕ → Type 0) → TellsOfScript outside script IsLineOf given wanting
  of_script script IsLineOf = record {
    asked = none_asked given.depot.asked (for_text script ∷ []);
    asked_whole = λ no_three no_four. absurd (no_four refl);
    refused = λ two. absurd (omega (arith, two));
    in_part = λ six. absurd (omega (arith, six));
    failed = λ three. absurd (omega (arith, three));
    write_failed = λ six. absurd (omega (arith, six));
  }

  no_rows : length given.report.slots.items ≡ 0
  no_rows = ap length empty.slots

  no_slot : (contents : ℕ → Option (List ℕ)) (rows : List (SlotReport S)) (slots : ℕ) → slots ≡ 0 → IsDumpOf outside.disks.told contents (replicate slots None) rows []
  no_slot contents rows slots nil = record {
    storages = [];
    many = sym (length-replicate slots no_object ∙ nil);
    each = λ slot row storage here at. absurd (let less : slot < 0 = slice_get_within [] slot storage at in omega (arith, less));
    text_is = ap (λ (n : ℕ). slots_text 0 (replicate n None) []) (sym nil);
  }

  of_slots : (folder : List ℕ) (slots : ℕ) → DumpsSlots outside folder slots ends.NoMemory given wanting
  of_slots folder slots = record {
    reads_nothing = (λ is. let no : ends.NoMemory ≡ ends.ReadFailed = is in cc, refl, refl);
    reports = record {
      named = replicate slots None;
      many = length-replicate slots None;
      one_each = none_each slots;
      rows = subst (λ (rows : List (SlotReport S)). AreIdleRows outside.disks.left_since (given.depot.slots folder) (replicate slots None) rows) (sym empty.slots)
          (λ slot row at. absurd (let less : slot < 0 = slice_get_within [] slot row at in omega (arith, less)));
      within = omega (arith, no_rows);
      bad = λ bad is. absurd (let no : ends.NoMemory ≡ ends.BadSlot bad = is in cc);
    };
    whole = λ is. absurd (let no : ends.NoMemory ≡ ends.Finished = is in cc);
    front = λ all. ([], no_slot (given.depot.slots folder) given.report.slots.items slots (sym all ∙ no_rows), front_none (outside.sink.taken given.out) []);
    opened = record {
      all = λ late. absurd (late tt);
      none_unopened = λ all. empty.unopened;
      unread = λ fewer. (refl, refl, refl, empty.lines);
      early = λ is. absurd (⊎_elim (λ e. let no : ends.NoMemory ≡ ends.OpenFailed = e in cc) (λ e. let no : ends.NoMemory ≡ ends.BadSlot e.0 = e.1 in cc) is);
      kept = λ bad is. absurd (let no : ends.NoMemory ≡ ends.BadSlot bad = is in cc);
    };
    unopened = inl (record {
      handed = subst (λ (o : Option S). IfSome o (LeavesHanded outside.disks.told outside.disks.image outside.disks.moment_of outside.disks.left_since
          (given.depot.slots folder (length given.report.slots.items)))) (sym empty.unopened) tt;
      untouched = λ bad is refused. absurd (let no : ends.NoMemory ≡ ends.BadSlot bad = is in cc);
    });
    causes = record {
      open_failed = λ is. absurd (let no : ends.NoMemory ≡ ends.OpenFailed = is in cc);
      read_failed = λ is. absurd (let no : ends.NoMemory ≡ ends.ReadFailed = is in cc);
      write_failed = λ is. absurd (let no : ends.NoMemory ≡ ends.WriteFailed = is in cc);
      sink_steady = λ other. refl;
    };
    asked = record {
      first = none_asked given.depot.asked (slot_asks folder slots);
      mounted = λ all. sym (append-nil given.depot.asked) ∙ ap (λ (n : ℕ). given.depot.asked ++ slot_asks folder n) (sym no_rows ∙ all);
    };
  }

  as_asked : (command : Asked) → RunsAs command outside given wanting
  as_asked (serves script folder slots workers journal) = inl (record { statuses = (2, omega arith, refl); alone = untouched; tells = of_script script _ })
  as_asked (checks script) = record { statuses = (3, omega arith, refl); alone = untouched; accepted = λ good. absurd (omega (arith, good)); tells = of_script script _ }
  as_asked (dumps folder slots) = record {
    statuses = (2, omega arith, refl);
    unread = refl;
    end = ends.NoMemory;
    dumped = given.out;
    tells = (refl, refl);
    dumps = of_slots folder slots;
  }
  as_asked (gens seed count folder) = inl (record {
    wanting = refl;
    alone = untouched;
    asked = refl;
    silent = refl;
  })
  as_asked usage = record {
    statuses = inr (inr refl);
    alone = untouched;
    asked = refl;
    written = front_none (outside.sink.taken given.out) usage_line;
    whole = λ one. absurd (omega (arith, one));
    silent = λ four. refl;
    write_failed = λ six. absurd (omega (arith, six));
  }

  pub wanting_runs : (command : Asked) → Runs command outside given wanting
  wanting_runs command = record {
    any = any_unread outside given wanting empty untouched (usage_unread 4 (inr (inr refl))) (λ silent. refl);
    input = if_not_made command (takes_unread outside given wanting empty untouched (usage_unread 4 (inr (inr refl))));
    status_one = λ one. absurd (omega (arith, one));
    as_asked = as_asked command;
  }

-- the words are no command, and the usage is told
pub usage_runs : {S R W : Type 0} (outside : Outside S R W) (given : Given S R W) (left : Left S R W) (line : List ℕ) → IsEmpty given.report → LeavesInputAndReport given left
    → left.depot.asked ≡ given.depot.asked → line ≡ usage_line → (left.status ≡ 1) ⊎ (left.status ≡ 6) → (left.status ≢ 6 → WritesAll (outside.sink.taken given.out) (outside.sink.taken left.out) line)
    → WritesFirstOf (outside.sink.taken given.out) (outside.sink.taken left.out) line → (left.status ≡ 6 → Rose (outside.sink.faults_of given.out) (outside.sink.faults_of left.out))
    → Runs usage outside given left
usage_runs outside given left line empty same asked own is whole written rose =
    let statuses = ⊎_elim (λ one. inl one) (λ six. inr (inl six)) is in
    record {
      any = any_unread outside given left empty same (usage_unread left.status statuses) (λ silent. absurd (⊎_elim (λ one. silent.1 one) (λ six. silent.3 six) is));
      input = takes_unread outside given left empty same (usage_unread left.status statuses);
      status_one = λ one. refl;
      as_asked = record {
        statuses = statuses;
        alone = same;
        asked = asked;
        written = subst (λ (l : List ℕ). WritesFirstOf (outside.sink.taken given.out) (outside.sink.taken left.out) l) own written;
        whole = λ one. subst (λ (l : List ℕ). WritesAll (outside.sink.taken given.out) (outside.sink.taken left.out) l) own (whole (λ six. omega (arith, one, six)));
        silent = λ four. absurd (⊎_elim (λ one. omega (arith, one, four)) (λ six. omega (arith, six, four)) is);
        write_failed = rose;
      };
    }

-- the words ask for this command
pub runs_as : {S R W : Type 0} (command words : Asked) (outside : Outside S R W) (given : Given S R W) (left : Left S R W) → command ≡ words → Runs command outside given left
    → Runs words outside given left
runs_as command words outside given left is runs = subst (λ (c : Asked). Runs c outside given left) is runs
