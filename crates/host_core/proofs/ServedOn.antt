-- How a run goes on from what its workers have left.
use Rattle.std.proofs.Common.{◌≡◌, ◌<◌, ◌∙◌, ap, sym, subst, refl, ℕ, List, [], ◌++◌, length, map, append-nil, append_assoc, Option, arith, Result, Ok, Err, Vec, Global}
use Rattle.std.specs.Prelude.{OnErr, OnOk, is_err, replicate, true, false}
use Rattle.std.proofs.lemmas.Bool.{true≢false}
use Rattle.std.specs.List.{All, Contains}
use Rattle.std.proofs.lemmas.List.{length-replicate, map-append}
use Rattle.std.proofs.lemmas.List.Elements.{All-contains, All-contains_itself, All-weaker, Contains-append_right}
use Rattle.std.proofs.lemmas.Result.{on_ok_weaker}
use Rattle.do_disk.specs.Disk.{Rose}
use Rattle.do_tree.specs.Tree.{Script}
use Rattle.lane.specs.Lanes.{Both}
use Rattle.line_server.specs.Lines.{IsReading, count_of, fault_of as line_fault, source_of}
use Rattle.line_server.specs.Requests.{SeenLine}
use Rattle.line_server.specs.Seen.{seen}
use Rattle.line_server.specs.declared.line.Line as read
use Rattle.line_server.specs.declared.lines.Lines.{Lines}
use Rattle.mailbox.specs.Runs.{fault_of, log_of, out_of}
use Rattle.mailbox.specs.Seen.{seen_line}
use Rattle.mailbox.specs.declared.fault.SwitchFault.{SwitchFault}
use Rattle.mailbox.specs.declared.fault.SwitchFault.TheVariants as fault
use Rattle.mailbox.specs.declared.switch.Switch.{Switch}
use Rattle.object_core.specs.One.{unused}
use Rattle.object_core.specs.declared.object.Core.{Core}
use Rattle.placement.specs.Slots.{Slots}
use Rattle.switch_history.specs.Answering.{AreInOrder}
use Rattle.timeline.specs.declared.event.Event.{Event}
use Rattle.timeline.specs.declared.message.Message.{Message}
use Rattle.host_workers.specs.Lines.{AreUpTo, HasCounted, most_at}
use Rattle.host_workers.specs.Switches.{HasPrinted, kept_in}
use Rattle.worker_pool.specs.Ended.{HasPassedOn, HasRun}
use Rattle.worker_pool.specs.declared.ran.Ran.{Ran}
use Rattle.host_core.proofs.Ending.{no_read_stop, printed_fault, printed_so_far, printed_then}
use Rattle.host_core.proofs.Reading.{accepts_given, has_read_as, read_sent}
use Rattle.host_core.proofs.Reporting.{no_lines}
use Rattle.host_core.proofs.Resuming.{resumed_serves, resumed_stands}
use Rattle.host_core.specs.Ends.{switch_stop}
use Rattle.host_core.specs.Moving.{KeepsMessage}
use Rattle.host_core.specs.Reading.{Accepts, AcceptsAll, AcceptsAllRead, HasRead, read_line, read_lines, with_rest}
use Rattle.host_core.specs.Resuming.{CameFrom, Resumes, ServesOn}
use Rattle.host_core.specs.Running.{HasServed, IsAtRest, IsServing, KeepsServing, LeavesServed, PrintsUntil}
use Rattle.host_core.specs.declared.objects.Objects.{Objects}
use Rattle.host_core.specs.declared.serving.Stop.{Stop}
use Rattle.host_core.specs.declared.serving.Stop.TheVariants as stops

abbrev stopped : Stop → Result (Unit {0}) Stop
stopped s = Err s

-- Want of memory is no write fault.
no_write_memory : stopped stops.NoMemory ≡ stopped stops.WriteFailed → ⊥
no_write_memory e = cc

-- What holds at a fault holds where an answer is one.
pub at_err : {T E : Type 0} (result : Result T E) (P : Type 0) → is_err result ≡ true → OnErr result P → P
at_err (Ok x) P is p = absurd (true≢false (sym is))
at_err (Err e) P is p = p

-- The same where it is none.
pub at_no_err : {T E : Type 0} (result : Result T E) (P : Type 0) → is_err result ≡ false → OnOk result P → P
at_no_err (Ok x) P is p = p
at_no_err (Err e) P is p = absurd (true≢false is)

-- What holds of each item of two lists holds of each of the last.
all_last : {X : Type 0} (P : X → Type 0) (xs ys : List X) → All P (xs ++ ys) → All P ys
all_last P xs ys all =
    All-weaker (Contains ys) P (λ x has. All-contains P (xs ++ ys) x all (Contains-append_right xs ys x has)) ys (All-contains_itself ys)

-- The objects that the workers have left, each with queues through which nothing went.
abbrev pub resumes_of : {D R W : Type 0} (moment_of : D → ℕ) (left_since : D → ℕ → List ℕ → Type 0) (told : D → Option (List ℕ)) (image : D → List ℕ → Type 0)
    (faults_of : D → ℕ) (left : R → Option (List ℕ)) (read_faults : R → ℕ) (taken : W → Option (List ℕ)) (write_faults : W → ℕ)
    (limit : ℕ) (script : Script) (contents : ℕ → Option (List ℕ)) (named : Slots) (ran : Ran D R W) (objects : Objects D)
    → CameFrom moment_of left_since told image faults_of left read_faults taken write_faults limit script contents named ran → objects.cores ≡ ran.cores
    → objects.inboxes.items ≡ replicate (length ran.cores.items) unused → objects.outs.items ≡ replicate (length ran.cores.items) unused
    → Resumes moment_of left_since told image faults_of left read_faults taken write_faults limit script contents named ran ran.end ran.kept ran.rest ran.lines ran.switch objects
resumes_of {D} moment_of left_since told image faults_of left read_faults taken write_faults limit script contents named ran objects came cores inboxes outs =
    let same : ran.cores.items ≡ objects.cores.items = ap (λ (cs : Vec (Core D) Global). cs.items) (sym cores) in
    record {
      came = came;
      end_is = refl;
      kept_is = refl;
      rest_is = refl;
      lines_are = refl;
      switch_is = refl;
      cores = same;
      inboxes = inboxes ∙ ap (λ (cs : List (Core D)). replicate (length cs) unused) same;
      outs = outs ∙ ap (λ (cs : List (Core D)). replicate (length cs) unused) same;
    }

-- The same objects, whose queues have the same.
abbrev pub resumes_as : {D R W : Type 0} (moment_of : D → ℕ) (left_since : D → ℕ → List ℕ → Type 0) (told : D → Option (List ℕ)) (image : D → List ℕ → Type 0)
    (faults_of : D → ℕ) (left : R → Option (List ℕ)) (read_faults : R → ℕ) (taken : W → Option (List ℕ)) (write_faults : W → ℕ)
    (limit : ℕ) (script : Script) (contents : ℕ → Option (List ℕ)) (named : Slots) (ran : Ran D R W) (end : Result (Unit {0}) SwitchFault)
    (kept : Option (ℕ × Message)) (rest : Both read.Line) (lines : Lines R) (switch : Switch W) (objects later : Objects D)
    → Resumes moment_of left_since told image faults_of left read_faults taken write_faults limit script contents named ran end kept rest lines switch objects
    → later.cores ≡ objects.cores → later.inboxes ≡ objects.inboxes → later.outs.items ≡ objects.outs.items
    → Resumes moment_of left_since told image faults_of left read_faults taken write_faults limit script contents named ran end kept rest lines switch later
resumes_as {D} moment_of left_since told image faults_of left read_faults taken write_faults limit script contents named ran end kept rest lines switch objects later resumes
    cores inboxes outs =
    let same : objects.cores.items ≡ later.cores.items = ap (λ (cs : Vec (Core D) Global). cs.items) (sym cores) in
    record {
      came = resumes.came;
      end_is = resumes.end_is;
      kept_is = resumes.kept_is;
      rest_is = resumes.rest_is;
      lines_are = resumes.lines_are;
      switch_is = resumes.switch_is;
      cores = resumes.cores ∙ same;
      inboxes = ap (λ (queues : Vec (Both Event) Global). queues.items) inboxes ∙ resumes.inboxes ∙ ap (λ (cs : List (Core D)). replicate (length cs) unused) same;
      outs = outs ∙ resumes.outs ∙ ap (λ (cs : List (Core D)). replicate (length cs) unused) same;
    }

module _ {D R W : Type 0} (moment_of : D → ℕ) (left_since : D → ℕ → List ℕ → Type 0) (told : D → Option (List ℕ)) (image : D → List ℕ → Type 0)
    (faults_of : D → ℕ) (left : R → Option (List ℕ)) (read_faults : R → ℕ) (taken : W → Option (List ℕ)) (write_faults : W → ℕ)
    (limit : ℕ) (script : Script) (contents : ℕ → Option (List ℕ)) (named : Slots) (ran : Ran D R W) (end : Result (Unit {0}) SwitchFault)
    (kept : Option (ℕ × Message)) (rest : Both read.Line) (lines : Lines R) (switch : Switch W) (objects : Objects D)
    (resumes : Resumes moment_of left_since told image faults_of left read_faults taken write_faults limit script contents named ran end kept rest lines switch objects) where
  abbrev came : CameFrom moment_of left_since told image faults_of left read_faults taken write_faults limit script contents named ran
  came = resumes.came

  abbrev so : HasRun moment_of left_since told image faults_of left read_faults taken write_faults script came.all came.switch came.lines ran
  so = came.ran_so

  abbrev was_good : end ≡ Ok tt → ran.end ≡ Ok tt
  was_good good = resumes.end_is ∙ good

  -- ---- the objects
  -- The slots stand, whether or not a message was kept.
  pub stands_now : HasServed moment_of left_since told image faults_of limit script contents named switch objects
  stands_now = subst (λ (s : Switch W). HasServed moment_of left_since told image faults_of limit script contents named s objects) resumes.switch_is
      (resumed_stands moment_of left_since told image faults_of left read_faults taken write_faults limit script contents named ran came
      objects (sym resumes.cores) resumes.inboxes resumes.outs)

  -- A message that was kept comes from a slot that has a queue.
  pub kept_there : end ≡ Ok tt → All (λ (sent : ℕ × Message). sent.0 < length objects.outs.items) (kept_in kept)
  kept_there good =
      let many : length came.all ≡ length objects.outs.items =
      omega (
        arith,
        so.objects.many,
        ap length (so.ends.goes_on (was_good good)).1,
        ap length resumes.cores,
        ap length resumes.outs ∙ length-replicate (length objects.cores.items) unused,
      ) in
      subst (λ (n : ℕ). All (λ (sent : ℕ × Message). sent.0 < n) (kept_in kept)) many
      (subst (λ (k : Option (ℕ × Message)). All (λ (sent : ℕ × Message). sent.0 < length came.all) (kept_in k)) resumes.kept_is
      (all_last (λ (sent : ℕ × Message). sent.0 < length came.all) (log_of ran.switch).routed (kept_in ran.kept) so.logged.there))

  -- The run serves, once what was kept is put in.
  pub serves_now : (later : Objects D) → end ≡ Ok tt → later.cores ≡ objects.cores → later.inboxes ≡ objects.inboxes
      → KeepsMessage kept objects.outs.items later.outs.items
      → IsServing moment_of left_since told image faults_of limit script contents named switch later
  serves_now later good cores inboxes keeps =
      let same : later.cores.items ≡ objects.cores.items = ap (λ (cs : Vec (Core D) Global). cs.items) cores in
      let many : length objects.cores.items ≡ length later.cores.items = sym (ap length same) in
      subst (λ (s : Switch W). IsServing moment_of left_since told image faults_of limit script contents named s later) resumes.switch_is
      (resumed_serves moment_of left_since told image faults_of left read_faults taken write_faults limit script contents named ran came later
      (same ∙ sym resumes.cores)
      (ap (λ (queues : Vec (Both Event) Global). queues.items) inboxes ∙ resumes.inboxes ∙ ap (λ (n : ℕ). replicate n unused) many) (was_good good)
      (subst (λ (k : Option (ℕ × Message)). KeepsMessage k (replicate (length later.cores.items) unused) later.outs.items) (sym resumes.kept_is)
      (subst (λ (queues : List (Both Message)). KeepsMessage kept queues later.outs.items) (resumes.outs ∙ ap (λ (n : ℕ). replicate n unused) many) keeps)))

  -- ---- the lines
  -- Those that wait stand behind those that were accepted.
  rest_now : end ≡ Ok tt → map seen_line so.reading.sent ≡ with_rest (log_of switch).accepted rest
  rest_now good = so.reading.rest (was_good good) ∙ ap (λ (s : Switch W). (log_of s).accepted ++ map seen_line ran.rest.waiting) resumes.switch_is
      ∙ ap (λ (queue : Both read.Line). (log_of switch).accepted ++ map seen_line queue.waiting) resumes.rest_is

  -- They are in order.
  pub order_now : end ≡ Ok tt → AreInOrder (with_rest (log_of switch).accepted rest)
  order_now good = subst AreInOrder (rest_now good) so.reading.order

  -- None has a number above the count of those that were read.
  pub below_now : end ≡ Ok tt → AreUpTo (count_of lines) (with_rest (log_of switch).accepted rest)
  below_now good = subst (λ (ls : Lines R). AreUpTo (count_of ls) (with_rest (log_of switch).accepted rest)) resumes.lines_are
      (subst (AreUpTo (count_of ran.lines)) (rest_now good) so.reading.below)

  -- The source's count of faults went on from where it was before the workers.
  pub counted_now : HasCounted read_faults (read_faults (source_of came.lines)) lines
  counted_now = subst (λ (ls : Lines R). HasCounted read_faults (read_faults (source_of came.lines)) ls) resumes.lines_are so.reading.counted

  module _ (whole : List ℕ) (reading : IsReading left whole [] came.lines) where
    abbrev passed : HasPassedOn left whole (map seen so.reading.sent) (ran.end ≡ Ok tt) ran.lines
    passed = so.reading.reads whole reading

    -- Where nothing stopped the workers, those that were accepted and those that wait are what the reader gave.
    pub has_read_now : end ≡ Ok tt → HasRead left whole (read_lines (with_rest (log_of switch).accepted rest)) lines
    has_read_now good =
        let given : map seen so.reading.sent ++ passed.lost ≡ read_lines (with_rest (log_of switch).accepted rest) =
        ap (λ (ls : List SeenLine). map seen so.reading.sent ++ ls) (passed.none_lost (was_good good)) ∙ append-nil (map seen so.reading.sent)
        ∙ sym (read_sent so.reading.sent) ∙ ap read_lines (rest_now good) in
        let all : HasRead left whole (map seen so.reading.sent ++ passed.lost) ran.lines = record { goes = passed.goes; first = passed.first; looked = passed.looked; exact = passed.exact } in
        subst (λ (ls : Lines R). HasRead left whole (read_lines (with_rest (log_of switch).accepted rest)) ls) resumes.lines_are
        (has_read_as left whole ran.lines (map seen so.reading.sent ++ passed.lost) (read_lines (with_rest (log_of switch).accepted rest)) (sym given) all)

    -- At any end the accepted ones are the first of what it gave.
    accepts_ran : Accepts whole (left (source_of ran.lines)) (log_of ran.switch).accepted (count_of ran.lines)
    accepts_ran =
        let back = read_lines so.reading.accepted.0 in
        let split : map seen so.reading.sent ++ passed.lost ≡ read_lines (log_of ran.switch).accepted ++ (back ++ passed.lost) =
        ap (λ (ls : List SeenLine). ls ++ passed.lost) (sym (read_sent so.reading.sent) ∙ ap read_lines so.reading.accepted.1 ∙ map-append read_line (log_of ran.switch).accepted so.reading.accepted.0)
        ∙ append_assoc (read_lines (log_of ran.switch).accepted) back passed.lost in
        accepts_given left whole ran.lines (map seen so.reading.sent ++ passed.lost) (log_of ran.switch).accepted (back ++ passed.lost) (most_at (line_fault ran.lines)) split
        passed.first passed.looked

    -- So by the switch and the reader as they are called now.
    accepts_now : Accepts whole (left (source_of lines)) (log_of switch).accepted (count_of lines)
    accepts_now = subst (λ (ls : Lines R). Accepts whole (left (source_of ls)) (log_of switch).accepted (count_of ls)) resumes.lines_are
        (subst (λ (s : Switch W). Accepts whole (left (source_of ran.lines)) (log_of s).accepted (count_of ran.lines)) resumes.switch_is accepts_ran)

  -- ---- where it stops before it serves a line
  -- It stops so for this cause, where this was printed.
  stops_here : (stop : Stop) → (stopped stop ≡ stopped stops.ReadFailed → ⊥) → PrintsUntil taken write_faults came.switch ran.switch (stopped stop)
      → ServesOn moment_of left_since told image faults_of left read_faults taken write_faults limit script contents named came.switch came.lines lines switch objects
      (stopped stop)
  stops_here stop unread prints = record {
    serving = tt;
    read_serving = λ failed. absurd (unread failed);
    served = stands_now;
    resting = tt;
    read_resting = λ failed. absurd (unread failed);
    order = tt;
    read_order = λ failed. absurd (unread failed);
    accepts = λ whole is. accepts_now whole (came.reading whole is);
    all = tt;
    read_all = λ failed. absurd (unread failed);
    prints = subst (λ (s : Switch W). PrintsUntil taken write_faults came.switch s (stopped stop)) resumes.switch_is prints;
    read_failed = λ failed. absurd (unread failed);
  }

  -- The workers stopped at this fault.
  pub stops_at_fault : (f : SwitchFault) → end ≡ Err f
      → ServesOn moment_of left_since told image faults_of left read_faults taken write_faults limit script contents named came.switch came.lines lines switch objects
      (stopped (switch_stop f))
  stops_at_fault f is = stops_here (switch_stop f) (no_read_stop f)
      (printed_fault taken write_faults came.switch ran.switch (no_lines came.switch came.blank) so.logged.printed f
      (λ failed. so.ends.write_failed (resumes.end_is ∙ is ∙ failed)) (λ failed. sym is ∙ sym resumes.end_is ∙ so.ends.failed_write failed))

  -- Memory was wanting for what was kept.
  pub stops_unkept : end ≡ Ok tt
      → ServesOn moment_of left_since told image faults_of left read_faults taken write_faults limit script contents named came.switch came.lines lines switch objects
      (stopped stops.NoMemory)
  stops_unkept good = stops_here stops.NoMemory (no_read_stop fault.NoMemory)
      (printed_so_far taken write_faults came.switch ran.switch (no_lines came.switch came.blank) so.logged.printed (stopped stops.NoMemory) (so.ends.goes_on (was_good good)).0
      no_write_memory)

  -- ---- where it serves on
  -- What came behind the workers' lines.
  pub record GoesOn (later : Objects D) (new_lines : Lines R) (new_switch : Switch W) (new : Objects D) (result : Result (Unit {0}) Stop) : Type 0 where
    pub serving : OnOk result (KeepsServing moment_of left_since told image faults_of script switch new_switch later new)
    pub read_serving : result ≡ stopped stops.ReadFailed → KeepsServing moment_of left_since told image faults_of script switch new_switch later new
    pub served : LeavesServed moment_of left_since told image faults_of script switch new_switch later new
    pub resting : OnOk result (IsAtRest script new)
    pub read_resting : result ≡ stopped stops.ReadFailed → IsAtRest script new
    pub order : OnOk result (AreInOrder (log_of new_switch).accepted)
    pub read_order : result ≡ stopped stops.ReadFailed → AreInOrder (log_of new_switch).accepted
    pub accepts : (whole : List ℕ) → HasRead left whole (read_lines (with_rest (log_of switch).accepted rest)) lines
        → Accepts whole (left (source_of new_lines)) (log_of new_switch).accepted (count_of new_lines)
    pub all : OnOk result ((whole : List ℕ) → HasRead left whole (read_lines (with_rest (log_of switch).accepted rest)) lines
        → AcceptsAll whole (log_of new_switch).accepted (count_of new_lines))
    pub read_all : result ≡ stopped stops.ReadFailed → (whole : List ℕ) → HasRead left whole (read_lines (with_rest (log_of switch).accepted rest)) lines
        → AcceptsAllRead whole (left (source_of new_lines)) (log_of new_switch).accepted (count_of new_lines)
    pub prints : PrintsUntil taken write_faults switch new_switch result
    pub read_failed : result ≡ stopped stops.ReadFailed → (from : ℕ) → HasCounted read_faults from lines → Rose from (read_faults (source_of new_lines))

  -- It's what the run serves.
  pub goes_on : (later : Objects D) (new_lines : Lines R) (new_switch : Switch W) (new : Objects D) (result : Result (Unit {0}) Stop) → end ≡ Ok tt
      → IsServing moment_of left_since told image faults_of limit script contents named switch later → GoesOn later new_lines new_switch new result
      → ServesOn moment_of left_since told image faults_of left read_faults taken write_faults limit script contents named came.switch came.lines new_lines new_switch new result
  goes_on later new_lines new_switch new result good serving goes = record {
    serving = on_ok_weaker result (λ keeps. keeps limit contents named serving) goes.serving;
    read_serving = λ failed. goes.read_serving failed limit contents named serving;
    served = goes.served limit contents named serving;
    resting = goes.resting;
    read_resting = goes.read_resting;
    order = goes.order;
    read_order = goes.read_order;
    accepts = λ whole is. goes.accepts whole (has_read_now whole (came.reading whole is) good);
    all = on_ok_weaker result (λ all whole is. all whole (has_read_now whole (came.reading whole is) good)) goes.all;
    read_all = λ failed whole is. goes.read_all failed whole (has_read_now whole (came.reading whole is) good);
    prints = printed_then taken write_faults came.switch switch (no_lines came.switch came.blank)
        (subst (λ (s : Switch W). HasPrinted taken write_faults (taken (out_of came.switch)) (write_faults (out_of came.switch)) s) resumes.switch_is so.logged.printed)
        new_switch result (ap (λ (s : Switch W). fault_of s) (sym resumes.switch_is) ∙ (so.ends.goes_on (was_good good)).0) goes.prints;
    read_failed = λ failed. goes.read_failed failed (read_faults (source_of came.lines)) counted_now;
  }
