-- What the report of a run is, from what the run was.
use Rattle.std.proofs.Common.{◌≡◌, ◌≢◌, ◌≤◌, ◌<◌, ◌∙◌, ap, sym, subst, refl, arith, ℕ, zero, suc, Bool, true, false, List, [], ◌∷◌, ◌++◌, map, length, replicate, take, append-nil, Option, Some, None, Result, Ok, Err}
use Rattle.std.specs.Prelude.{OnOk, IfErr, option_map, slice_get}
use Rattle.std.specs.List.{All, IsDistinct}
use Rattle.std.proofs.lemmas.List.Elements.{All-nil}
use Rattle.std.proofs.lemmas.List.{length-replicate, take_all}
use Rattle.do_disk.specs.Disk.{IfTold, Rose}
use Rattle.do_tree.specs.Tree.{Script}
use Rattle.mailbox.proofs.Writings.{writes_then, part_then}
use Rattle.mailbox.specs.Left.{finished_by}
use Rattle.mailbox.specs.Posting.{of_slot}
use Rattle.mailbox.specs.Runs.{Begins, lines_of, log_of, out_of, state_of}
use Rattle.mailbox.specs.Seen.{seen_log, seen_out}
use Rattle.mailbox.specs.Written.{Writes, WritesInPart, text_of}
use Rattle.mailbox.specs.declared.switch.Switch.{Switch}
use Rattle.line_server.proofs.Given.{goes_from, has_given_now}
use Rattle.line_server.proofs.Looking.{looked_none}
use Rattle.line_server.specs.declared.out_line.OutLine.{OutLine}
use Rattle.placement.specs.Slots.{Slots, IsOneEach, object_at}
use Rattle.timeline.specs.Headline.{IsPrefix}
use Rattle.timeline.specs.Lines.{Line}
use Rattle.timeline.specs.Switch as timeline
use Rattle.timeline.specs.Switch.{SwitchLog, IsSwitchRun, gave, no_log, opened}
use Rattle.timeline.specs.Switch.IsSwitchRun.{begins}
use Rattle.timeline.specs.declared.caller.Caller.{Caller}
use Rattle.timeline.specs.declared.event.Event.{Event}
use Rattle.timeline.specs.declared.message.Message.{Message}
use Rattle.timeline.specs.declared.notice.Waits.{Waits}
use Rattle.object_core.specs.Drops.{DropsOnly, IsOfEnded}
use Rattle.switch_history.specs.Answering.{AreInOrder}
use Rattle.switch_history.specs.Moments.{AreTicksInRange}
use Rattle.timeline.specs.Logs.{fronted}
use Rattle.host_core.proofs.AskedOnce.{are_asked_once}
use Rattle.host_core.proofs.Dropped.{ticks_read}
use Rattle.host_core.proofs.Drops.{are_drops_only}
use Rattle.host_core.proofs.Finished.{answered, in_order, settled}
use Rattle.host_core.proofs.SwitchLaws.{SwitchLaws}
use Rattle.host_core.proofs.Unknown.{dropped_none, unposted}
use Rattle.host_core.specs.Asked.{AreAskedOnce}
use Rattle.host_core.specs.Closing.{AreSettledUnless}
use Rattle.host_core.specs.Ends.{is_late, is_served, opening_end, serving_end}
use Rattle.host_core.specs.Finishing.{Finishes}
use Rattle.host_core.specs.Objects.{ObjectsTell, AreThere}
use Rattle.host_core.specs.Opening.{IsBad}
use Rattle.host_core.specs.Quiet.{AreCallsAnswered, AreLeftIn, AreLetGo, AreSettled, IsLetGo, IsSettledSlot, RowsTell, remaining_of}
use Rattle.host_core.specs.Reading.{Accepts, AcceptsAll, AcceptsAllRead}
use Rattle.host_core.specs.Report.{IsFinished, IsReport, PrintsLines, is_opening_end}
use Rattle.host_core.specs.Rows.{AreRows, IsRow}
use Rattle.switch_history.specs.Fit.{IsFitRun}
use Rattle.host_core.proofs.Complete.{are_unended, unended_none}
use Rattle.host_core.specs.Running.{HasServed, IsServing, PrintsUntil}
use Rattle.mailbox.specs.SoFar.{IsRunSoFar}
use Rattle.mailbox.specs.SoFar.IsRunSoFar.{at_end, whole}
use Rattle.host_core.specs.declared.opening.OpenEnd.{OpenEnd}
use Rattle.host_core.specs.declared.opening.OpenEnd.TheVariants as opening
use Rattle.host_core.specs.declared.objects.Objects.{Objects}
use Rattle.host_core.specs.declared.report.Report.{Report}
use Rattle.host_core.specs.declared.report.SlotReport.{SlotReport}
use Rattle.host_core.specs.declared.serving.Stop.{Stop}
use Rattle.host_core.specs.declared.serving.Stop.TheVariants as stops
use Rattle.host_core.specs.declared.settings.Bad.{Bad}
use Rattle.host_core.specs.declared.settings.ServeEnd.{ServeEnd}
use Rattle.host_core.specs.declared.settings.ServeEnd.TheVariants as ends

decided : (b : Bool) (P : Type 0) → (b ≡ true → P) → (b ≡ false → P) → P
decided true P sure other = sure refl
decided false P sure other = other refl

pub true_is_not : true ≡ false → ⊥
true_is_not e = cc

-- ---- how a run ends

abbrev so_ends : Result (Unit {0}) Stop → ServeEnd
so_ends r = serving_end r

-- What serving the lines came to: the run ends so where it was stopped, and where all was served, if nothing fails behind it.
pub record EndsBy (served : Result (Unit {0}) Stop) (end : ServeEnd) : Type 0 where
  pub stopped : is_served (so_ends served) ≡ false → end ≡ so_ends served
  pub finished : is_served (so_ends served) ≡ true → is_served end ≡ true → end ≡ so_ends served

ends_so : (served : Result (Unit {0}) Stop) (end : ServeEnd) → EndsBy served end → is_served end ≡ true → end ≡ so_ends served
ends_so served end by is = decided (is_served (so_ends served)) (end ≡ so_ends served) (λ sure. by.finished sure is) by.stopped

pub all_served : (served : Result (Unit {0}) Stop) (P : Type 0) → is_served (so_ends served) ≡ true → OnOk served P → (served ≡ Err stops.ReadFailed → P) → P
all_served (Ok tt) P is p q = p
all_served (Err stops.ReadFailed) P is p q = q refl
all_served (Err stops.WriteFailed) P is p q = absurd (true_is_not (sym is))
all_served (Err stops.NoMemory) P is p q = absurd (true_is_not (sym is))

was_finished : (served : Result (Unit {0}) Stop) → so_ends served ≡ ends.Finished → served ≡ Ok tt
was_finished (Ok tt) is = refl
was_finished (Err stops.ReadFailed) is = cc
was_finished (Err stops.WriteFailed) is = cc
was_finished (Err stops.NoMemory) is = cc

was_read : (served : Result (Unit {0}) Stop) → so_ends served ≡ ends.ReadFailed → served ≡ Err stops.ReadFailed
was_read (Ok tt) is = cc
was_read (Err stops.ReadFailed) is = refl
was_read (Err stops.WriteFailed) is = cc
was_read (Err stops.NoMemory) is = cc

pub finished_is : (served : Result (Unit {0}) Stop) (end : ServeEnd) → EndsBy served end → end ≡ ends.Finished → served ≡ Ok tt
finished_is served end by is = was_finished served (sym (ends_so served end by (ap is_served is)) ∙ is)

pub read_is : (served : Result (Unit {0}) Stop) (end : ServeEnd) → EndsBy served end → end ≡ ends.ReadFailed → served ≡ Err stops.ReadFailed
read_is served end by is = was_read served (sym (ends_so served end by (ap is_served is)) ∙ is)

-- ---- the log

-- The posts and the routed messages of a log are another's.
pub record SamePosts (log later : SwitchLog) : Type 0 where
  pub accepted : later.accepted ≡ log.accepted
  pub routed : later.routed ≡ log.routed
  pub posts : later.posts ≡ log.posts

none_posted : (posts : List (ℕ × Event)) → IsPrefix posts [] → posts ≡ []
none_posted [] first = refl
none_posted (p ∷ posts) first = cc

pub same_begun : (log later : SwitchLog) (s : timeline.Switch) (left : List (ℕ × Caller × Waits)) → Begins log later (finished_by s left) → SamePosts log later
same_begun log later s left begun = record {
  accepted = begun.accepted;
  routed = begun.routed;
  posts = begun.posts.more ∙ ap (λ (posts : List (ℕ × Event)). log.posts ++ posts) (none_posted begun.posts.since begun.posts.first) ∙ append-nil log.posts;
}

pub same_log : (log later : SwitchLog) → later ≡ log → SamePosts log later
same_log log later same = record {
  accepted = ap (λ (l : SwitchLog). l.accepted) same;
  routed = ap (λ (l : SwitchLog). l.routed) same;
  posts = ap (λ (l : SwitchLog). l.posts) same;
}

-- Rows that fit the one fit the other.
pub rows_same : {S : Type 0} (moment_of : S → ℕ) (left_since : S → ℕ → List ℕ → Type 0) (told : S → Option (List ℕ)) (faults_of : S → ℕ) (limit : ℕ) (script : Script)
    (contents : ℕ → Option (List ℕ)) (named : Slots) (log later : SwitchLog) (rows : List (SlotReport S)) → SamePosts log later
    → AreRows moment_of left_since told faults_of limit script contents named log rows → AreRows moment_of left_since told faults_of limit script contents named later rows
rows_same moment_of left_since told faults_of limit script contents named log later rows same are slot row is =
    subst (λ (routed : List (ℕ × Message)). IsRow moment_of left_since told faults_of limit script (contents slot) (object_at named slot) (of_slot slot later.posts) (of_slot slot routed) row) (sym same.routed)
    (subst (λ (posts : List (ℕ × Event)). IsRow moment_of left_since told faults_of limit script (contents slot) (object_at named slot) (of_slot slot posts) (of_slot slot log.routed) row) (sym same.posts)
    (are slot row is))

-- What is let go goes by the routed messages alone.
pub let_go_same : {S : Type 0} (told : S → Option (List ℕ)) (script : Script) (named : Slots) (log later : SwitchLog) (rows : List (SlotReport S)) → SamePosts log later
    → AreLetGo told script named log rows → AreLetGo told script named later rows
let_go_same told script named log later rows same are slot row is =
    subst (λ (routed : List (ℕ × Message)). IsLetGo told script (object_at named slot) (of_slot slot routed) row) (sym same.routed) (are slot row is)

-- So does what is settled by the posts and the routed messages.
pub settled_same : {S : Type 0} (told : S → Option (List ℕ)) (limit : ℕ) (script : Script) (contents : ℕ → Option (List ℕ)) (named : Slots) (log later : SwitchLog)
    (left : List (ℕ × Caller × Waits)) (rows : List (SlotReport S)) → SamePosts log later
    → AreSettled told limit script contents named log left rows → AreSettled told limit script contents named later left rows
settled_same told limit script contents named log later left rows same are tell slot row is =
    subst (λ (routed : List (ℕ × Message)). IsSettledSlot limit script (contents slot) (object_at named slot) (of_slot slot later.posts) (of_slot slot routed) (remaining_of slot left) row) (sym same.routed)
    (subst (λ (posts : List (ℕ × Event)). IsSettledSlot limit script (contents slot) (object_at named slot) (of_slot slot posts) (of_slot slot log.routed) (remaining_of slot left) row) (sym same.posts)
    (are tell slot row is))

pub there_same : (slots : ℕ) (log later : SwitchLog) → SamePosts log later → AreThere slots log → AreThere slots later
there_same slots log later same there = subst (λ (routed : List (ℕ × Message)). All (λ (sent : ℕ × Message). sent.0 < slots) routed) (sym same.routed) there

-- ---- what is written

none_mapped : (lines : List OutLine) → map seen_out lines ≡ [] → lines ≡ []
none_mapped [] is = refl
none_mapped (l ∷ lines) is = cc

pub no_lines : {W : Type 0} (switch : Switch W) → log_of switch ≡ no_log → lines_of switch ≡ []
no_lines switch log = none_mapped (lines_of switch) (ap (λ (l : SwitchLog). l.lines) log)

-- ---- a run that ends

-- What came behind the lines: nothing where they were stopped, else the lines of what is left.
pub record Ended {W : Type 0} (taken : W → Option (List ℕ)) (faults : W → ℕ) (mid new : Switch W) (served : Result (Unit {0}) Stop) (left : List (ℕ × Caller × Waits))
    (end : ServeEnd) : Type 0 where
  pub stops : is_served (so_ends served) ≡ false → (end ≡ so_ends served) × (new ≡ mid)
  pub finishes : is_served (so_ends served) ≡ true → Finishes taken faults mid new left (so_ends served) end

not_bad : (bad : Bad) → is_late (ends.BadSlot bad) → ⊥
not_bad bad late = late

either_write : (end : ServeEnd) (P : Type 0) → (end ≡ ends.WriteFailed → P) → (end ≢ ends.WriteFailed → P) → P
either_write ends.Finished P sure other = other (λ e. cc)
either_write ends.OpenFailed P sure other = other (λ e. cc)
either_write (ends.BadSlot bad) P sure other = other (λ e. cc)
either_write ends.ReadFailed P sure other = other (λ e. cc)
either_write ends.WriteFailed P sure other = sure refl
either_write ends.NoMemory P sure other = other (λ e. cc)

was_write : (served : Result (Unit {0}) Stop) → so_ends served ≡ ends.WriteFailed → served ≡ Err stops.WriteFailed
was_write (Ok tt) is = cc
was_write (Err stops.ReadFailed) is = cc
was_write (Err stops.WriteFailed) is = refl
was_write (Err stops.NoMemory) is = cc

served_unwritten : (served : Result (Unit {0}) Stop) → is_served (so_ends served) ≡ true → served ≡ Err stops.WriteFailed → ⊥
served_unwritten served sure is = true_is_not (sym sure ∙ ap (λ (r : Result (Unit {0}) Stop). is_served (so_ends r)) is)

module _ {W : Type 0} (taken : W → Option (List ℕ)) (faults : W → ℕ) (old mid new : Switch W) (served : Result (Unit {0}) Stop) (left : List (ℕ × Caller × Waits)) (end : ServeEnd)
    (ended : Ended taken faults mid new served left end) where
  pub ends_by : EndsBy served end
  ends_by = record { stopped = λ other. (ended.stops other).0; finished = λ sure is. ((ended.finishes sure).whole is).0 }

  pub same_posts : SamePosts (log_of mid) (log_of new)
  same_posts = decided (is_served (so_ends served)) (SamePosts (log_of mid) (log_of new))
      (λ sure. same_begun (log_of mid) (log_of new) (state_of mid) left (ended.finishes sure).begun)
      (λ other. same_log (log_of mid) (log_of new) (ap (λ (s : Switch W). log_of s) (ended.stops other).1))

  module _ (until : PrintsUntil taken faults old mid served) where
    all_written : end ≢ ends.WriteFailed → Writes (taken (out_of old)) (taken (out_of new)) (lines_of old) (lines_of new)
    all_written unwritten = decided (is_served (so_ends served)) (Writes (taken (out_of old)) (taken (out_of new)) (lines_of old) (lines_of new))
        (λ sure. writes_then (taken (out_of old)) (taken (out_of mid)) (taken (out_of new)) (lines_of old) (lines_of mid) (lines_of new)
        (until.written (served_unwritten served sure)) ((ended.finishes sure).written unwritten))
        (λ other. subst (λ (s : Switch W). Writes (taken (out_of old)) (taken (out_of s)) (lines_of old) (lines_of s)) (sym (ended.stops other).1)
        (until.written (λ failed. unwritten ((ended.stops other).0 ∙ ap so_ends failed))))

    some_written : end ≡ ends.WriteFailed → WritesInPart (taken (out_of old)) (taken (out_of new)) (lines_of old) (lines_of new)
    some_written failed = decided (is_served (so_ends served)) (WritesInPart (taken (out_of old)) (taken (out_of new)) (lines_of old) (lines_of new))
        (λ sure. part_then (taken (out_of old)) (taken (out_of mid)) (taken (out_of new)) (lines_of old) (lines_of mid) (lines_of new)
        (until.written (served_unwritten served sure)) ((ended.finishes sure).part failed))
        (λ other. subst (λ (s : Switch W). WritesInPart (taken (out_of old)) (taken (out_of s)) (lines_of old) (lines_of s)) (sym (ended.stops other).1)
        (until.part (was_write served (sym (ended.stops other).0 ∙ failed))))

    -- All lines are since.
    of_since : (since lines : List OutLine) → lines_of old ≡ [] → lines ≡ lines_of new → lines_of new ≡ lines_of old ++ since → since ≡ lines
    of_since since lines none same logged = ap (λ (ls : List OutLine). ls ++ since) (sym none) ∙ sym logged ∙ sym same

    pub prints_lines : {S : Type 0} (report : Report S) → lines_of old ≡ [] → report.switch.lines.items ≡ lines_of new
        → PrintsLines (taken (out_of old)) (taken (out_of new)) end report
    prints_lines report none lines = record {
      whole = λ unwritten. let all = all_written unwritten in
          all.written ∙ ap (λ (ls : List OutLine). option_map (λ (t : List ℕ). t ++ text_of ls) (taken (out_of old))) (of_since all.since report.switch.lines.items none lines all.logged);
      front = either_write end _
          (λ failed. let some = some_written failed in let same = of_since some.since report.switch.lines.items none lines some.logged in (
            some.count,
            subst (λ (ls : List OutLine). some.count ≤ length (text_of ls)) same some.within,
            some.written ∙ ap (λ (ls : List OutLine). option_map (λ (t : List ℕ). t ++ take some.count (text_of ls)) (taken (out_of old))) same,
          ))
          (λ unwritten. let all = all_written unwritten in let ls = report.switch.lines.items in (
            length (text_of ls),
            omega arith,
            all.written ∙ ap (λ (l : List OutLine). option_map (λ (t : List ℕ). t ++ text_of l) (taken (out_of old))) (of_since all.since report.switch.lines.items none lines all.logged)
                ∙ ap (λ (x : List ℕ). option_map (λ (t : List ℕ). t ++ x) (taken (out_of old))) (sym (take_all (length (text_of ls)) (text_of ls) (omega arith))),
          ));
    }

    pub write_rose : end ≡ ends.WriteFailed → Rose (faults (out_of old)) (faults (out_of new))
    write_rose failed = decided (is_served (so_ends served)) (Rose (faults (out_of old)) (faults (out_of new)))
        (λ sure. subst (λ (n : ℕ). Rose n (faults (out_of new))) (until.steady (served_unwritten served sure)) ((ended.finishes sure).failed failed))
        (λ other. subst (λ (s : Switch W). Rose (faults (out_of old)) (faults (out_of s))) (sym (ended.stops other).1) (until.failed (was_write served (sym (ended.stops other).0 ∙ failed))))

    pub write_steady : end ≢ ends.WriteFailed → faults (out_of new) ≡ faults (out_of old)
    write_steady unwritten = decided (is_served (so_ends served)) (faults (out_of new) ≡ faults (out_of old))
        (λ sure. (ended.finishes sure).steady unwritten ∙ until.steady (served_unwritten served sure))
        (λ other. ap (λ (s : Switch W). faults (out_of s)) (ended.stops other).1 ∙ until.steady (λ failed. unwritten ((ended.stops other).0 ∙ ap so_ends failed)))

  module _ {D : Type 0} (moment_of : D → ℕ) (left_since : D → ℕ → List ℕ → Type 0) (told : D → Option (List ℕ)) (image : D → List ℕ → Type 0) (faults_of : D → ℕ)
      (limit : ℕ) (script : Script) (contents : ℕ → Option (List ℕ)) (named : Slots) (objects : Objects D) (report : Report D) where
    pub reports : HasServed moment_of left_since told image faults_of limit script contents named mid objects
        → (is_served (so_ends served) ≡ true → IsServing moment_of left_since told image faults_of limit script contents named mid objects)
        → (is_served (so_ends served) ≡ true → AreLetGo told script named (log_of mid) report.slots.items)
        → (is_served (so_ends served) ≡ true → is_served end ≡ true → AreSettledUnless told limit script contents named (log_of mid) left report.slots.items)
        → (is_served (so_ends served) ≡ true → is_served end ≡ true → AreLeftIn (length report.slots.items) left)
        → (is_served (so_ends served) ≡ true → AreInOrder (log_of mid).accepted)
        → (is_served (so_ends served) ≡ true → RowsTell told report.slots.items → ObjectsTell told objects)
        → seen_log report.switch ≡ log_of new
        → AreRows moment_of left_since told faults_of limit script contents named (log_of mid) report.slots.items
        → length report.slots.items ≡ length named → IsOneEach named → is_late end → SwitchLaws
        → IsReport moment_of left_since told faults_of limit script contents (length named) end report
    reports has serving quiet unless left_in order tells log rows count one_each late laws =
        let are : AreRows moment_of left_since told faults_of limit script contents named (seen_log report.switch) report.slots.items =
        subst (λ (l : SwitchLog). AreRows moment_of left_since told faults_of limit script contents named l report.slots.items) (sym log)
        (rows_same moment_of left_since told faults_of limit script contents named (log_of mid) (log_of new) report.slots.items same_posts rows) in
        let so_far : IsRunSoFar script (opened named) (seen_log report.switch) =
        subst (λ (l : SwitchLog). IsRunSoFar script (opened named) l) (sym log) (decided (is_served (so_ends served)) (IsRunSoFar script (opened named) (log_of new))
        (λ sure. at_end (log_of mid) (state_of mid) left (serving sure).run (ended.finishes sure).begun)
        (λ other. subst (λ (s : Switch W). IsRunSoFar script (opened named) (log_of s)) (sym (ended.stops other).1) has.run)) in
        let mid_there : AreThere (length report.slots.items) (log_of mid) = subst (λ (n : ℕ). AreThere n (log_of mid)) (sym count) has.there in
        let in_rows : AreThere (length report.slots.items) (seen_log report.switch) =
        subst (λ (l : SwitchLog). AreThere (length report.slots.items) l) (sym log) (there_same (length report.slots.items) (log_of mid) (log_of new) same_posts mid_there) in
        let asked : AreAskedOnce told (seen_log report.switch) report.slots.items =
        are_asked_once moment_of left_since told faults_of limit script contents named (seen_log report.switch) report.slots.items are in_rows laws.few so_far in
        record {
          named = named;
          objects = record { many = refl; one_each = one_each; within = omega (arith, count) };
          rows = are;
          switched = record {
            run = so_far;
            there = in_rows;
            drops = are_drops_only moment_of left_since told faults_of limit script contents named report.switch report.slots.items laws.fit laws.moments so_far are asked.posted
                (λ tell slot unknown. unposted moment_of left_since told faults_of limit script contents named (seen_log report.switch) report.slots.items are in_rows
                laws.few laws.alone so_far slot unknown tell);
            asked = asked;
            unended = are_unended moment_of left_since told faults_of limit laws.ends script contents named (seen_log report.switch) report.slots.items are so_far in_rows;
          };
          finished = λ is. decided (is_served (so_ends served)) (IsFinished told limit script contents named (seen_log report.switch) report.slots.items)
              (λ sure.
              let run : IsSwitchRun script (opened named) (log_of mid) (state_of mid) = (serving sure).run in
              let ticks : AreTicksInRange (log_of mid).accepted =
              subst AreTicksInRange (ap (λ (l : SwitchLog). l.accepted) log ∙ same_posts.accepted) (ticks_read report.switch.accepted.items) in
              let fits : RowsTell told report.slots.items → IsFitRun script (opened named) (log_of mid) (state_of mid) = λ tell. (serving sure).fit (tells sure tell) in
              let logged : seen_log report.switch ≡ gave (log_of mid) (finished_by (state_of mid) left) = log ∙ ((ended.finishes sure).whole is).1 in
              record {
                before = log_of mid;
                after = state_of mid;
                run = run;
                left = left;
                finished = logged;
                settled = subst (λ (l : SwitchLog). AreSettled told limit script contents named l left report.slots.items) (sym log)
                    (settled_same told limit script contents named (log_of mid) (log_of new) left report.slots.items same_posts
                    (settled moment_of left_since told faults_of limit script contents named (log_of mid) (state_of mid) report.slots.items left laws run rows mid_there count
                    (left_in sure is) (order sure) ticks fits (unless sure is)));
                left_in = left_in sure is;
                calls = in_order moment_of left_since told faults_of limit script contents named (log_of mid) (state_of mid) report.slots.items left laws run rows mid_there count
                    (left_in sure is) (order sure) ticks fits (unless sure is);
                once = subst (λ (l : SwitchLog). AreCallsAnswered told (log_of mid) l (state_of mid) left report.slots.items) (sym logged)
                    (answered moment_of left_since told faults_of limit script contents named (log_of mid) (state_of mid) report.slots.items left laws run rows mid_there count
                    (left_in sure is) (order sure) ticks fits (unless sure is));
              })
              (λ other. absurd (true_is_not (sym is ∙ ap is_served (ended.stops other).0 ∙ other)));
          quiet = λ is. decided (is_served (so_ends served)) (AreLetGo told script named (seen_log report.switch) report.slots.items)
              (λ sure. subst (λ (l : SwitchLog). AreLetGo told script named l report.slots.items) (sym log)
              (let_go_same told script named (log_of mid) (log_of new) report.slots.items same_posts (quiet sure)))
              (λ other. absurd (true_is_not (sym is ∙ ap is_served (ended.stops other).0 ∙ other)));
          bad = λ bad is. absurd (not_bad bad (subst is_late is late));
        }

-- ---- a run that ends before it serves

-- Nothing was accepted of a source that wasn't read.
pub accepts_nothing : (input : Option (List ℕ)) → IfTold input (λ (bytes : List ℕ). Accepts bytes input [] 0)
accepts_nothing input bytes is = let on = goes_from bytes input is in record {
  first = has_given_now bytes [] 0 [] input on;
  most = 0;
  looked_at = looked_none bytes [] 0 0 input refl refl is;
}

no_log_in : {S : Type 0} (report : Report S) → seen_log report.switch ≡ no_log → report.switch.lines.items ≡ []
no_log_in report log = none_mapped report.switch.lines.items (ap (λ (l : SwitchLog). l.lines) log)

as_before : (taken : Option (List ℕ)) → taken ≡ option_map (λ (t : List ℕ). t ++ []) taken
as_before None = refl
as_before (Some t) = ap Some (sym (append-nil t))

no_text : (lines : List OutLine) → lines ≡ [] → text_of lines ≡ []
no_text lines is = ap text_of is

pub prints_nothing : {S : Type 0} (taken : Option (List ℕ)) (end : ServeEnd) (report : Report S) → seen_log report.switch ≡ no_log → PrintsLines taken taken end report
prints_nothing taken end report log =
    let none = no_text report.switch.lines.items (no_log_in report log) in
    record {
      whole = λ _. as_before taken ∙ ap (λ (x : List ℕ). option_map (λ (t : List ℕ). t ++ x) taken) (sym none);
      front = (0, omega arith, as_before taken);
    }

abbrev none_of : (X : Type 0) → ℕ → Option X
none_of X slot = slice_get [] slot

-- No list without items has one there.
pub none_there : {X : Type 0} (slot : ℕ) (x : X) (P : Type 0) → none_of X slot ≡ Some x → P
none_there slot x P is = cc

never_served : (end : OpenEnd) → is_served (opening_end end) ≡ false
never_served opening.Failed = refl
never_served (opening.BadSlot bad) = refl
never_served opening.NoMemory = refl

pub was_bad : (end : OpenEnd) (bad : Bad) → opening_end end ≡ ends.BadSlot bad → end ≡ opening.BadSlot bad
was_bad opening.Failed bad is = cc
was_bad (opening.BadSlot other) bad is = cc
was_bad opening.NoMemory bad is = cc

nothing_named : (slots a : ℕ) (object : List ℕ × List ℕ) → object_at (replicate slots None) a ≡ Some object → ⊥
nothing_named zero a object is = cc
nothing_named (suc slots) zero object is = cc
nothing_named (suc slots) (suc a) object is = nothing_named slots a object is

-- Nothing was routed or posted.
asked_none : {S : Type 0} (told : S → Option (List ℕ)) (log : SwitchLog) (rows : List (SlotReport S)) → log ≡ no_log → AreAskedOnce told log rows
unfolding IsDistinct
asked_none told log rows none = subst (λ (l : SwitchLog). AreAskedOnce told l rows) (sym none) (record {
  routed = λ slot row is is_told asked. omega arith;
  posted = λ tell slot. tt;
})

-- No slot was mounted, for want of memory.
pub reports_none : {S : Type 0} (moment_of : S → ℕ) (left_since : S → ℕ → List ℕ → Type 0) (told : S → Option (List ℕ)) (faults_of : S → ℕ) (limit : ℕ) (script : Script)
    (contents : ℕ → Option (List ℕ)) (slots : ℕ) (report : Report S) → report.slots.items ≡ [] → seen_log report.switch ≡ no_log
    → IsReport moment_of left_since told faults_of limit script contents slots ends.NoMemory report
reports_none moment_of left_since told faults_of limit script contents slots report none log = record {
  named = replicate slots None;
  objects = record {
    many = length-replicate slots None;
    one_each = λ a b object is other. absurd (nothing_named slots a object is);
    within = omega (arith, ap length none);
  };
  rows = λ slot row is. none_there slot row _ (subst (λ (rows : List (SlotReport _)). slice_get rows slot ≡ Some row) none is);
  switched = record {
    run = subst (λ (l : SwitchLog). IsRunSoFar script (opened (replicate slots None)) l) (sym log) (whole (opened (replicate slots None)) begins);
    there = subst (λ (l : SwitchLog). AreThere (length report.slots.items) l) (sym log) (All-nil (λ (sent : ℕ × Message). sent.0 < length report.slots.items));
    drops = record {
      each = λ slot row is has is_told. none_there slot row _ (subst (λ (rows : List (SlotReport _)). slice_get rows slot ≡ Some row) none is);
      answers = λ tell slot row is. none_there slot row _ (subst (λ (rows : List (SlotReport _)). slice_get rows slot ≡ Some row) none is);
      unposted = λ tell slot unknown. ap (λ (l : SwitchLog). of_slot slot l.posts) log;
    };
    asked = asked_none told (seen_log report.switch) report.slots.items log;
    unended = unended_none told faults_of (seen_log report.switch) report.slots.items (ap (λ (l : SwitchLog). l.lines) log);
  };
  finished = λ is. cc;
  quiet = λ is. cc;
  bad = λ bad is. cc;
}

-- Opening stopped behind the slots of these rows.
pub reports_opened : {S : Type 0} (moment_of : S → ℕ) (left_since : S → ℕ → List ℕ → Type 0) (told : S → Option (List ℕ)) (faults_of : S → ℕ) (limit : ℕ) (script : Script)
    (contents : ℕ → Option (List ℕ)) (named : Slots) (slots : ℕ) (end : OpenEnd) (report : Report S) → seen_log report.switch ≡ no_log
    → AreRows moment_of left_since told faults_of limit script contents named no_log report.slots.items → length named ≡ slots → IsOneEach named → length report.slots.items < slots
    → ((bad : Bad) → end ≡ opening.BadSlot bad → IsBad contents named (length report.slots.items) bad)
    → IsReport moment_of left_since told faults_of limit script contents slots (opening_end end) report
reports_opened moment_of left_since told faults_of limit script contents named slots end report log rows many one_each few bad = record {
  named = named;
  objects = record { many = many; one_each = one_each; within = omega (arith, few) };
  rows = subst (λ (l : SwitchLog). AreRows moment_of left_since told faults_of limit script contents named l report.slots.items) (sym log) rows;
  switched = record {
    run = subst (λ (l : SwitchLog). IsRunSoFar script (opened named) l) (sym log) (whole (opened named) begins);
    there = subst (λ (l : SwitchLog). AreThere (length report.slots.items) l) (sym log) (All-nil (λ (sent : ℕ × Message). sent.0 < length report.slots.items));
    drops = record {
      each = λ slot row is has is_told.
          subst (λ (l : SwitchLog). DropsOnly (of_slot slot l.posts) (fronted row.front) row.back.downs.items) (sym log) (((rows slot row is).answered is_told).drops tt);
      answers = λ tell slot row is.
          subst (λ (es : List Event). All (IsOfEnded (fronted row.front)) es) (sym (dropped_none [] row (rows slot row is).served refl)) (All-nil (IsOfEnded (fronted row.front)));
      unposted = λ tell slot unknown. ap (λ (l : SwitchLog). of_slot slot l.posts) log;
    };
    asked = asked_none told (seen_log report.switch) report.slots.items log;
    unended = unended_none told faults_of (seen_log report.switch) report.slots.items (ap (λ (l : SwitchLog). l.lines) log);
  };
  finished = λ is. absurd (true_is_not (sym is ∙ never_served end));
  quiet = λ is. absurd (true_is_not (sym is ∙ never_served end));
  bad = λ why is. bad why (was_bad end why is);
}

-- The same lines, by another account.
pub accepts_later : (bytes : List ℕ) (left after : Option (List ℕ)) (accepted later : List Line) (count counted : ℕ) → after ≡ left → later ≡ accepted → counted ≡ count
    → Accepts bytes left accepted count → Accepts bytes after later counted
accepts_later bytes left after accepted later count counted same_left same_lines same_count accepts =
    subst (λ (l : Option (List ℕ)). Accepts bytes l later counted) (sym same_left)
    (subst (λ (ls : List Line). Accepts bytes left ls counted) (sym same_lines)
    (subst (λ (n : ℕ). Accepts bytes left accepted n) (sym same_count) accepts))

pub all_later : (bytes : List ℕ) (accepted later : List Line) (count counted : ℕ) → later ≡ accepted → counted ≡ count → AcceptsAll bytes accepted count → AcceptsAll bytes later counted
all_later bytes accepted later count counted same_lines same_count all =
    subst (λ (ls : List Line). AcceptsAll bytes ls counted) (sym same_lines) (subst (λ (n : ℕ). AcceptsAll bytes accepted n) (sym same_count) all)

pub read_later : (bytes : List ℕ) (left after : Option (List ℕ)) (accepted later : List Line) (count counted : ℕ) → after ≡ left → later ≡ accepted → counted ≡ count
    → AcceptsAllRead bytes left accepted count → AcceptsAllRead bytes after later counted
read_later bytes left after accepted later count counted same_left same_lines same_count all =
    subst (λ (l : Option (List ℕ)). AcceptsAllRead bytes l later counted) (sym same_left)
    (subst (λ (ls : List Line). AcceptsAllRead bytes left ls counted) (sym same_lines) (subst (λ (n : ℕ). AcceptsAllRead bytes left accepted n) (sym same_count) all))

abbrev fails_with : (T : Type 0) {E : Type 0} → E → Result T E
fails_with T e = Err e

err_same : {T E : Type 0} (f e : E) → fails_with T f ≡ fails_with T e → f ≡ e
err_same f e is = cc

-- How a run ends whose opening stopped.
pub is_early : (end : OpenEnd) → is_opening_end (opening_end end)
is_early opening.Failed = tt
is_early (opening.BadSlot bad) = tt
is_early opening.NoMemory = tt

pub not_served : (end : OpenEnd) (other : ServeEnd) → is_served other ≡ true → opening_end end ≡ other → ⊥
not_served end other served is = true_is_not (sym served ∙ sym (ap is_served is) ∙ never_served end)

pub not_written : (end : OpenEnd) → opening_end end ≡ ends.WriteFailed → ⊥
not_written opening.Failed is = cc
not_written (opening.BadSlot bad) is = cc
not_written opening.NoMemory is = cc

pub was_failed : (end : OpenEnd) → opening_end end ≡ ends.OpenFailed → end ≡ opening.Failed
was_failed opening.Failed is = refl
was_failed (opening.BadSlot bad) is = cc
was_failed opening.NoMemory is = cc

pub if_fault : {T E : Type 0} (result : Result T E) (e : E) (P : E → Type 0) → result ≡ Err e → IfErr result P → P e
if_fault (Ok x) e P is p = cc
if_fault (Err f) e P is p = subst P (err_same f e is) p

pub less_is_not : {a b : ℕ} → a < b → a ≡ b → ⊥
less_is_not less same = omega (arith, less, same)
