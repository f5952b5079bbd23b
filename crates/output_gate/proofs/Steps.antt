-- What a flush does to a back, whatever its disk tells.
use Rattle.std.proofs.Common.{◌≡◌, ◌≢◌, ◌∙◌, ap, sym, refl, subst, inl, inr, ℕ, suc, ◌+◌, ◌-◌, ◌<◌, ◌≤◌, List, [], ◌∷◌, ◌++◌, length, arith, Option, Some, None, Ok, Err}
use Rattle.std.proofs.lemmas.List.{length_push}
use Rattle.std.proofs.lemmas.List.Elements.{All-push}
use Rattle.std.specs.Prelude.{true, false, Bool, is_some, nat_lt}
use Rattle.batch_journal.specs.Frames.{Frame, Name, NamesAs}
use Rattle.batch_journal.specs.Moments.{TellsAsBefore, IsTold}
use Rattle.batch_journal.proofs.Journals.{length-journal_push}
use Rattle.batch_journal.specs.Rest.{IsAtRest, IsStaged, CanAppend, disk_in, end_of}
use Rattle.batch_journal.specs.Staged.{frame_of}
use Rattle.batch_journal.specs.declared.journal.Journal.{Journal}
use Rattle.storage_cache.specs.Cached.{Cached}
use Rattle.storage_map.specs.Limits.{Object}
use Rattle.storage_map.specs.declared.op.Op.{Op}
use Rattle.timeline.specs.History.{batches_in as batches_taken, entries_of}
use Rattle.output_gate.specs.Fits.{last_of}
use Rattle.timeline.specs.Logs.{Backed, backed}
use Rattle.timeline.specs.Passed.{discards}
use Rattle.timeline.specs.declared.back_log.Stop.{Stop}
use Rattle.timeline.specs.declared.back_log.BackLog.{BackLog}
use Rattle.timeline.specs.declared.caller.Cause.{Cause}
use Rattle.timeline.specs.declared.caller.Cause.TheVariants as cause
use Rattle.output_gate.specs.Counted.{stop_counts, AreCounted}
use Rattle.output_gate.specs.Ended.{IsLogged, IsLoggedDown, late_if}
use Rattle.output_gate.specs.Flushing.{GetsFrame}
use Rattle.object_storage.specs.Stored.{HasStored}
use Rattle.output_gate.specs.Held.{has_halt, unread_in}
use Rattle.output_gate.specs.Serving.{HasRoom, IsSafe, IsMounted, IsSafeEnded, IsUnmounted, IsBackAs, Lands, CanLand, Stops, CanStop, ending_of, marks_of, stop_of}
use Rattle.output_gate.specs.Standing.{AreLogs, own_entries}
use Rattle.output_gate.specs.Storing.{Appends, IsCauseOf, IsDiskOf, Stores}
use Rattle.output_gate.specs.declared.back.Back.{Back}
use Rattle.output_gate.specs.declared.back.Ending.{Ending}
use Rattle.output_gate.specs.declared.back.Mode.{Mode}
use Rattle.output_gate.specs.declared.back.Mode.TheVariants.{Wanted}
use Rattle.output_gate.specs.declared.store.Fault.{Fault}
use Rattle.output_gate.specs.declared.store.Store.{Store}
use Rattle.output_gate.specs.declared.store.Store.TheVariants as store
use Rattle.output_gate.proofs.Counts.{counts_same, counts_fell, counts_ended}
use Rattle.output_gate.proofs.Endings.{logged_flew, logged_stopped}
use Rattle.output_gate.proofs.Flushes.{be_same, front_none, may_be, name_all, lands, ends, stopped}
use Rattle.output_gate.proofs.Helds.{true_false, none_stays}
use Rattle.output_gate.proofs.Histories.{flies_fit, stops_fit, all_below}
use Rattle.output_gate.proofs.Reading.{reading_stays}
use Rattle.output_gate.proofs.Stored.{same_journal}

-- a disk that tells its content now told it before
abbrev given_bytes : Option (List ℕ) → List ℕ → List ℕ
given_bytes None other = other
given_bytes (Some bytes) other = bytes

told_if : (old : Option (List ℕ)) → is_some old ≡ true → IsTold old
told_if (Some bytes) is = (bytes, refl)
told_if None is = absurd (true_false (sym is))

pub told_before : (old new : Option (List ℕ)) → TellsAsBefore old new → IsTold new → IsTold old
told_before old new same tells = told_if old (sym same ∙ ap is_some tells.1)

pub longer : {X : Type 0} (durable before : ℕ) (xs : List X) → before ≡ durable + length xs → before ≢ durable → durable < before
longer durable before [] is other = absurd (other (omega (arith, is)))
longer durable before (x ∷ xs) is other = omega (arith, is)

-- what the log shows behind an append that was good, and behind one that wasn't
logged_lands : {D : Type 0} (tells later_tells : Type 0) → (later_tells → tells) → (old new : Back D) (later : Journal D) (cache : Cached) → AreLogs (backed old.log) → old.durable ≤ old.before
    → Lands (record old { store = store.Journal later; cache = cache }) new → IsLogged tells (backed old.log) (marks_of old) old.own old.before old.durable
    → IsLogged later_tells (backed new.log) (marks_of new) new.own new.before new.durable
logged_lands {D} tells later_tells before_it old new later cache logs less done l =
    let at : backed new.log ≡ record (backed old.log) { flights = old.log.flights.items ++ (old.before - old.durable) ∷ [] } =
    ap backed done.log ∙ ap (λ (fs : List ℕ). record (backed old.log) { flights = fs }) done.flights in
    subst (λ (x : Back D). IsLogged later_tells (backed x.log) (marks_of x) x.own x.before x.durable) (sym done.same)
    (subst (λ (b : Backed). IsLogged later_tells b (marks_of old) old.own old.before old.before) (sym at)
    (logged_flew tells later_tells before_it (backed old.log) (marks_of old) old.own old.before old.durable logs less l))

logged_ends : {D : Type 0} (tells later_tells : Type 0) → (later_tells → tells) → (old new : Back D) (later : Journal D) (cache : Cached) (fault : Fault) → HasRoom old → old.durable < old.before
    → old.before ≤ old.durable + old.own → discards fault.cause false ≡ true → Stops (record old { store = store.Journal later; cache = cache }) new fault
    → IsLogged tells (backed old.log) (marks_of old) old.own old.before old.durable
    → IsLoggedDown later_tells (backed new.log) (ending_of old fault) (marks_of new) new.durable
logged_ends {D} tells later_tells before_it old new later cache fault room more some drops done l =
    let stop : Stop = stop_of old fault.cause in
    let at : backed new.log ≡ record (backed old.log) { stops = old.log.stops.items ++ stop ∷ [] } =
    ap backed done.log ∙ ap (λ (ss : List Stop). record (backed old.log) { stops = ss }) done.stops in
    subst (λ (x : Back D). IsLoggedDown later_tells (backed x.log) (ending_of old fault) (marks_of x) x.durable) (sym done.same)
    (subst (λ (b : Backed). IsLoggedDown later_tells b (ending_of old fault) (record { settled = old.durable; late = late_if (nat_lt old.durable old.needs) old.needs; needs = old.durable }) old.durable) (sym at)
    (logged_stopped tells later_tells before_it (backed old.log) (marks_of old) old.own old.before old.durable stop (ending_of old fault) room.logs refl room.followed room.own more some refl refl drops refl refl refl l))

-- the counts behind an append that wasn't good
counts_by : {D : Type 0} (faults_of : D → ℕ) (journal later : Journal D) (tells later_tells : Type 0) → (later_tells → tells) → (back next : Backed) (stop : Stop)
    → AreCounted tells back (faults_of (disk_in journal)) → next.stops ≡ back.stops ++ stop ∷ [] → next.downs ≡ back.downs → (c : Cause) → stop.cause ≡ c → IsCauseOf faults_of journal later c
    → faults_of (disk_in journal) ≤ faults_of (disk_in later) → AreCounted later_tells next (faults_of (disk_in later))
counts_by faults_of journal later tells later_tells before_it back next stop counted stops downs (cause.Disk before after) by is up =
    counts_fell tells later_tells before_it back (faults_of (disk_in journal)) (faults_of (disk_in later)) counted next stop before after stops downs by is.0 is.1 up is.2
counts_by faults_of journal later tells later_tells before_it back next stop counted stops downs (cause.Full needed limit) by is up =
    counts_ended tells later_tells before_it back (faults_of (disk_in journal)) (faults_of (disk_in later)) counted next stop stops downs (ap stop_counts by) up
counts_by faults_of journal later tells later_tells before_it back next stop counted stops downs cause.Exceeded by is up = absurd is
counts_by faults_of journal later tells later_tells before_it back next stop counted stops downs cause.StartThrew by is up = absurd is
counts_by faults_of journal later tells later_tells before_it back next stop counted stops downs cause.BlockThrew by is up = absurd is

module _ {D : Type 0} (told : D → Option (List ℕ)) (image : D → List ℕ → Type 0) (sound : Bool) where
  safe_staged : (journal : Journal D) (back : Back D) (s : IsSafe told image sound journal back) → back.before ≢ back.durable → s.staged ≢ []
  safe_staged journal back s more none = more (omega (arith, s.unflown, ap length none))

  object_if : (journal : Journal D) (back : Back D) (s : IsSafe told image sound journal back) → s.staged ≢ [] → (o : Option Object) → back.identity ≡ o → (object : Object) × (back.identity ≡ Some object)
  object_if journal back s some None is = absurd (some (s.nameless is).0)
  object_if journal back s some (Some object) is = (object, is)

  pub safe_object : (journal : Journal D) (back : Back D) (s : IsSafe told image sound journal back) → back.before ≢ back.durable → (object : Object) × (back.identity ≡ Some object)
  safe_object journal back s more = object_if journal back s (safe_staged journal back s more) back.identity refl

  -- the frame of a good append stands at the journal's end
  pub gets_frame : (old new : Back D) (journal after : Journal D) → IsSafe told image sound journal old → new.store ≡ store.Journal after
      → ((frames : List Frame) (object : Object) (batches : List (List Op)) → IsAtRest told image journal frames → IsStaged journal object batches → Name object frames
      → IsAtRest told image after (frames ++ frame_of object batches ∷ []))
      → GetsFrame old new
  gets_frame old new journal after s into appended one later from is object batches named staged =
      let first : one ≡ journal = same_journal one journal (sym from ∙ s.store) in
      let last : later ≡ after = same_journal later after (sym is ∙ into) in
      let rest = appended s.frames object batches s.at_rest (subst (λ (j : Journal D). IsStaged j object batches) first staged)
      (name_all object s.frames old.identity named s.named) in
      omega (arith, ap end_of last, ap end_of first, rest.end, s.at_rest.end, length-journal_push s.frames (frame_of object batches))

  -- something is staged for the journal
  pub can_append : (journal : Journal D) (back : Back D) → IsSafe told image sound journal back → back.before ≢ back.durable → CanAppend told image journal
  can_append journal back s more =
      let o = safe_object journal back s more in
      (s.frames, o.0, s.staged, s.at_rest, s.staged_for o.0 o.1, safe_staged journal back s more, name_all o.0 s.frames back.identity o.1 s.named)

  pub can_land : (journal : Journal D) (back : Back D) (after : Store D) (cache : Cached) → IsSafe told image sound journal back → back.before ≢ back.durable → CanLand (record back { store = after; cache = cache })
  can_land journal back after cache s more = record { more = omega (arith, s.unflown); flights = s.room.flights more }

  pub can_stop : (journal : Journal D) (back : Back D) (after : Store D) (cache : Cached) → IsSafe told image sound journal back → back.before ≢ back.durable → CanStop (record back { store = after; cache = cache })
  can_stop journal back after cache s more = record { more = omega (arith, s.unflown); own = omega (arith, s.unflown, s.own); stops = s.room.stops more; number = s.room.number }

  safe_lands : (old new : Back D) (journal later : Journal D) (cache : Cached) (s : IsSafe told image sound journal old) → old.before ≢ old.durable
      → ((frames : List Frame) (object : Object) (batches : List (List Op)) → IsAtRest told image journal frames → IsStaged journal object batches → Name object frames
      → IsAtRest told image later (frames ++ frame_of object batches ∷ []))
      → ((object : Object) → IsStaged later object [])
      → Stores {A = Unit {0}} told image journal old.cache cache (Ok tt) → Lands (record old { store = store.Journal later; cache = cache }) new → IsSafe told image sound later new
  safe_lands old new journal later cache s more appended unstaged stores done =
      let o = safe_object journal old s more in
      let k : ℕ = old.before - old.durable in
      let logs : backed new.log ≡ record (backed old.log) { flights = old.log.flights.items ++ k ∷ [] } =
      ap backed done.log ∙ ap (λ (fs : List ℕ). record (backed old.log) { flights = fs }) done.flights in
      let made : IsSafe told image sound later (record old { store = store.Journal later; cache = cache; log = new.log; durable = old.before; unflushed = 0 }) = record {
        store = refl;
        mode = s.mode;
        room = record {
          logs = subst AreLogs (sym logs) (flies_fit front_none (backed old.log) k s.room.logs);
          flights = λ other. absurd (other refl);
          stops = λ other. absurd (other refl);
          number = s.room.number ∙ ap (λ (b : Backed). suc (length b.stops)) (sym logs);
          own = s.room.own ∙ ap (λ (b : Backed). length (batches_taken (own_entries b))) (sym logs);
          few = subst (λ (b : Backed). old.before ≤ length b.taken) (sym logs) s.room.few;
          own_few = subst (λ (b : Backed). old.own ≤ length b.taken) (sym logs) s.room.own_few;
          followed = ap (λ (b : Backed). length b.ends) logs ∙ s.room.followed ∙ ap (λ (b : Backed). length b.stops) (sym logs);
        };
        frames = s.frames ++ frame_of o.0 s.staged ∷ [];
        staged = [];
        at_rest = appended s.frames o.0 s.staged s.at_rest (s.staged_for o.0 o.1) (name_all o.0 s.frames old.identity o.1 s.named);
        named = All-push (NamesAs old.identity) s.frames (frame_of o.0 s.staged) s.named o.1;
        unflown = omega arith;
        own = omega arith;
        unflushed = refl;
        staged_for = λ other is. unstaged other;
        nameless = λ is. (refl, unstaged);
        halts = s.halts;
        halted = λ yes. let h = s.halted yes in (h.0, ap (λ (b : Backed). last_of b.taken) logs ∙ h.1, h.2, h.3);
        stored = λ yes.
            let st = s.stored yes in
            let names = name_all o.0 s.frames old.identity o.1 s.named in (
              st.0,
              λ other may. subst (λ (x : Object). HasStored (s.frames ++ frame_of o.0 s.staged ∷ []) x [] cache st.0) (be_same old.identity o.0 other o.1 may)
                  (stores.stored s.frames o.0 s.staged st.0 s.at_rest (s.staged_for o.0 o.1) names (st.1 o.0 (may_be old.identity o.0 o.1))),
            );
      } in
      subst (IsSafe told image sound later) (sym done.same) made

  safe_ends : (old new : Back D) (journal later : Journal D) (cache : Cached) (fault : Fault) (s : IsSafe told image sound journal old) → old.before ≢ old.durable
      → Stops (record old { store = store.Journal later; cache = cache }) new fault → IsSafeEnded (disk_in later) (ending_of old fault) new
  safe_ends old new journal later cache fault s more done =
      let b : Backed = backed old.log in
      let stop : Stop = stop_of old fault.cause in
      let after : Backed = record b { stops = b.stops ++ stop ∷ [] } in
      let logs : backed new.log ≡ after = ap backed done.log ∙ ap (λ (ss : List Stop). record b { stops = ss }) done.stops in
      let none : own_entries after ≡ [] = ap (λ (n : ℕ). entries_of (suc n) b.taken) (length_push b.stops stop) ∙ all_below front_none b (suc (length b.stops + 1)) s.room.logs (omega arith) in
      let made : IsSafeEnded (disk_in later) (ending_of old fault) (stopped old later cache new fault) = record {
        store = refl;
        mode = inl refl;
        logs = subst AreLogs (sym logs) (stops_fit front_none b stop s.room.logs refl);
        number = omega (arith, s.room.number, ap (λ (x : Backed). length x.stops) logs, length_push old.log.stops.items stop);
        gone = omega (arith, ap (λ (x : Backed). length x.stops) logs, length_push old.log.stops.items stop, ap (λ (x : Backed). length x.ends) logs, s.room.followed);
        even = refl;
        own = sym (ap (λ (x : Backed). length (batches_taken (own_entries x))) logs ∙ ap (λ es. length (batches_taken es)) none);
        none = refl;
        unflushed = refl;
        more = omega arith;
        few = omega (arith, s.unflown, s.own, s.room.few, ap (λ (x : Backed). length x.taken) logs);
        halts = ap has_halt done.held ∙ none_stays old.durable old.number fault.cause old.before old.held.items s.halts (longer old.durable old.before s.staged s.unflown more);
      } in
      subst (IsSafeEnded (disk_in later) (ending_of old fault)) (sym done.same) made

module _ {D : Type 0} (moment_of : D → ℕ) (left_since : D → ℕ → List ℕ → Type 0) (told : D → Option (List ℕ)) (image : D → List ℕ → Type 0) (faults_of : D → ℕ)
    (counts_now : (disk : D) (t : ℕ) (c : List ℕ) → t ≤ moment_of disk → image disk c → left_since disk t c) (start : List (List Op)) (opening : ℕ) (sound : Bool) where
  pub mounted_lands : (old new : Back D) (after : Store D) (cache : Cached) (m : IsMounted moment_of left_since told image faults_of start opening sound old) → old.before ≢ old.durable
      → Appends moment_of left_since told image faults_of m.journal after (Ok tt) → Stores {A = Unit {0}} told image m.journal old.cache cache (Ok tt) → Lands (record old { store = after; cache = cache }) new → IsMounted moment_of left_since told image faults_of start opening sound new
  mounted_lands old new after cache m more a stores done =
      let lands_now : Lands (record old { store = store.Journal a.new; cache = cache }) new = subst (λ (x : Store D). Lands (record old { store = x; cache = cache }) new) a.is done in
      record {
        journal = a.new;
        safe = safe_lands told image sound old new m.journal a.new cache m.safe more a.appended a.unstaged stores lands_now;
        serves = λ tells. lands moment_of left_since told image counts_now start opening sound old new m.journal a.new cache
            (m.serves (told_before (told (disk_in m.journal)) (told (disk_in a.new)) a.telling tells)) more a.appended a.unstaged a.any_moment stores lands_now;
        logged = logged_lands (IsTold (told (disk_in m.journal))) (IsTold (told (disk_in a.new))) (told_before (told (disk_in m.journal)) (told (disk_in a.new)) a.telling) old new a.new cache
            m.safe.room.logs (omega (arith, m.safe.unflown)) lands_now m.logged;
        counts = counts_same (IsTold (told (disk_in m.journal))) (IsTold (told (disk_in a.new))) (told_before (told (disk_in m.journal)) (told (disk_in a.new)) a.telling)
            (backed old.log) (faults_of (disk_in m.journal)) (faults_of (disk_in a.new)) m.counts (backed new.log)
            (ap (λ (log : BackLog). log.stops.items) lands_now.log) (ap (λ (log : BackLog). log.downs.items) lands_now.log) a.later;
        reads = reading_stays (IsTold (told (disk_in m.journal))) (IsTold (told (disk_in a.new))) (told_before (told (disk_in m.journal)) (told (disk_in a.new)) a.telling)
            (faults_of (disk_in m.journal)) (faults_of (disk_in a.new)) a.later old new (ap (λ (log : BackLog). log.stops.items) lands_now.log) (ap (λ (log : BackLog). log.downs.items) lands_now.log)
            (ap (λ (x : Back D). unread_in x.held.items) lands_now.same) m.reads;
      }

  pub mounted_ends : (old new : Back D) (after : Store D) (cache : Cached) (fault : Fault) (m : IsMounted moment_of left_since told image faults_of start opening sound old) → old.before ≢ old.durable
      → Appends moment_of left_since told image faults_of m.journal after (Err fault) → Stops (record old { store = after; cache = cache }) new fault → IsUnmounted moment_of left_since told image faults_of start opening new
  mounted_ends old new after cache fault m more a done =
      let ends_now : Stops (record old { store = store.Journal a.new; cache = cache }) new fault = subst (λ (x : Store D). Stops (record old { store = x; cache = cache }) new fault) a.is done in
      record {
        disk = disk_in a.new;
        ending = ending_of old fault;
        safe = safe_ends told image sound old new m.journal a.new cache fault m.safe more ends_now;
        ended = λ tells.
            let s = m.serves (told_before (told (disk_in m.journal)) (told (disk_in a.new)) a.telling tells) in
            ends moment_of left_since told image counts_now start opening sound old new m.journal a.new cache fault s more a.any_moment
            (λ n limit is. a.full_keeps n limit s.frames is s.at_rest) a.ended.discards a.ended.end ends_now;
        logged = logged_ends (IsTold (told (disk_in m.journal))) (IsTold (told (disk_in a.new))) (told_before (told (disk_in m.journal)) (told (disk_in a.new)) a.telling) old new a.new cache fault
            m.safe.room (longer old.durable old.before m.safe.staged m.safe.unflown more) (omega (arith, m.safe.unflown, m.safe.own)) a.ended.discards ends_now m.logged;
        counts = counts_by faults_of m.journal a.new (IsTold (told (disk_in m.journal))) (IsTold (told (disk_in a.new))) (told_before (told (disk_in m.journal)) (told (disk_in a.new)) a.telling)
            (backed old.log) (backed new.log) (stop_of old fault.cause) m.counts ends_now.stops (ap (λ (log : BackLog). log.downs.items) ends_now.log) fault.cause refl a.ended.cause a.later;
      }

abbrev pub ending_in : Mode → Ending → Ending
ending_in (Wanted ending) other = ending
ending_in mode other = other

-- the end that is kept for a mounting
pub end_kept : (mode : Mode) (one other : Ending) (n : ℕ) → mode ≡ Wanted one → mode ≡ Wanted other → one.end ≡ n → other.end ≡ n
end_kept mode one other n is also kept = ap (λ (m : Mode). (ending_in m one).end) (sym also ∙ is) ∙ kept

-- a store that has a disk
pub has_disk : {D : Type 0} (moment_of : D → ℕ) (left_since : D → ℕ → List ℕ → Type 0) (told : D → Option (List ℕ)) (image : D → List ℕ → Type 0) (faults_of : D → ℕ) (start : List (List Op)) (opening : ℕ) (sound : Bool)
    (back : Back D) → IsBackAs moment_of left_since told image faults_of start opening sound back → (disk : D) × IsDiskOf back.store disk
has_disk {D} moment_of left_since told image faults_of start opening sound back (inl m) = (disk_in m.journal, subst (λ (s : Store D). IsDiskOf s (disk_in m.journal)) (sym m.safe.store) refl)
has_disk moment_of left_since told image faults_of start opening sound back (inr u) = (u.disk, u.safe.store)

-- What has something to flush is mounted.
pub flushed_back : {D : Type 0} (moment_of : D → ℕ) (left_since : D → ℕ → List ℕ → Type 0) (told : D → Option (List ℕ)) (image : D → List ℕ → Type 0) (faults_of : D → ℕ) (start : List (List Op)) (opening : ℕ) (sound : Bool)
    (back : Back D) → back.before ≢ back.durable → IsBackAs moment_of left_since told image faults_of start opening sound back → IsMounted moment_of left_since told image faults_of start opening sound back
flushed_back moment_of left_since told image faults_of start opening sound back more (inl m) = m
flushed_back moment_of left_since told image faults_of start opening sound back more (inr u) = absurd (more u.safe.even)
