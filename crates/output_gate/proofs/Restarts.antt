-- The restart behind a halt.
use Rattle.std.proofs.Common.{◌≡◌, ◌∙◌, ap, sym, refl, subst, inl, inr, append-nil, ℕ, suc, ◌+◌, ◌≤◌, List, [], ◌∷◌, ◌++◌, length, sum, arith, Option, Some, Global}
use Rattle.std.proofs.lemmas.List.{length_push}
use Rattle.std.specs.Prelude.{Bool, true, false, ◌||◌, if◌then◌else◌}
use Rattle.std.specs.declared.collections.VecDeque.{VecDeque}
use Rattle.batch_journal.specs.Rest.{disk_in}
use Rattle.batch_journal.specs.declared.journal.Journal.{Journal}
use Rattle.storage_map.specs.declared.op.Op.{Op}
use Rattle.timeline.specs.History.{Incarnation, entries_of, batches_in as batches_taken}
use Rattle.timeline.specs.Logs.{Fronted, Backed, backed}
use Rattle.timeline.specs.Passed.{Passed, discards}
use Rattle.timeline.specs.declared.back_log.BackLog.{BackLog}
use Rattle.timeline.specs.declared.back_log.End.{End}
use Rattle.timeline.specs.declared.back_log.Release.{Release}
use Rattle.timeline.specs.declared.back_log.Stop.{Stop}
use Rattle.timeline.specs.declared.caller.Cause.{Cause}
use Rattle.timeline.specs.declared.caller.Cause.TheVariants as cause
use Rattle.timeline.specs.declared.entry.Entry.{Entry}
use Rattle.batch_journal.specs.Moments.{IsTold}
use Rattle.output_gate.specs.Down.{place_down}
use Rattle.output_gate.specs.Ended.{IsLogged}
use Rattle.output_gate.specs.Gate.{Place, place_of, Lists, IsGate}
use Rattle.output_gate.specs.Held.{passed_by, passed_of, waiting_in, ends_well, has_failed_read, is_failed_read, is_held_halt, has_halt, halts_well, is_read, unread_by, unread_in, HaltsLast}
use Rattle.output_gate.specs.Serving.{HaltsBy, HasRoom, IsSafe, IsServing, IsMounted, halt_of, marks_of}
use Rattle.output_gate.specs.Standing.{AreLogs, own_entries, own_flights, older_of, going_on}
use Rattle.output_gate.specs.declared.back.Back.{Back}
use Rattle.output_gate.specs.declared.held.Held.{Held}
use Rattle.output_gate.specs.declared.held.HeldBody.{HeldBody}
use Rattle.output_gate.specs.declared.held.HeldBody.TheVariants.{Halt}
use Rattle.output_gate.proofs.Flushes.{front_none}
use Rattle.output_gate.specs.Counted.{stop_counts, AreCounted}
use Rattle.output_gate.specs.Fits.{IsAsk, is_halt}
use Rattle.output_gate.proofs.Counts.{counts_ended, counts_unread}
use Rattle.output_gate.proofs.Reading.{counts_read, failed_one, read_discards, unread_counts, reading_none}
use Rattle.output_gate.proofs.Endings.{logged_restarted}
use Rattle.output_gate.proofs.Helds.{true_false}
use Rattle.output_gate.proofs.Histories.{all_below, stops_fit, follows_fits}
use Rattle.output_gate.proofs.Mountings.{place_followed}
use Rattle.output_gate.proofs.Places.{place_stopped}
use Rattle.output_gate.proofs.Unmounted.{restarts}

-- the back behind a halt
abbrev pub restarted : {D : Type 0} → Back D → BackLog → VecDeque Held Global → Back D
restarted old log held =
    record old { held = held; own = 0; needs = old.before; settled = old.before; late = Some old.needs; number = old.number + 1; log = log }

abbrev pub LogRestarts : {D : Type 0} → Back D → BackLog → Cause → Type 0
LogRestarts old log c = backed log ≡ record (backed old.log) { stops = old.log.stops.items ++ halt_of old c ∷ []; ends = old.log.ends.items ++ record { kept = old.own; cause = c } ∷ [] }

none_staged : {X : Type 0} (xs : List X) (n : ℕ) → n ≡ n + length xs → xs ≡ []
none_staged [] n is = refl
none_staged (x ∷ xs) n is = absurd (omega (arith, is))

halt_waits : (h : Held) (c : Cause) → h.body ≡ Halt c → passed_of h ≡ []
halt_waits h c is = ap (λ (b : HeldBody). passed_by b h.needs h.since) is

-- what is known of a halt that may go
pub record Halting {D : Type 0} (old : Back D) (held : VecDeque Held Global) (h : Held) (c : Cause) : Type 0 where
  pub first : old.held.items ≡ h ∷ held.items
  pub body : h.body ≡ Halt c
  pub ready : h.needs ≤ old.durable

last_halt : {D : Type 0} (old : Back D) (held : VecDeque Held Global) (h : Held) (c : Cause) → HaltsLast old.before old.held.items → Halting old held h c
    → (held.items ≡ []) × (h.needs ≡ old.before) × (ends_well c ≡ true)
last_halt old held h c last halting =
    let all = (subst (HaltsLast old.before) halting.first last).0 (ap is_held_halt halting.body) in
    (all.0, all.1, sym (ap halts_well halting.body) ∙ all.2)

-- the last entry is the halt, or messages that come late may not pass
by_halt : {D : Type 0} {old : Back D} (held : VecDeque Held Global) (h : Held) (c : Cause) → held.items ≡ [] → Halting old held h c → (e : Entry) → HaltsBy e old
    → discards c (is_read c) ≡ false → is_halt e.body ≡ true
by_halt held h c none halting e (inl halts) keeps = halts.1
by_halt held h c none halting e (inr by) keeps =
    absurd (true_false (sym (read_discards c (failed_one h c halting.body (sym (ap has_failed_read (halting.first ∙ ap (λ rest. h ∷ rest) none)) ∙ by.0))) ∙ keeps))

-- it is the ask, where a read failed
by_ask : {D : Type 0} {old : Back D} (held : VecDeque Held Global) (h : Held) (c : Cause) → held.items ≡ [] → Halting old held h c → (e : Entry) → HaltsBy e old
    → is_read c ≡ true → IsAsk e.body
by_ask held h c none halting e (inl halts) read =
    absurd (true_false (sym (ap (λ (b : HeldBody). is_failed_read b || has_failed_read []) halting.body ∙ ap (λ (b : Bool). b || false) read)
    ∙ sym (ap has_failed_read (halting.first ∙ ap (λ rest. h ∷ rest) none)) ∙ halts.0))
by_ask held h c none halting e (inr by) read = by.1

-- what isn't by a read has no counts
none_counted : (c : Cause) → is_read c ≡ false → stop_counts c ≡ []
none_counted (cause.Disk before after) is = absurd (true_false is)
none_counted (cause.Full needed limit) is = refl
none_counted cause.Exceeded is = refl
none_counted cause.StartThrew is = refl
none_counted cause.BlockThrew is = refl

-- where the log stands behind a halt
pub restart_place : (front : Fronted) (back : Backed) (stop : Stop) (own : ℕ) → AreLogs back → stop.flights ≡ length back.flights → length back.ends ≡ length back.stops
    → place_of front (record back { stops = back.stops ++ stop ∷ []; ends = back.ends ++ record { kept = own; cause = stop.cause } ∷ [] })
    ≡ record { ended = suc (length back.stops); taken = []; flights = []; older = record (going_on front (length back.stops) (own_entries back) (own_flights back)) { stop = Some stop; kept = Some own } ∷ older_of front back }
restart_place front back stop own logs all followed =
    let mid : Backed = record back { stops = back.stops ++ stop ∷ [] } in
    let n : ℕ = length back.stops in
    place_followed front mid (record { kept = own; cause = stop.cause }) (stops_fit front_none back stop logs all) n (omega (arith, length_push back.stops stop)) followed
    (suc n) [] (record (going_on front n (own_entries back) (own_flights back)) { stop = Some stop }) (older_of front back) (place_stopped front back stop logs all)

-- all batches are durable, whatever ended it
halt_durable : (read : Bool) (own flown : ℕ) → own ≡ flown → (if read then own else flown) ≡ flown
halt_durable true own flown is = is
halt_durable false own flown is = refl

module _ {D : Type 0} (told : D → Option (List ℕ)) (image : D → List ℕ → Type 0) (sound : Bool) where
  halt_room : (old : Back D) (log : BackLog) (held : VecDeque Held Global) (c : Cause) → HasRoom old → LogRestarts old log c → old.before ≡ old.durable → HasRoom (restarted old log held)
  halt_room old log held c room is even =
      let b : Backed = backed old.log in
      let stop : Stop = halt_of old c in
      let end : End = record { kept = old.own; cause = c } in
      let mid : Backed = record b { stops = b.stops ++ stop ∷ [] } in
      let n : ℕ = length old.log.stops.items in
      let stopped : length mid.stops ≡ suc n = omega (arith, length_push b.stops stop) in
      let fits : AreLogs (record mid { ends = b.ends ++ end ∷ [] }) = follows_fits front_none mid end (stops_fit front_none b stop room.logs refl) n stopped room.followed in
      let none : own_entries mid ≡ [] = ap (λ (m : ℕ). entries_of (suc m) b.taken) stopped ∙ all_below front_none b (suc (suc n)) room.logs (omega arith) in
      record {
        logs = subst AreLogs (sym is) fits;
        flights = λ other. absurd (other even);
        stops = λ other. absurd (other even);
        number = omega (arith, room.number, ap (λ (x : Backed). length x.stops) is, stopped);
        own = sym (ap (λ (x : Backed). length (batches_taken (own_entries x))) is ∙ ap (λ es. length (batches_taken es)) none);
        few = omega (arith, room.few, ap (λ (x : Backed). length x.taken) is);
        own_few = omega arith;
        followed = omega (arith, room.followed, ap (λ (x : Backed). length x.ends) is, length_push old.log.ends.items end, ap (λ (x : Backed). length x.stops) is, stopped);
      }

  safe_restart : (old : Back D) (log : BackLog) (held : VecDeque Held Global) (h : Held) (c : Cause) (journal : Journal D) → IsSafe told image sound journal old → Halting old held h c → LogRestarts old log c
      → IsSafe told image sound journal (restarted old log held)
  safe_restart old log held h c journal s halting is =
      let last = last_halt old held h c s.halts halting in
      let even : old.before ≡ old.durable = omega (arith, s.unflown, last.1, halting.ready) in
      record {
        store = s.store;
        mode = s.mode;
        room = halt_room old log held c s.room is even;
        frames = s.frames;
        staged = s.staged;
        at_rest = s.at_rest;
        named = s.named;
        unflown = s.unflown;
        own = omega (arith, s.unflown, even);
        unflushed = s.unflushed;
        staged_for = s.staged_for;
        nameless = s.nameless;
        halts = subst (HaltsLast old.before) (sym last.0) tt;
        halted = λ has. absurd (true_false (sym has ∙ ap has_halt last.0));
        stored = s.stored;
      }

module _ {D : Type 0} (moment_of : D → ℕ) (left_since : D → ℕ → List ℕ → Type 0) (told : D → Option (List ℕ)) (image : D → List ℕ → Type 0) (faults_of : D → ℕ) (start : List (List Op)) (opening : ℕ) (sound : Bool) where
  serves_restart : (old : Back D) (log : BackLog) (held : VecDeque Held Global) (h : Held) (c : Cause) (journal : Journal D) → IsSafe told image sound journal old
      → IsServing moment_of left_since told image start opening sound journal old → Halting old held h c → LogRestarts old log c
      → IsServing moment_of left_since told image start opening sound journal (restarted old log held)
  serves_restart old log held h c journal safe s halting is =
      let last = last_halt old held h c safe.halts halting in
      let even : old.before ≡ old.durable = omega (arith, safe.unflown, last.1, halting.ready) in
      let b : Backed = backed old.log in
      let stop : Stop = halt_of old c in
      let n : ℕ = length old.log.stops.items in
      let ended : Fronted → Incarnation = λ front. record (going_on front n (own_entries b) (own_flights b)) { stop = Some stop } in
      let place : (front : Fronted) → place_of front (backed log) ≡ record (place_down (suc n) [] (ended front) (older_of front b)) { older = record (ended front) { kept = Some old.own } ∷ older_of front b } =
      λ front. ap (place_of front) is ∙ restart_place front b stop old.own s.room.logs refl s.room.followed in
      let waits : waiting_in old.held.items ≡ [] =
      ap waiting_in halting.first ∙ ap (λ ps. ps ++ waiting_in held.items) (halt_waits h c halting.body) ∙ ap waiting_in last.0 in
      record {
        room = halt_room told image sound old log held c s.room is even;
        frames = s.frames;
        left = s.left;
        flown = s.flown;
        staged = s.staged;
        gate = λ front.
            let l : Lists = record { released = old.log.released.items; left = s.left; waiting = waiting_in old.held.items; flown = s.flown; staged = s.staged } in
            let g = s.gate front in
            subst (λ (x : Place × List Release × List Passed). IsGate moment_of left_since old.identity start opening front x.0 (disk_in journal)
            (record l { released = x.1; waiting = x.2 }) old.before old.durable)
            (ap (λ (k : ℕ). (record (place_down (suc n) [] (ended front) (older_of front b)) { older = record (ended front) { kept = Some k } ∷ older_of front b }, old.log.released.items, waiting_in old.held.items)) (sym s.room.own)
            ∙ ap (λ (p : Place). (p, old.log.released.items, waiting_in old.held.items)) (sym (place front))
            ∙ ap (λ (rs : List Release). (place_of front (backed log), rs, waiting_in old.held.items)) (sym (ap (λ (x : Backed). x.released) is))
            ∙ ap (λ (ws : List Passed). (place_of front (backed log), log.released.items, ws)) (waits ∙ sym (ap waiting_in last.0)))
            (subst (λ (k : ℕ). IsGate moment_of left_since old.identity start opening front
            (record { ended = suc n; taken = []; flights = []; older = record (ended front) { kept = Some (length (batches_taken (own_entries b))) } ∷ older_of front b }) (disk_in journal) l old.before k) even
            (restarts moment_of left_since old.identity start opening front (place_of front b) (disk_in journal) l old.before stop
            (subst (λ (k : ℕ). IsGate moment_of left_since old.identity start opening front (place_of front b) (disk_in journal) l old.before k) (sym even) g) waits s.room.own (halt_durable (is_read c) old.own (sum (own_flights b)) (omega (arith, s.room.own, g.counted, g.flown, even)))));
        at_rest = s.at_rest;
        named = s.named;
        batches = s.batches;
        unflown = s.unflown;
        unflushed = s.unflushed;
        staged_for = s.staged_for;
        nameless = s.nameless;
        stored = s.stored;
        kept = s.kept;
      }

  pub mounted_restart : (old : Back D) (log : BackLog) (held : VecDeque Held Global) (h : Held) (c : Cause) (m : IsMounted moment_of left_since told image faults_of start opening sound old)
      → Halting old held h c → LogRestarts old log c → IsMounted moment_of left_since told image faults_of start opening sound (restarted old log held)
  mounted_restart old log held h c m halting is = record {
    journal = m.journal;
    safe = safe_restart told image sound old log held h c m.journal m.safe halting is;
    serves = λ tells. serves_restart old log held h c m.journal m.safe (m.serves tells) halting is;
    logged =
        let s = m.safe in
        let last = last_halt old held h c s.halts halting in
        let e = s.halted (ap has_halt halting.first ∙ ap (λ (b : HeldBody). is_held_halt b || has_halt held.items) halting.body) in
        let tells : Type 0 = IsTold (told (disk_in m.journal)) in
        subst (λ (b : Backed). IsLogged tells b (marks_of (restarted old log held)) 0 old.before old.durable) (sym is)
        (logged_restarted tells tells (λ yes. yes) (backed old.log) (marks_of old) old.own old.before old.durable (halt_of old c) e.0 s.room.logs refl s.room.followed s.room.own
        (omega (arith, s.unflown, last.1, halting.ready)) refl refl last.2 e.1 (e.2 ∙ s.room.number) (by_halt held h c last.0 halting e.0 e.3) (by_ask held h c last.0 halting e.0 e.3)
        (λ front. restart_place front (backed old.log) (halt_of old c) old.own s.room.logs refl s.room.followed) m.logged);
    counts = counts_halt (is_read c) refl;
    reads =
        let last = last_halt old held h c m.safe.halts halting in
        reading_none (IsTold (told (disk_in m.journal))) (faults_of (disk_in m.journal)) (restarted old log held) (ap unread_in last.0);
  }
    where
      counts_halt : (read : Bool) → is_read c ≡ read → AreCounted (IsTold (told (disk_in m.journal))) (backed log) (faults_of (disk_in m.journal))
      counts_halt true reads =
          let last = last_halt old held h c m.safe.halts halting in
          let counts = counts_read c reads in
          let unread : unread_in old.held.items ≡ counts.0 ∷ [] =
          ap unread_in (halting.first ∙ ap (λ rest. h ∷ rest) last.0) ∙ append-nil (unread_by h.body) ∙ ap unread_by halting.body ∙ counts.1 in
          let u = m.reads counts.0 unread in
          counts_unread (IsTold (told (disk_in m.journal))) (IsTold (told (disk_in m.journal))) (λ yes. yes) (backed old.log) (faults_of (disk_in m.journal)) (faults_of (disk_in m.journal)) m.counts (backed log) (halt_of old c) counts.0
          (ap (λ (b : Backed). b.stops) is) (ap (λ (b : Backed). b.downs) is) (sym (unread_counts c) ∙ counts.1) u.rising u.rose
      counts_halt false reads =
          counts_ended (IsTold (told (disk_in m.journal))) (IsTold (told (disk_in m.journal))) (λ yes. yes) (backed old.log) (faults_of (disk_in m.journal)) (faults_of (disk_in m.journal)) m.counts (backed log) (halt_of old c)
          (ap (λ (b : Backed). b.stops) is) (ap (λ (b : Backed). b.downs) is) (none_counted c reads) (omega arith)
