-- What a release does to a back that serves.
use Rattle.std.proofs.Common.{◌≡◌, ◌∙◌, ap, sym, refl, subst, inl, inr, ⊎_elim, ℕ, suc, ◌+◌, ◌≤◌, List, [], ◌∷◌, ◌++◌, append-nil, length, map, arith, Option, vec_len}
use Rattle.std.proofs.Common.{Global}
use Rattle.std.specs.Prelude.{◌⊎◌, Bool, true, false, ◌||◌}
use Rattle.std.specs.declared.collections.VecDeque.{VecDeque}
use Rattle.batch_journal.specs.declared.journal.Journal.{Journal}
use Rattle.timeline.specs.declared.back_log.BackLog.{BackLog}
use Rattle.output_gate.specs.Fits.{last_of}
use Rattle.output_gate.proofs.Reading.{failed_behind, reading_stays, unread_rest}
use Rattle.output_gate.proofs.Unmounted.{or_true}
use Rattle.std.specs.Vec.{vec_capacity}
use Rattle.batch_journal.specs.Moments.{IsTold}
use Rattle.batch_journal.specs.Rest.{disk_in}
use Rattle.storage_map.specs.Limits.{Object}
use Rattle.storage_map.specs.declared.op.Op.{Op}
use Rattle.timeline.specs.History.{History, line, batches_in as batches_taken}
use Rattle.timeline.specs.Logs.{Fronted, Backed, backed}
use Rattle.timeline.specs.Passed.{Passed}
use Rattle.timeline.specs.declared.back_log.Release.{Release}
use Rattle.output_gate.specs.Ended.{IsLogged}
use Rattle.output_gate.specs.Gate.{Place, place_of, history_at, Lists, IsGate}
use Rattle.output_gate.specs.Held.{passed_by, passed_of, waiting_in, is_held_halt, has_failed_read, has_halt, unread_in, HaltsLast}
use Rattle.output_gate.specs.Kept.{RecoversToPrefix}
use Rattle.output_gate.specs.Releasing.{release_at}
use Rattle.output_gate.specs.Serving.{HasRoom, IsSafe, IsServing, IsMounted, marks_of}
use Rattle.output_gate.specs.Standing.{AreLogs, own_entries}
use Rattle.output_gate.specs.declared.back.Back.{Back}
use Rattle.output_gate.specs.declared.held.Held.{Held}
use Rattle.output_gate.specs.declared.held.HeldBody.{HeldBody}
use Rattle.output_gate.specs.declared.held.HeldBody.TheVariants.{Message, Sync, Halt}
use Rattle.output_gate.proofs.Gates.{releases}
use Rattle.output_gate.proofs.Counts.{counts_stay}
use Rattle.output_gate.proofs.Endings.{logged_same}
use Rattle.output_gate.proofs.Kept.{first_of}
use Rattle.batch_journal.proofs.Marking.{recovers_journal}
use Rattle.output_gate.proofs.Resting.{rests}
use Rattle.output_gate.proofs.Places.{released_place}

-- what is held is a message or isn't
pub one_or_none : (b : HeldBody) (needs since : ℕ) → (passed_by b needs since ≡ []) ⊎ ((q : Passed) × (passed_by b needs since ≡ q ∷ []) × (q.needs ≡ needs))
one_or_none (Message sent) needs since = inr (record { message = sent; needs = needs; since = since }, refl, refl)
one_or_none (Sync number) needs since = inl refl
one_or_none (Halt cause) needs since = inl refl

module _ {D : Type 0} (moment_of : D → ℕ) (left_since : D → ℕ → List ℕ → Type 0) (object : Option Object) (start : List (List Op)) (opening : ℕ) (front : Fronted) (p : Place) (l : Lists) (before durable : ℕ) where
  pub lets_go : (disk : D) (ps rest : List Passed) (needs : ℕ) → IsGate moment_of left_since object start opening front p disk l before durable
      → l.waiting ≡ ps ++ rest → needs ≤ durable → (ps ≡ []) ⊎ ((q : Passed) × (ps ≡ q ∷ []) × (q.needs ≡ needs))
      → ((c : List ℕ) → left_since disk (moment_of disk) c → RecoversToPrefix object start (line (history_at front p)) durable c)
      → IsGate moment_of left_since object start opening front p disk (record l { released = l.released ++ map (release_at (moment_of disk)) ps; left = l.left ++ ps; waiting = rest }) before durable
  lets_go disk ps rest needs g waits ready (inl none) holds =
      subst (λ (x : List Release × List Passed × List Passed). IsGate moment_of left_since object start opening front p disk (record l { released = x.0; left = x.1; waiting = x.2 }) before durable)
      (ap (λ ws. (l.released, l.left, ws)) (waits ∙ ap (λ qs. qs ++ rest) none) ∙ ap (λ ls. (l.released, ls, rest)) (sym (append-nil l.left)) ∙ ap (λ (rs : List Release). (rs, l.left ++ [], rest)) (sym (append-nil l.released))
      ∙ ap (λ (qs : List Passed). (l.released ++ map (release_at (moment_of disk)) qs, l.left ++ qs, rest)) (sym none)) g
  lets_go disk ps rest needs g waits ready (inr one) holds =
      subst (λ (qs : List Passed). IsGate moment_of left_since object start opening front p disk (record l { released = l.released ++ map (release_at (moment_of disk)) qs; left = l.left ++ qs; waiting = rest }) before durable)
      (sym one.1)
      (releases moment_of left_since object start opening front p l before durable disk one.0 rest (release_at (moment_of disk) one.0) g (waits ∙ ap (λ qs. qs ++ rest) one.1) (omega (arith, ready, one.2)) refl holds)

-- the log with what is released
abbrev pub LogReleased : BackLog → BackLog → List Release → Type 0
LogReleased old new all = backed new ≡ record (backed old) { released = all }

pub released_room : {D : Type 0} (old : Back D) (log : BackLog) (held : VecDeque Held Global) (all : List Release) → HasRoom old → LogReleased old.log log all
    → log.flights ≡ old.log.flights → log.stops ≡ old.log.stops → HasRoom (record old { held = held; log = log })
released_room old log held all room is flights stops = record {
  logs = subst AreLogs (sym is) (record { flown = room.logs.flown; begun = room.logs.begun; ends = room.logs.ends });
  flights = λ other. subst (λ fs. vec_len fs + 1 ≤ vec_capacity fs) (sym flights) (room.flights other);
  stops = λ other. subst (λ ss. vec_len ss + 1 ≤ vec_capacity ss) (sym stops) (room.stops other);
  number = room.number ∙ ap (λ (b : Backed). suc (length b.stops)) (sym is);
  own = room.own ∙ ap (λ (b : Backed). length (batches_taken (own_entries b))) (sym is);
  few = subst (λ (b : Backed). old.before ≤ length b.taken) (sym is) room.few;
  own_few = subst (λ (b : Backed). old.own ≤ length b.taken) (sym is) room.own_few;
  followed = ap (λ (b : Backed). length b.ends) is ∙ room.followed ∙ ap (λ (b : Backed). length b.stops) (sym is);
}

pub halt_rest : (h : Held) (rest : List Held) → has_halt rest ≡ true → has_halt (h ∷ rest) ≡ true
halt_rest h rest has = ap (λ (b : Bool). is_held_halt h.body || b) has ∙ or_true (is_held_halt h.body)

module _ {D : Type 0} (told : D → Option (List ℕ)) (image : D → List ℕ → Type 0) (sound : Bool) where
  safe_release : (old : Back D) (log : BackLog) (held : VecDeque Held Global) (h : Held) (journal : Journal D) (all : List Release) → IsSafe told image sound journal old → is_held_halt h.body ≡ false
      → old.held.items ≡ h ∷ held.items → LogReleased old.log log all → log.flights ≡ old.log.flights → log.stops ≡ old.log.stops
      → IsSafe told image sound journal (record old { held = held; log = log })
  safe_release old log held h journal all s none first is flights stops = record {
    store = s.store;
    mode = s.mode;
    room = released_room old log held all s.room is flights stops;
    frames = s.frames;
    staged = s.staged;
    at_rest = s.at_rest;
    named = s.named;
    unflown = s.unflown;
    own = s.own;
    unflushed = s.unflushed;
    staged_for = s.staged_for;
    nameless = s.nameless;
    halts = (subst (HaltsLast old.before) first s.halts).1;
    halted = λ has. let e = s.halted (ap has_halt first ∙ halt_rest h held.items has) in (
      e.0,
      ap (λ (b : Backed). last_of b.taken) is ∙ e.1,
      e.2,
      ⊎_elim (λ halts. inl (failed_behind h held.items none ∙ sym (ap has_failed_read first) ∙ halts.0, halts.1)) (λ by. inr (failed_behind h held.items none ∙ sym (ap has_failed_read first) ∙ by.0, by.1)) e.3,
    );
    stored = s.stored;
  }

module _ {D : Type 0} (moment_of : D → ℕ) (left_since : D → ℕ → List ℕ → Type 0) (told : D → Option (List ℕ)) (image : D → List ℕ → Type 0) (faults_of : D → ℕ)
    (only_now : (disk : D) (c : List ℕ) → left_since disk (moment_of disk) c → image disk c) (start : List (List Op)) (opening : ℕ) (sound : Bool) where
  -- a crash now leaves all that is durable
  now_holds : (journal : Journal D) (back : Back D) (s : IsServing moment_of left_since told image start opening sound journal back) (front : Fronted) (c : List ℕ) → left_since (disk_in journal) (moment_of (disk_in journal)) c
      → RecoversToPrefix back.identity start (line (history_at front (place_of front (backed back.log)))) back.durable c
  now_holds journal back s front c now =
      let g = s.gate front in
      let h : History = history_at front (place_of front (backed back.log)) in
      subst (λ (both : List (List Op) × ℕ). RecoversToPrefix back.identity start both.0 both.1 c) (ap (λ bs. (bs, length s.flown)) (sym g.line) ∙ ap (λ n. (line h, n)) g.long)
      (first_of back.identity start s.flown s.staged s.frames c (recovers_journal c s.frames (rests told image journal s.frames s.at_rest c (only_now (disk_in journal) c now))) s.named s.batches)

  serves_release : (old : Back D) (log : BackLog) (held : VecDeque Held Global) (h : Held) (journal : Journal D) → IsServing moment_of left_since told image start opening sound journal old
      → old.held.items ≡ h ∷ held.items → h.needs ≤ old.durable
      → LogReleased old.log log (old.log.released.items ++ map (release_at (moment_of (disk_in journal))) (passed_of h)) → log.flights ≡ old.log.flights → log.stops ≡ old.log.stops
      → IsServing moment_of left_since told image start opening sound journal (record old { held = held; log = log })
  serves_release old log held h journal s first ready is flights stops =
      let all : List Release = old.log.released.items ++ map (release_at (moment_of (disk_in journal))) (passed_of h) in
      let released : log.released.items ≡ all = ap (λ (b : Backed). b.released) is in
      record {
        room = released_room old log held all s.room is flights stops;
        frames = s.frames;
        left = s.left ++ passed_of h;
        flown = s.flown;
        staged = s.staged;
        gate = λ front.
            let p : Place = place_of front (backed old.log) in
            let l : Lists = record { released = old.log.released.items; left = s.left; waiting = waiting_in old.held.items; flown = s.flown; staged = s.staged } in
            subst (λ (x : Place × List Release). IsGate moment_of left_since old.identity start opening front x.0 (disk_in journal) (record l { released = x.1; left = s.left ++ passed_of h; waiting = waiting_in held.items }) old.before old.durable)
            (ap (λ (q : Place). (q, all)) (sym (ap (place_of front) is ∙ released_place front (backed old.log) all))
            ∙ ap (λ (rs : List Release). (place_of front (backed log), rs)) (sym released))
            (lets_go moment_of left_since old.identity start opening front p l old.before old.durable (disk_in journal) (passed_of h) (waiting_in held.items) h.needs (s.gate front) (ap waiting_in first) ready
            (one_or_none h.body h.needs h.since) (now_holds journal old s front));
        at_rest = s.at_rest;
        named = s.named;
        batches = s.batches;
        unflown = s.unflown;
        unflushed = s.unflushed;
        staged_for = s.staged_for;
        nameless = s.nameless;
        stored = s.stored;
        kept = s.kept;
      }

  pub mounted_release : (old : Back D) (log : BackLog) (held : VecDeque Held Global) (h : Held) (m : IsMounted moment_of left_since told image faults_of start opening sound old)
      → is_held_halt h.body ≡ false → old.held.items ≡ h ∷ held.items → h.needs ≤ old.durable
      → LogReleased old.log log (old.log.released.items ++ map (release_at (moment_of (disk_in m.journal))) (passed_of h)) → log.flights ≡ old.log.flights → log.stops ≡ old.log.stops
      → IsMounted moment_of left_since told image faults_of start opening sound (record old { held = held; log = log })
  mounted_release old log held h m none first ready is flights stops = record {
    journal = m.journal;
    safe = safe_release told image sound old log held h m.journal (old.log.released.items ++ map (release_at (moment_of (disk_in m.journal))) (passed_of h)) m.safe none first is flights stops;
    serves = λ tells. serves_release old log held h m.journal (m.serves tells) first ready is flights stops;
    logged =
        let all : List Release = old.log.released.items ++ map (release_at (moment_of (disk_in m.journal))) (passed_of h) in
        let tells : Type 0 = IsTold (told (disk_in m.journal)) in
        subst (λ (b : Backed). IsLogged tells b (marks_of old) old.own old.before old.durable) (sym is)
        (logged_same tells tells (λ yes. yes) (backed old.log) (marks_of old) old.own old.before old.durable (record (backed old.log) { released = all }) refl refl refl
        (λ front. released_place front (backed old.log) all) m.logged);
    counts = counts_stay told faults_of (disk_in m.journal) (disk_in m.journal) (backed old.log) (backed log) refl (ap (λ (b : Backed). b.stops) is) (ap (λ (b : Backed). b.downs) is) m.counts;
    reads = reading_stays (IsTold (told (disk_in m.journal))) (IsTold (told (disk_in m.journal))) (λ yes. yes) (faults_of (disk_in m.journal)) (faults_of (disk_in m.journal)) (omega arith) old
        (record old { held = held; log = log }) (ap (λ (b : Backed). b.stops) is) (ap (λ (b : Backed). b.downs) is) (unread_rest h held.items none ∙ sym (ap unread_in first)) m.reads;
  }
