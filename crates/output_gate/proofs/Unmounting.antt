-- What a release and a take do to a back whose newest incarnation isn't mounted; and the restart behind a halt.
use Rattle.std.proofs.Common.{◌≡◌, ◌∙◌, ap, sym, refl, subst, inl, inr, ℕ, suc, ◌-◌, ◌≤◌, List, [], ◌∷◌, ◌++◌, append-nil, length, length-append, map, arith, Option, Some, Global}
use Rattle.std.proofs.lemmas.List.{length_push}
use Rattle.std.specs.Prelude.{◌⊎◌, Bool, false}
use Rattle.std.specs.declared.collections.VecDeque.{VecDeque}
use Rattle.storage_map.specs.Limits.{Object}
use Rattle.storage_map.specs.declared.op.Op.{Op}
use Rattle.timeline.specs.History.{Incarnation, History, line, batches_in as batches_taken}
use Rattle.timeline.specs.Logs.{Fronted, Backed, backed}
use Rattle.timeline.specs.Passed.{Passed}
use Rattle.timeline.specs.Told.{said_by, batches_of}
use Rattle.timeline.specs.declared.back_log.BackLog.{BackLog}
use Rattle.timeline.specs.declared.back_log.Release.{Release}
use Rattle.timeline.specs.declared.entry.Body.TheVariants as body
use Rattle.timeline.specs.declared.entry.Entry.{Entry}
use Rattle.timeline.specs.declared.message.Message.{Message}
use Rattle.batch_journal.specs.Moments.{IsTold}
use Rattle.output_gate.specs.Down.{IsDown}
use Rattle.output_gate.specs.Ended.{IsLoggedDown}
use Rattle.output_gate.specs.Gate.{Place, place_of, Lists}
use Rattle.output_gate.specs.Held.{passed_of, waiting_in, is_held_halt, has_halt}
use Rattle.output_gate.specs.Kept.{RecoversToPrefix}
use Rattle.output_gate.specs.Passing.{AreMended}
use Rattle.output_gate.specs.Releasing.{release_at}
use Rattle.output_gate.specs.Serving.{IsEnded, IsUnmounted, IsAtEnd, marks_of}
use Rattle.output_gate.specs.Standing.{AreLogs, own_entries}
use Rattle.output_gate.specs.Taking.{LogTook}
use Rattle.output_gate.specs.declared.back.Back.{Back}
use Rattle.output_gate.specs.declared.back.Ending.{Ending}
use Rattle.output_gate.specs.declared.back.Mode.{Mode}
use Rattle.output_gate.specs.declared.back.Mode.TheVariants.{Wanted, Down}
use Rattle.output_gate.specs.declared.held.Held.{Held}
use Rattle.output_gate.proofs.Downs.{releases_down}
use Rattle.output_gate.proofs.Flushes.{front_none}
use Rattle.output_gate.proofs.Gates.{batches_more}
use Rattle.output_gate.proofs.Helds.{push_none, or_right}
use Rattle.output_gate.proofs.Histories.{takes_fit}
use Rattle.output_gate.proofs.Mends.{one_of_down}
use Rattle.output_gate.proofs.Mountings.{down_wanted}
use Rattle.output_gate.proofs.Counts.{counts_stay}
use Rattle.output_gate.proofs.Endings.{down_same, down_took}
use Rattle.output_gate.proofs.Places.{released_place}
use Rattle.output_gate.proofs.Releasings.{LogReleased, one_or_none}
use Rattle.output_gate.proofs.Takings.{took_place, waits_more}
use Rattle.output_gate.specs.declared.held.HeldBody.TheVariants as held_body
use Rattle.output_gate.proofs.Unmounted.{down_message, down_mend, are_mended}

none_behind : (h : Held) (rest : List Held) → has_halt (h ∷ rest) ≡ false → has_halt rest ≡ false
none_behind h rest none = or_right (is_held_halt h.body) (has_halt rest) none

module _ {D : Type 0} (moment_of : D → ℕ) (left_since : D → ℕ → List ℕ → Type 0) (object : Option Object) (start : List (List Op)) (opening : ℕ) (front : Fronted) where
  goes_down : (ended : ℕ) (taken : List Entry) (last : Incarnation) (rest : History) (disk : D) (l : Lists) (now : ℕ) (ps others : List Passed) (needs : ℕ)
      → IsDown moment_of left_since object start opening front ended taken last rest disk l now
      → l.waiting ≡ ps ++ others → needs ≤ now → (ps ≡ []) ⊎ ((q : Passed) × (ps ≡ q ∷ []) × (q.needs ≡ needs))
      → ((c : List ℕ) → left_since disk (moment_of disk) c → RecoversToPrefix object start (line (last ∷ rest)) now c)
      → IsDown moment_of left_since object start opening front ended taken last rest disk
      (record l { released = l.released ++ map (release_at (moment_of disk)) ps; left = l.left ++ ps; waiting = others }) now
  goes_down ended taken last rest disk l now ps others needs g waits ready (inl none) holds =
      subst (λ (x : List Release × List Passed × List Passed). IsDown moment_of left_since object start opening front ended taken last rest disk (record l { released = x.0; left = x.1; waiting = x.2 }) now)
      (ap (λ ws. (l.released, l.left, ws)) (waits ∙ ap (λ qs. qs ++ others) none) ∙ ap (λ ls. (l.released, ls, others)) (sym (append-nil l.left)) ∙ ap (λ (rs : List Release). (rs, l.left ++ [], others)) (sym (append-nil l.released))
      ∙ ap (λ (qs : List Passed). (l.released ++ map (release_at (moment_of disk)) qs, l.left ++ qs, others)) (sym none)) g
  goes_down ended taken last rest disk l now ps others needs g waits ready (inr one) holds =
      subst (λ (qs : List Passed). IsDown moment_of left_since object start opening front ended taken last rest disk (record l { released = l.released ++ map (release_at (moment_of disk)) qs; left = l.left ++ qs; waiting = others }) now)
      (sym one.1)
      (releases_down moment_of left_since object start opening front ended taken last rest disk l now one.0 others (release_at (moment_of disk) one.0) g (waits ∙ ap (λ qs. qs ++ others) one.1) (omega (arith, ready, one.2)) refl holds)

module _ {D : Type 0} (moment_of : D → ℕ) (left_since : D → ℕ → List ℕ → Type 0) (told : D → Option (List ℕ)) (image : D → List ℕ → Type 0) (faults_of : D → ℕ)
    (only_now : (disk : D) (c : List ℕ) → left_since disk (moment_of disk) c → image disk c)
    (reads_an_image : (disk : D) (c : List ℕ) → told disk ≡ Some c → image disk c) (start : List (List Op)) (opening : ℕ) where
  ended_release : (disk : D) (ending : Ending) (old : Back D) (log : BackLog) (held : VecDeque Held Global) (h : Held)
      → IsEnded moment_of left_since image start opening disk ending old → old.held.items ≡ h ∷ held.items → h.needs ≤ old.durable
      → LogReleased old.log log (old.log.released.items ++ map (release_at (moment_of disk)) (passed_of h))
      → IsEnded moment_of left_since image start opening disk ending (record old { held = held; log = log })
  ended_release disk ending old log held h s first ready is =
      let all : List Release = old.log.released.items ++ map (release_at (moment_of disk)) (passed_of h) in
      record {
        frames = s.frames;
        flight = s.flight;
        ended = s.ended;
        taken = s.taken;
        left = s.left ++ passed_of h;
        flown = s.flown;
        last = s.last;
        rest = s.rest;
        end = s.end;
        is_flown = s.is_flown;
        is_whole = s.is_whole;
        logs = subst AreLogs (sym is) (record { flown = s.logs.flown; begun = s.logs.begun; ends = s.logs.ends });
        place = λ front. ap (place_of front) is ∙ released_place front (backed old.log) all ∙ s.place front;
        down = λ front. subst (λ (rs : List Release). IsDown moment_of left_since old.identity start opening front s.ended s.taken (s.last front) (s.rest front) disk
            (record { released = rs; left = s.left ++ passed_of h; waiting = waiting_in held.items; flown = s.flown; staged = s.flight.batches }) old.durable)
            (sym (ap (λ (b : Backed). b.released) is))
            (goes_down moment_of left_since old.identity start opening front s.ended s.taken (s.last front) (s.rest front) disk
            (record { released = old.log.released.items; left = s.left; waiting = waiting_in old.held.items; flown = s.flown; staged = s.flight.batches }) old.durable
            (passed_of h) (waiting_in held.items) h.needs (s.down front) (ap waiting_in first) ready (one_or_none h.body h.needs h.since)
            (λ c now. one_of_down moment_of left_since told image reads_an_image start opening disk ending old s front c (s.outcomes c (only_now disk c now))));
        object = s.object;
        named = s.named;
        batches = s.batches;
        outcomes = s.outcomes;
        mended = s.mended;
        gone = ap (λ (b : Backed). length b.stops) is ∙ s.gone ∙ ap (λ (b : Backed). suc (length b.ends)) (sym is);
        number = s.number ∙ ap (λ (b : Backed). suc (length b.stops)) (sym is);
        full = s.full;
      }

  pub unmounted_release : (old : Back D) (log : BackLog) (held : VecDeque Held Global) (h : Held) (u : IsUnmounted moment_of left_since told image faults_of start opening old)
      → old.held.items ≡ h ∷ held.items → h.needs ≤ old.durable
      → LogReleased old.log log (old.log.released.items ++ map (release_at (moment_of u.disk)) (passed_of h))
      → IsUnmounted moment_of left_since told image faults_of start opening (record old { held = held; log = log })
  unmounted_release old log held h u first ready is = record {
    disk = u.disk;
    ending = u.ending;
    safe = let s = u.safe in record {
      store = s.store;
      mode = s.mode;
      logs = subst AreLogs (sym is) (record { flown = s.logs.flown; begun = s.logs.begun; ends = s.logs.ends });
      number = s.number ∙ ap (λ (b : Backed). suc (length b.stops)) (sym is);
      gone = ap (λ (b : Backed). length b.stops) is ∙ s.gone ∙ ap (λ (b : Backed). suc (length b.ends)) (sym is);
      even = s.even;
      own = s.own ∙ ap (λ (b : Backed). length (batches_taken (own_entries b))) (sym is);
      none = s.none;
      unflushed = s.unflushed;
      more = s.more;
      few = omega (arith, s.few, ap (λ (b : Backed). length b.taken) is);
      halts = none_behind h held.items (sym (ap has_halt first) ∙ s.halts);
    };
    ended = λ tells. ended_release u.disk u.ending old log held h (u.ended tells) first ready is;
    logged =
        let all : List Release = old.log.released.items ++ map (release_at (moment_of u.disk)) (passed_of h) in
        let tells : Type 0 = IsTold (told u.disk) in
        subst (λ (b : Backed). IsLoggedDown tells b u.ending (marks_of old) old.durable) (sym is)
        (down_same tells tells (λ yes. yes) (backed old.log) u.ending (marks_of old) old.durable (record (backed old.log) { released = all }) refl refl refl (λ front. released_place front (backed old.log) all) u.logged);
    counts = counts_stay told faults_of u.disk u.disk (backed old.log) (backed log) refl (ap (λ (b : Backed). b.stops) is) (ap (λ (b : Backed). b.downs) is) u.counts;
  }

module _ {D : Type 0} (moment_of : D → ℕ) (left_since : D → ℕ → List ℕ → Type 0) (told : D → Option (List ℕ)) (image : D → List ℕ → Type 0) (faults_of : D → ℕ) (start : List (List Op)) (opening : ℕ) where
  -- the same, where the logs and what is held have the same
  pub unmounted_same : (old : Back D) (log : BackLog) (held : VecDeque Held Global) (stuck : Bool) (u : IsUnmounted moment_of left_since told image faults_of start opening old)
      → backed log ≡ backed old.log → held.items ≡ old.held.items → IsUnmounted moment_of left_since told image faults_of start opening (record old { held = held; stuck = stuck; log = log })
  unmounted_same old log held stuck u is items = record {
    disk = u.disk;
    ending = u.ending;
    safe = let s = u.safe in record {
      store = s.store;
      mode = s.mode;
      logs = subst AreLogs (sym is) s.logs;
      number = s.number ∙ ap (λ (b : Backed). suc (length b.stops)) (sym is);
      gone = ap (λ (b : Backed). length b.stops) is ∙ s.gone ∙ ap (λ (b : Backed). suc (length b.ends)) (sym is);
      even = s.even;
      own = s.own ∙ ap (λ (b : Backed). length (batches_taken (own_entries b))) (sym is);
      none = s.none;
      unflushed = s.unflushed;
      more = s.more;
      few = omega (arith, s.few, ap (λ (b : Backed). length b.taken) is);
      halts = ap has_halt items ∙ s.halts;
    };
    ended = λ tells. let s = u.ended tells in record {
      frames = s.frames;
      flight = s.flight;
      ended = s.ended;
      taken = s.taken;
      left = s.left;
      flown = s.flown;
      last = s.last;
      rest = s.rest;
      end = s.end;
      is_flown = s.is_flown;
      is_whole = s.is_whole;
      logs = subst AreLogs (sym is) s.logs;
      place = λ front. ap (place_of front) is ∙ s.place front;
      down = λ front. subst (λ (x : List Release × List Held). IsDown moment_of left_since old.identity start opening front s.ended s.taken (s.last front) (s.rest front) u.disk
          (record { released = x.0; left = s.left; waiting = waiting_in x.1; flown = s.flown; staged = s.flight.batches }) old.durable)
          (ap (λ (b : Backed). (b.released, old.held.items)) (sym is) ∙ ap (λ (hs : List Held). (log.released.items, hs)) (sym items)) (s.down front);
      object = s.object;
      named = s.named;
      batches = s.batches;
      outcomes = s.outcomes;
      mended = s.mended;
      gone = ap (λ (b : Backed). length b.stops) is ∙ s.gone ∙ ap (λ (b : Backed). suc (length b.ends)) (sym is);
      number = s.number ∙ ap (λ (b : Backed). suc (length b.stops)) (sym is);
      full = s.full;
    };
    logged = subst (λ (b : Backed). IsLoggedDown (IsTold (told u.disk)) b u.ending (marks_of old) old.durable) (sym is) u.logged;
    counts = counts_stay told faults_of u.disk u.disk (backed old.log) (backed log) refl (ap (λ (b : Backed). b.stops) is) (ap (λ (b : Backed). b.downs) is) u.counts;
  }

  -- An entry is taken that writes nothing.
  unmounted_took : (old : Back D) (log : BackLog) (held : VecDeque Held Global) (mode : Mode) (e : Entry) (more : List Passed) (u : IsUnmounted moment_of left_since told image faults_of start opening old)
      → LogTook old.log log e → e.incarnation ≡ old.number → batches_of (said_by e.body) ≡ [] → waiting_in held.items ≡ waiting_in old.held.items ++ more → has_halt held.items ≡ false
      → IsAtEnd u.ending mode
      → ((s : IsEnded moment_of left_since image start opening u.disk u.ending old) → mode ≡ Wanted u.ending → AreMended (s.taken ++ e ∷ []))
      → ((front : Fronted) (s : IsEnded moment_of left_since image start opening u.disk u.ending old) → IsDown moment_of left_since old.identity start opening front s.ended (s.taken ++ e ∷ []) (s.last front) (s.rest front) u.disk
      (record { released = old.log.released.items; left = s.left; waiting = waiting_in old.held.items ++ more; flown = s.flown; staged = s.flight.batches }) old.durable)
      → IsUnmounted moment_of left_since told image faults_of start opening (record old { held = held; mode = mode; log = log })
  unmounted_took old log held mode e more u took own silent waits free at_end mended gate =
      let number : e.incarnation ≡ suc (length old.log.stops.items) = own ∙ u.safe.number in
      let fits : AreLogs (backed log) = subst AreLogs (sym took.taken) (takes_fit front_none (backed old.log) e u.safe.logs (omega (arith, number))) in
      let place : (front : Fronted) → place_of front (backed log) ≡ record (place_of front (backed old.log)) { taken = own_entries (backed old.log) ++ e ∷ [] } =
      λ front. took_place old.log log e u.safe.logs number took.taken front in
      let entries : own_entries (backed log) ≡ own_entries (backed old.log) ++ e ∷ [] = ap (λ (p : Place). p.taken) (place front_none) in
      let stops : length log.stops.items ≡ length old.log.stops.items = ap (λ (b : Backed). length b.stops) took.taken in
      let ends : length log.ends.items ≡ length old.log.ends.items = ap (λ (b : Backed). length b.ends) took.taken in
      record {
        disk = u.disk;
        ending = u.ending;
        safe = let s = u.safe in record {
          store = s.store;
          mode = at_end;
          logs = fits;
          number = omega (arith, s.number, stops);
          gone = omega (arith, s.gone, stops, ends);
          even = s.even;
          own = omega (arith, s.own, ap (λ es. length (batches_taken es)) entries, ap length (batches_more (own_entries (backed old.log)) e), length-append (batches_taken (own_entries (backed old.log))) (batches_of (said_by e.body)), ap length silent);
          none = s.none;
          unflushed = s.unflushed;
          more = s.more;
          few = omega (arith, s.few, ap (λ (b : Backed). length b.taken) took.taken, length_push old.log.taken.items e);
          halts = free;
        };
        ended = λ tells. let s = u.ended tells in record {
          frames = s.frames;
          flight = s.flight;
          ended = s.ended;
          taken = s.taken ++ e ∷ [];
          left = s.left;
          flown = s.flown;
          last = s.last;
          rest = s.rest;
          end = s.end;
          is_flown = s.is_flown;
          is_whole = s.is_whole;
          logs = fits;
          place = λ front. place front ∙ ap (λ (p : Place). record p { taken = p.taken ++ e ∷ [] }) (s.place front);
          down = λ front. subst (λ (x : List Release × List Passed). IsDown moment_of left_since old.identity start opening front s.ended (s.taken ++ e ∷ []) (s.last front) (s.rest front) u.disk
              (record { released = x.0; left = s.left; waiting = x.1; flown = s.flown; staged = s.flight.batches }) old.durable)
              (ap (λ (b : Backed). (b.released, waiting_in old.held.items ++ more)) (sym took.taken) ∙ ap (λ (ws : List Passed). (log.released.items, ws)) (sym waits)) (gate front s);
          object = s.object;
          named = s.named;
          batches = s.batches;
          outcomes = s.outcomes;
          mended = mended s;
          gone = omega (arith, s.gone, stops, ends);
          number = omega (arith, s.number, stops);
          full = s.full;
        };
        logged =
            let tells : Type 0 = IsTold (told u.disk) in
            subst (λ (b : Backed). IsLoggedDown tells b u.ending (marks_of old) old.durable) (sym took.taken)
            (down_took tells tells (λ yes. yes) (backed old.log) u.ending (marks_of old) old.durable e u.safe.logs number u.logged);
        counts = counts_stay told faults_of u.disk u.disk (backed old.log) (backed log) refl (ap (λ (b : Backed). b.stops) took.taken) (ap (λ (b : Backed). b.downs) took.taken) u.counts;
      }

  pub unmounted_message : (old : Back D) (log : BackLog) (held : VecDeque Held Global) (e : Entry) (sent : Message) (u : IsUnmounted moment_of left_since told image faults_of start opening old)
      → LogTook old.log log e → e.incarnation ≡ old.number → e.body ≡ body.Message sent → old.mode ≡ Down u.ending
      → held.items ≡ old.held.items ++ record { body = held_body.Message sent; needs = old.before; since = old.number - 1 } ∷ []
      → IsUnmounted moment_of left_since told image faults_of start opening (record old { held = held; log = log })
  unmounted_message old log held e sent u took own says down items =
      let one : ℕ → ℕ → Passed = λ needs since. record { message = sent; needs = needs; since = since } in
      let ended : (s : IsEnded moment_of left_since image start opening u.disk u.ending old) → old.number - 1 ≡ s.ended =
      λ s. omega (arith, s.number, ap (λ (p : Place). p.ended) (s.place front_none)) in
      unmounted_took old log held old.mode e (one old.before (old.number - 1) ∷ []) u took own (ap (λ b. batches_of (said_by b)) says)
      (ap waiting_in items ∙ waits_more old.held.items (record { body = held_body.Message sent; needs = old.before; since = old.number - 1 }))
      (ap has_halt items ∙ push_none old.held.items (record { body = held_body.Message sent; needs = old.before; since = old.number - 1 }) u.safe.halts refl)
      (inr down) (λ s wanted. absurd (down_wanted u.ending (sym down ∙ wanted)))
      (λ front s. subst (λ (x : ℕ × ℕ). IsDown moment_of left_since old.identity start opening front s.ended (s.taken ++ e ∷ []) (s.last front) (s.rest front) u.disk
      (record { released = old.log.released.items; left = s.left; waiting = waiting_in old.held.items ++ one x.0 x.1 ∷ []; flown = s.flown; staged = s.flight.batches }) old.durable)
      (ap (λ (n : ℕ). (n, s.ended)) (sym u.safe.even) ∙ ap (λ (n : ℕ). (old.before, n)) (sym (ended s)))
      (down_message moment_of left_since old.identity start opening front s.ended s.taken (s.last front) (s.rest front) u.disk
      (record { released = old.log.released.items; left = s.left; waiting = waiting_in old.held.items; flown = s.flown; staged = s.flight.batches }) old.durable e sent says (s.down front)))

  pub unmounted_mend : (old : Back D) (log : BackLog) (e : Entry) (u : IsUnmounted moment_of left_since told image faults_of start opening old)
      → LogTook old.log log e → e.incarnation ≡ old.number → e.body ≡ body.Mend
      → IsUnmounted moment_of left_since told image faults_of start opening (record old { mode = Wanted u.ending; log = log })
  unmounted_mend old log e u took own says =
      unmounted_took old log old.held (Wanted u.ending) e [] u took own (ap (λ b. batches_of (said_by b)) says)
      (sym (append-nil (waiting_in old.held.items))) u.safe.halts (inl refl) (λ s wanted. are_mended s.taken e says)
      (λ front s. subst (λ (ws : List Passed). IsDown moment_of left_since old.identity start opening front s.ended (s.taken ++ e ∷ []) (s.last front) (s.rest front) u.disk
      (record { released = old.log.released.items; left = s.left; waiting = ws; flown = s.flown; staged = s.flight.batches }) old.durable)
      (sym (append-nil (waiting_in old.held.items)))
      (down_mend moment_of left_since old.identity start opening front s.ended s.taken (s.last front) (s.rest front) u.disk
      (record { released = old.log.released.items; left = s.left; waiting = waiting_in old.held.items; flown = s.flown; staged = s.flight.batches }) old.durable e says (s.down front)))

  pub unmounted_held : (old : Back D) (held : VecDeque Held Global) (u : IsUnmounted moment_of left_since told image faults_of start opening old) → held.items ≡ old.held.items
      → IsUnmounted moment_of left_since told image faults_of start opening (record old { held = held })
  unmounted_held old held u items = unmounted_same old old.log held old.stuck u refl items
