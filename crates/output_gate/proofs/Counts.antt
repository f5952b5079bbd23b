-- How the counts of faults in a log go on.
use Rattle.std.proofs.Common.{◌≡◌, ◌∙◌, ap, sym, refl, subst, ℕ, suc, ◌+◌, ◌<◌, ◌≤◌, List, [], ◌∷◌, ◌++◌, append-nil, append_assoc, length, map, arith, Option}
use Rattle.std.proofs.lemmas.Bool.{eq-eqb, ne_eqb}
use Rattle.std.proofs.lemmas.List.{length_push, map-append}
use Rattle.std.proofs.lemmas.List.Elements.{filter-append, All-nil, All-push, All-head, All-tail}
use Rattle.std.specs.Prelude.{Bool, true, cond, ◌==◌}
use Rattle.std.specs.List.{All}
use Rattle.batch_journal.specs.Moments.{IsTold}
use Rattle.do_disk.specs.Disk.{Rose, HasRisen}
use Rattle.timeline.specs.Headline.{missed_of}
use Rattle.timeline.specs.Logs.{Backed}
use Rattle.timeline.specs.declared.back_log.Missed.{Missed}
use Rattle.timeline.specs.declared.back_log.Stop.{Stop}
use Rattle.timeline.specs.declared.caller.Cause.{Cause}
use Rattle.timeline.specs.declared.caller.Cause.TheVariants as cause
use Rattle.output_gate.specs.Counted.{stop_counts, missed_counts, counts_from, counts_in, AreRising, HasRisenIn, IsBehindEnd, AreCounted}
use Rattle.timeline.specs.History.{is_halting}
use Rattle.output_gate.proofs.Helds.{true_false}

-- the counts go up to a later count, and one more pair stands behind them
pub rising_later : (from : ℕ) (counts : List (ℕ × ℕ)) (now later : ℕ) → now ≤ later → AreRising from counts now → AreRising from counts later
rising_later from [] now later up rises = omega (arith, rises, up)
rising_later from (p ∷ counts) now later up rises = (rises.0, rising_later p.1 counts now later up rises.1)

pub rising_push : (from : ℕ) (counts : List (ℕ × ℕ)) (p : ℕ × ℕ) (now later : ℕ) → now ≤ p.0 → p.1 ≤ later → AreRising from counts now → AreRising from (counts ++ p ∷ []) later
rising_push from [] p now later above within rises = (omega (arith, rises, above), within)
rising_push from (q ∷ counts) p now later above within rises = (rises.0, rising_push q.1 counts p now later above within rises.1)

-- mountings of no such incarnation, and one more of it or of another
missed_none : (k : ℕ) (downs : List Missed) → All (λ m. m.incarnation < k) downs → missed_of k downs ≡ []
missed_none k [] below = refl
missed_none k (m ∷ downs) below =
    let here : m.incarnation < k = All-head (λ (x : Missed). x.incarnation < k) m downs below in
    ap (λ (b : Bool). cond b (m ∷ missed_of k downs) (missed_of k downs)) (ne_eqb m.incarnation k (λ same. omega (arith, here, same)))
    ∙ missed_none k downs (All-tail (λ (x : Missed). x.incarnation < k) m downs below)

missed_more : (k : ℕ) (downs : List Missed) (m : Missed) → m.incarnation ≡ k → missed_of k (downs ++ m ∷ []) ≡ missed_of k downs ++ m ∷ []
missed_more k downs m is =
    filter-append (λ (x : Missed). x.incarnation == k) downs (m ∷ []) ∙ ap (λ (b : Bool). missed_of k downs ++ cond b (m ∷ []) []) (eq-eqb m.incarnation k is)

missed_same : (k : ℕ) (downs : List Missed) (m : Missed) → (m.incarnation ≡ k → ⊥) → missed_of k (downs ++ m ∷ []) ≡ missed_of k downs
missed_same k downs m other =
    filter-append (λ (x : Missed). x.incarnation == k) downs (m ∷ []) ∙ ap (λ (b : Bool). missed_of k downs ++ cond b (m ∷ []) []) (ne_eqb m.incarnation k other)
    ∙ append-nil (missed_of k downs)

-- an end more, behind which no mounting has failed yet
counts_stop : (i : ℕ) (stops : List Stop) (stop : Stop) (downs : List Missed) → missed_of (suc (i + length stops)) downs ≡ []
    → counts_from i (stops ++ stop ∷ []) downs ≡ counts_from i stops downs ++ stop_counts stop.cause
counts_stop i [] stop downs none =
    append-nil (stop_counts stop.cause ++ map missed_counts (missed_of (suc i) downs))
    ∙ ap (λ (k : ℕ). stop_counts stop.cause ++ map missed_counts (missed_of k downs)) (omega arith)
    ∙ ap (λ (ms : List Missed). stop_counts stop.cause ++ map missed_counts ms) none
    ∙ append-nil (stop_counts stop.cause)
counts_stop i (s ∷ stops) stop downs none =
    ap (λ cs. (stop_counts s.cause ++ map missed_counts (missed_of (suc i) downs)) ++ cs)
    (counts_stop (suc i) stops stop downs (ap (λ (k : ℕ). missed_of k downs) (omega arith) ∙ none))
    ∙ sym (append_assoc (stop_counts s.cause ++ map missed_counts (missed_of (suc i) downs)) (counts_from (suc i) stops downs) (stop_counts stop.cause))

-- a mounting more that failed, behind the last end
counts_missed : (i : ℕ) (first : Stop) (stops : List Stop) (downs : List Missed) (m : Missed) → m.incarnation ≡ i + length (first ∷ stops)
    → counts_from i (first ∷ stops) (downs ++ m ∷ []) ≡ counts_from i (first ∷ stops) downs ++ missed_counts m ∷ []
counts_missed i first [] downs m is =
    let before : List (ℕ × ℕ) = map missed_counts (missed_of (suc i) downs) in
    append-nil (stop_counts first.cause ++ map missed_counts (missed_of (suc i) (downs ++ m ∷ [])))
    ∙ ap (λ (ms : List Missed). stop_counts first.cause ++ map missed_counts ms) (missed_more (suc i) downs m (omega (arith, is)))
    ∙ ap (λ cs. stop_counts first.cause ++ cs) (map-append missed_counts (missed_of (suc i) downs) (m ∷ []))
    ∙ sym (append_assoc (stop_counts first.cause) before (missed_counts m ∷ []))
    ∙ ap (λ cs. cs ++ missed_counts m ∷ []) (sym (append-nil (stop_counts first.cause ++ before)))
counts_missed i first (second ∷ stops) downs m is =
    ap (λ (ms : List Missed). (stop_counts first.cause ++ map missed_counts ms) ++ counts_from (suc i) (second ∷ stops) (downs ++ m ∷ [])) (missed_same (suc i) downs m (λ same. omega (arith, is, same)))
    ∙ ap (λ cs. (stop_counts first.cause ++ map missed_counts (missed_of (suc i) downs)) ++ cs) (counts_missed (suc i) second stops downs m (omega (arith, is)))
    ∙ sym (append_assoc (stop_counts first.cause ++ map missed_counts (missed_of (suc i) downs)) (counts_from (suc i) (second ∷ stops) downs) (missed_counts m ∷ []))

missed_behind : (back : Backed) (stops : List Stop) (m : Missed) → back.stops ≡ stops → m.incarnation ≡ suc (length stops) → (stops ≡ [] → ⊥)
    → counts_from 1 stops (back.downs ++ m ∷ []) ≡ counts_from 1 stops back.downs ++ missed_counts m ∷ []
missed_behind back [] m at is some = absurd (some refl)
missed_behind back (first ∷ stops) m at is some = counts_missed 1 first stops back.downs m (omega (arith, is))

-- a mounting behind one of some ends is behind one of more; and the one behind the last end is behind an end
behind_later : {ends more : ℕ} {m : Missed} → IsBehindEnd ends m → ends ≤ more → IsBehindEnd more m
behind_later b up = record { second = b.second; within = omega (arith, b.within, up) }

behind_last : (stops : List Stop) (m : Missed) → m.incarnation ≡ suc (length stops) → (stops ≡ [] → ⊥) → IsBehindEnd (length stops) m
behind_last [] m is some = absurd (some refl)
behind_last (s ∷ stops) m is some = record { second = omega (arith, is); within = omega (arith, is) }

module _ (tells later_tells : Type 0) (before_it : later_tells → tells) (back : Backed) (now later : ℕ) (c : AreCounted tells back now) where
  -- no end and no mounting is logged
  pub counts_same : (next : Backed) → next.stops ≡ back.stops → next.downs ≡ back.downs → now ≤ later → AreCounted later_tells next later
  counts_same next stops downs up =
      subst (λ (x : List Stop × List Missed). AreCounted later_tells (record next { stops = x.0; downs = x.1 }) later)
      (ap (λ (ss : List Stop). (ss, back.downs)) (sym stops) ∙ ap (λ (ds : List Missed). (next.stops, ds)) (sym downs))
      record { begun = c.begun; rising = rising_later 0 (counts_in back) now later up c.rising; rose = λ yes. c.rose (before_it yes) }

  stop_more : (stop : Stop) → counts_from 1 (back.stops ++ stop ∷ []) back.downs ≡ counts_in back ++ stop_counts stop.cause
  stop_more stop = counts_stop 1 back.stops stop back.downs (missed_none (suc (1 + length back.stops)) back.downs (λ k d lt. omega (arith, (c.begun k d lt).within)))

  stop_begun : (stop : Stop) → All (IsBehindEnd (length (back.stops ++ stop ∷ []))) back.downs
  stop_begun stop = λ k d lt. behind_later (c.begun k d lt) (omega (arith, length_push back.stops stop))

  -- an end by the disk
  pub counts_fell : (next : Backed) (stop : Stop) (before after : ℕ) → next.stops ≡ back.stops ++ stop ∷ [] → next.downs ≡ back.downs → stop.cause ≡ cause.Disk before after
      → before ≡ now → after ≡ later → now ≤ later → Rose before after → AreCounted later_tells next later
  counts_fell next stop before after stops downs by from into up rises =
      let more : counts_from 1 (back.stops ++ stop ∷ []) back.downs ≡ counts_in back ++ (before, after) ∷ [] = stop_more stop ∙ ap (λ x. counts_in back ++ stop_counts x) by in
      subst (λ (x : List Stop × List Missed). AreCounted later_tells (record next { stops = x.0; downs = x.1 }) later)
      (ap (λ (ss : List Stop). (ss, back.downs)) (sym stops) ∙ ap (λ (ds : List Missed). (next.stops, ds)) (sym downs))
      record {
        begun = stop_begun stop;
        rising = subst (λ cs. AreRising 0 cs later) (sym more) (rising_push 0 (counts_in back) (before, after) now later (omega (arith, from)) (omega (arith, into)) c.rising);
        rose = λ yes. subst (All HasRisenIn) (sym more) (All-push HasRisenIn (counts_in back) (before, after) (c.rose (before_it yes)) (record { later = omega (arith, from, into, up); rose = rises }));
      }

  -- an end by a read that failed, of which the counts stand behind those of the log
  pub counts_unread : (next : Backed) (stop : Stop) (counts : ℕ × ℕ) → next.stops ≡ back.stops ++ stop ∷ [] → next.downs ≡ back.downs → stop_counts stop.cause ≡ counts ∷ []
      → AreRising 0 (counts_in back ++ counts ∷ []) later → (tells → HasRisenIn counts) → AreCounted later_tells next later
  counts_unread next stop counts stops downs by rises rose =
      let more : counts_from 1 (back.stops ++ stop ∷ []) back.downs ≡ counts_in back ++ counts ∷ [] = stop_more stop ∙ ap (λ cs. counts_in back ++ cs) by in
      subst (λ (x : List Stop × List Missed). AreCounted later_tells (record next { stops = x.0; downs = x.1 }) later)
      (ap (λ (ss : List Stop). (ss, back.downs)) (sym stops) ∙ ap (λ (ds : List Missed). (next.stops, ds)) (sym downs))
      record {
        begun = stop_begun stop;
        rising = subst (λ cs. AreRising 0 cs later) (sym more) rises;
        rose = λ yes. subst (All HasRisenIn) (sym more) (All-push HasRisenIn (counts_in back) counts (c.rose (before_it yes)) (rose (before_it yes)));
      }

  -- another end
  pub counts_ended : (next : Backed) (stop : Stop) → next.stops ≡ back.stops ++ stop ∷ [] → next.downs ≡ back.downs → stop_counts stop.cause ≡ [] → now ≤ later → AreCounted later_tells next later
  counts_ended next stop stops downs none up =
      let more : counts_from 1 (back.stops ++ stop ∷ []) back.downs ≡ counts_in back = stop_more stop ∙ ap (λ cs. counts_in back ++ cs) none ∙ append-nil (counts_in back) in
      subst (λ (x : List Stop × List Missed). AreCounted later_tells (record next { stops = x.0; downs = x.1 }) later)
      (ap (λ (ss : List Stop). (ss, back.downs)) (sym stops) ∙ ap (λ (ds : List Missed). (next.stops, ds)) (sym downs))
      record {
        begun = stop_begun stop;
        rising = subst (λ cs. AreRising 0 cs later) (sym more) (rising_later 0 (counts_in back) now later up c.rising);
        rose = λ yes. subst (All HasRisenIn) (sym more) (c.rose (before_it yes));
      }

  -- a mounting that failed
  pub counts_missed_more : (next : Backed) (m : Missed) → next.stops ≡ back.stops → next.downs ≡ back.downs ++ m ∷ [] → m.incarnation ≡ suc (length back.stops) → (back.stops ≡ [] → ⊥)
      → now ≤ m.before → m.after ≤ later → (later_tells → HasRisen m.before m.after) → AreCounted later_tells next later
  counts_missed_more next m stops downs is some above within rises =
      let more : counts_from 1 back.stops (back.downs ++ m ∷ []) ≡ counts_in back ++ missed_counts m ∷ [] = missed_behind back back.stops m refl is some in
      subst (λ (x : List Stop × List Missed). AreCounted later_tells (record next { stops = x.0; downs = x.1 }) later)
      (ap (λ (ss : List Stop). (ss, back.downs ++ m ∷ [])) (sym stops) ∙ ap (λ (ds : List Missed). (next.stops, ds)) (sym downs))
      record {
        begun = All-push (IsBehindEnd (length back.stops)) back.downs m c.begun (behind_last back.stops m is some);
        rising = subst (λ cs. AreRising 0 cs later) (sym more) (rising_push 0 (counts_in back) (missed_counts m) now later above within c.rising);
        rose = λ yes. subst (All HasRisenIn) (sym more) (All-push HasRisenIn (counts_in back) (missed_counts m) (c.rose (before_it yes)) (rises yes));
      }

-- nothing is logged
pub counts_new : (tells : Type 0) (back : Backed) (now : ℕ) → back.stops ≡ [] → back.downs ≡ [] → AreCounted tells back now
counts_new tells back now stops downs =
    subst (λ (x : List Stop × List Missed). AreCounted tells (record back { stops = x.0; downs = x.1 }) now)
    (ap (λ (ss : List Stop). (ss, [])) (sym stops) ∙ ap (λ (ds : List Missed). (back.stops, ds)) (sym downs))
    record { begun = All-nil (IsBehindEnd 0); rising = omega arith; rose = λ yes. All-nil HasRisenIn }

-- a halt has no counts
pub no_counts : (c : Cause) → is_halting c ≡ true → stop_counts c ≡ []
no_counts (cause.Disk before after) is = absurd (true_false (sym is))
no_counts (cause.Full needed limit) is = refl
no_counts cause.Exceeded is = refl
no_counts cause.StartThrew is = refl
no_counts cause.BlockThrew is = refl

-- the disk is as it was, and no end and no mounting is logged
pub counts_stay : {D : Type 0} (told : D → Option (List ℕ)) (faults_of : D → ℕ) (old new : D) (back next : Backed) → new ≡ old → next.stops ≡ back.stops → next.downs ≡ back.downs
    → AreCounted (IsTold (told old)) back (faults_of old) → AreCounted (IsTold (told new)) next (faults_of new)
counts_stay {D} told faults_of old new back next disk stops downs c =
    counts_same (IsTold (told old)) (IsTold (told new)) (λ tells. subst (λ (d : D). IsTold (told d)) disk tells) back (faults_of old) (faults_of new) c next stops downs (omega (arith, ap faults_of disk))
