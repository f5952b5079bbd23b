-- A back's newest incarnation stops: by a failed append, or where a halt is released.
use Rattle.std.proofs.Common.{◌≡◌, ◌∙◌, ap, sym, subst, refl, inl, inr, ⊎_elim, true≢false, ℕ, suc, ◌<◌, List, [], ◌∷◌, ◌++◌, append-nil, length, take, arith, Option, Some, None}
use Rattle.std.proofs.lemmas.Grind.{flat_map-append}
use Rattle.std.proofs.lemmas.List.{length_push, take-append-le}
use Rattle.std.proofs.lemmas.List.Elements.{Contains-push}
use Rattle.std.specs.Prelude.{◌≢◌, false, nat_le, slice_get}
use Rattle.std.specs.List.{Contains, filter}
use Rattle.storage_map.specs.Contents.{Contents}
use Rattle.storage_map.specs.declared.op.Op.{Op}
use Rattle.timeline.specs.Headline.{down_said, missed_of}
use Rattle.timeline.specs.History.{History, Incarnation, entries_of, incarnations, is_halting, start_after, said_in, batches_in, kept_by, kept_of, resets, resets_by}
use Rattle.timeline.specs.Intake.{Kind, Front, serves, down}
use Rattle.timeline.specs.Logs.{Fronted, Backed}
use Rattle.timeline.specs.Object.{ended}
use Rattle.timeline.specs.Replies.{unanswered, resets_of}
use Rattle.timeline.specs.Told.{said_by, spoken_in, batches_of, written}
use Rattle.timeline.specs.declared.back_log.End.{End}
use Rattle.timeline.specs.declared.back_log.Missed.{Missed}
use Rattle.timeline.specs.declared.back_log.Stop.{Stop}
use Rattle.timeline.specs.declared.caller.Caller.{Caller}
use Rattle.timeline.specs.declared.caller.Cause.{Cause}
use Rattle.timeline.specs.declared.entry.Body.{Body}
use Rattle.timeline.specs.declared.entry.Body.TheVariants as body
use Rattle.timeline.specs.declared.entry.Entry.{Entry}
use Rattle.timeline.specs.declared.event.Event.{Event}
use Rattle.timeline.specs.declared.event.Event.TheVariants as event
use Rattle.timeline.specs.declared.notice.Notice.{Notice}
use Rattle.timeline.specs.declared.notice.Notice.TheVariants as notice
use Rattle.output_gate.proofs.Histories.{get_more, get_last}
use Rattle.object_history.proofs.Alike.{IsKeptAlike}
use Rattle.object_history.proofs.Entries.{batches_append, said_numbered, spoken_numbered}
use Rattle.object_history.proofs.Keeping.{rebuilt, none_missed, none_taken, map_written, told_none}
use Rattle.object_history.proofs.Phases.{asked_last, says_down, halts_as, stops_as}
use Rattle.object_history.proofs.Readings.{phase_now}
use Rattle.object_history.specs.Pair.{Rear, Held, halt, Stand, mounted, wanted, newest, calls_down, failures, IsNews, fallen_once, IsNewest, Together, IsPair}
use Rattle.object_history.specs.Stepping.{IsRear, IsFollowed, AreGiven}

-- what is said while an incarnation isn't mounted has no batch
resets_write_none : (cause : Cause) (callers : List Caller) → batches_of (spoken_in (resets_of cause callers)) ≡ []
resets_write_none cause [] = refl
resets_write_none cause (caller ∷ callers) = resets_write_none cause callers

reset_by_none : (stop : Option Stop) (i : Incarnation) → batches_of (spoken_in (resets_by stop i)) ≡ []
reset_by_none None i = refl
reset_by_none (Some stop) i = resets_write_none stop.cause (unanswered i.delivered (said_in i.sent))

reset_none : (older : History) → batches_of (spoken_in (resets older)) ≡ []
reset_none [] = refl
reset_none (i ∷ older) = reset_by_none i.stop i

down_writes_none : (calls : List Event) (missed : List Missed) → batches_of (down_said calls missed) ≡ []
down_writes_none (event.Call from method args depth at ∷ calls) (m ∷ missed) = down_writes_none calls missed
down_writes_none _ _ = refl

no_first : (xs ys : List (List Op)) → xs ++ ys ≡ [] → xs ≡ []
no_first [] ys is = refl
no_first (x ∷ xs) ys is = absurd cc

pub down_none : (k : Kind) (older : History) (start : Contents) (f : Front) (front : Fronted) (back : Backed) → IsNewest k older start f front back
    → (call : Option Event) → f.mode ≡ down call → (read unread : List Body) → f.said ≡ read ++ unread → batches_of (spoken_in read) ≡ []
down_none k older start f front back newest_said call mode read unread said =
    let down_says = says_down k older start f front back newest_said call mode in
    no_first (batches_of (spoken_in read)) (batches_of (spoken_in unread))
    (sym (batches_append (spoken_in read) (spoken_in unread))
    ∙ ap batches_of (sym (flat_map-append said_by read unread))
    ∙ ap (λ (bodies : List Body). batches_of (spoken_in bodies)) (sym said)
    ∙ ap batches_of down_says.spoken
    ∙ batches_append (spoken_in (resets older)) (down_said (calls_down f front) (failures f back))
    ∙ ap (λ (batches : List (List Op)). batches ++ batches_of (down_said (calls_down f front) (failures f back))) (reset_none older)
    ∙ down_writes_none (calls_down f front) (failures f back))

-- where the front's own entries were taken, those before it were too
pub none_late : (late : List Entry) (read : List Body) → (late ≢ [] → read ≡ []) → (read ≡ [] → ⊥) → late ≡ []
none_late [] read first some = refl
none_late (e ∷ late) read first some = absurd (some (first (λ is. cc)))

module _ (k : Kind) (opened : Contents) (f : Front) (front : Fronted) (rear : Rear) (line : List Entry) (notices : List Notice)
    (known : IsRear opened rear) (pair : IsPair k opened f front rear line notices) where
  -- no mounting failed of what comes after the front's incarnation
  pub none_missed_yet : length rear.log.stops ≡ pair.below → missed_of (suc f.incarnation) rear.log.downs ≡ []
  none_missed_yet stops = none_missed (suc f.incarnation) rear.log.downs (λ i m is. omega (arith, known.begun i m is, stops, pair.number))

  abbrev pub more_stops : Stop → List Stop
  more_stops stop = rear.log.stops ++ stop ∷ []

  pub stop_more : (stop : Stop) → length rear.log.stops ≡ pair.below → (index : ℕ) → index < pair.below
      → slice_get (more_stops stop) index ≡ slice_get rear.log.stops index
  stop_more stop stops index less = get_more rear.log.stops stop index (omega (arith, stops, less))

  pub first_stops : (stop : Stop) → length rear.log.stops ≡ pair.below → take pair.below (more_stops stop) ≡ take pair.below rear.log.stops
  first_stops stop stops = take-append-le pair.below rear.log.stops (stop ∷ []) (omega (arith, stops))

  pub one_more : (stop : Stop) → length rear.log.stops ≡ pair.below → length (more_stops stop) ≡ suc pair.below
  one_more stop stops = omega (arith, length_push rear.log.stops stop, stops)

  pub stop_last : (stop : Stop) → length rear.log.stops ≡ pair.below → slice_get (more_stops stop) pair.below ≡ Some stop
  stop_last stop stops = ap (λ (n : ℕ). slice_get (more_stops stop) n) (sym stops) ∙ get_last rear.log.stops stop

  -- a halt that was read was taken
  pub halt_read : (c : Cause) (first : List Body) → pair.lined.read ≡ first ++ body.Halt c ∷ []
      → Contains (said_in (entries_of f.incarnation rear.log.taken)) (body.Halt c)
  halt_read c first is =
      subst (λ (bodies : List Body). Contains bodies (body.Halt c))
      (sym (ap said_in pair.lined.own ∙ said_numbered f.incarnation 1 pair.lined.read ∙ is))
      (Contains-push first (body.Halt c))

  -- what isn't durable was written by entries of the front's incarnation
  wrote : length rear.log.stops ≡ pair.below → rear.durable < rear.before → batches_of (spoken_in pair.lined.read) ≡ [] → ⊥
  wrote stops less none = known.owns less
      (ap (λ (n : ℕ). batches_in (entries_of (suc n) rear.log.taken)) stops
      ∙ ap (λ (n : ℕ). batches_in (entries_of n rear.log.taken)) (sym pair.number)
      ∙ ap batches_in pair.lined.own
      ∙ ap batches_of (spoken_numbered f.incarnation 1 pair.lined.read)
      ∙ none)

  module _ (stop : Stop) (held : List Held) (map : Contents) (stand : rear.stand ≡ mounted) (less : rear.durable < rear.before)
      (by_append : is_halting stop.cause ≡ false) (is_held : held ≡ filter (λ h. nat_le h.needs rear.durable) rear.held) where
    abbrev pub failed : Rear
    failed = record rear { log = record rear.log { stops = more_stops stop }; stand = wanted stop.cause; held = held; before = rear.durable; map = map }

    stopped_together : length rear.log.stops ≡ pair.below → Together pair.start f front rear.log pair.lined.unread rear.before rear.stand rear.held notices
        → IsPair k opened f front failed line notices
    stopped_together stops t =
        let now = stops_as pair.start f front rear.log pair.lined.unread rear.before rear.durable rear.stand rear.held notices t stand less
        (λ call mode. wrote stops less (down_none k (incarnations front rear.log pair.below) pair.start f front rear.log pair.newest_said call mode pair.lined.read pair.lined.unread pair.lined.said)) in
        rebuilt k opened f front rear line notices pair failed line notices
        (λ index within. record { delivered = refl; sent = refl; stop = stop_more stop stops index within; downed = refl; missed = refl })
        (λ index within. refl) ([], sym (append-nil rear.log.taken)) refl (first_stops stop stops) pair.lined
        (inr (
          one_more stop stops,
          record {
            state = now.state;
            mode = now.mode;
            is_unread = now.is_unread;
            none_late = none_late pair.lined.late pair.lined.read pair.lined.first (λ none. wrote stops less (ap (λ (bodies : List Body). batches_of (spoken_in bodies)) none));
            none_held = is_held ∙ now.none_held;
            stop = stop;
            stopped = stop_last stop stops;
            halted = λ by. absurd (true≢false (sym by ∙ by_append));
            left = notices;
            told = [];
            under_way = sym (append-nil notices);
            left_over = now.left_over;
            is_news = (refl, refl);
            fails = ap (λ (all : List Missed). length all) (none_missed_yet stops);
          },
        ))

    pub stops_by_failure : (given : List Notice) → AreGiven [] given → IsPair k opened f front failed line (notices ++ given)
    stops_by_failure given are = told_none (λ (all : List Notice). IsPair k opened f front failed line all) notices given are (⊎_elim
        (λ t. stopped_together t.0 t.1)
        (λ b. absurd (known.owns less
        (ap (λ (n : ℕ). batches_in (entries_of (suc n) rear.log.taken)) (b.0 ∙ sym pair.number)
        ∙ ap batches_in (none_taken f front rear.log.taken line pair.logged pair.lined))))
        (phase_now pair))

  module _ (c : Cause) (needs : ℕ) (rest : List Held) (stop : Stop) (end : End) (map : Contents)
      (is_held : rear.held ≡ record { hold = halt c; needs = needs } ∷ rest) (stand : rear.stand ≡ mounted) (by_halt : stop.cause ≡ c)
      (given : List Notice) (are : AreGiven (notice.Fresh (suc (newest rear.log)) map.alarm c ∷ []) given) where
    abbrev pub halted : Rear
    halted = record rear { log = record rear.log { stops = more_stops stop; ends = rear.log.ends ++ end ∷ [] }; held = rest; map = map }

    abbrev next : Contents
    next = start_after opened (incarnations front halted.log (suc pair.below))

    kept_before_it : length rear.log.stops ≡ pair.below → (index : ℕ) → index < pair.below → IsKeptAlike front front rear.log halted.log index
    kept_before_it stops index less =
        let followed : length rear.log.ends ≡ length rear.log.stops = subst (λ (s : Stand). IsFollowed s rear.log) stand known.followed in
        ap (λ (e : Option End). kept_by (kept_of e) (batches_in (entries_of (suc index) rear.log.taken)))
        (get_more rear.log.ends end index (omega (arith, followed, stops, less)))

    module _ (known_after : IsRear opened halted) where
      next_map : length rear.log.stops ≡ pair.below → map ≡ next
      next_map stops =
          map_written opened front halted (suc pair.below) known_after (one_more stop stops)
          ∙ ap (λ (n : ℕ). written next (said_in (entries_of (suc n) rear.log.taken))) (sym pair.number)
          ∙ ap (λ (entries : List Entry). written next (said_in entries)) (none_taken f front rear.log.taken line pair.logged pair.lined)

      news : length rear.log.stops ≡ pair.below → IsNews next (suc f.incarnation) stop.cause mounted given
      news stops = ⊎_elim
          (λ gave. inr (gave
          ∙ ap (λ (n : ℕ). notice.Fresh (suc (suc n)) map.alarm c ∷ []) stops
          ∙ ap (λ (n : ℕ). notice.Fresh (suc n) map.alarm c ∷ []) (sym pair.number)
          ∙ ap (λ (m : Contents). notice.Fresh (suc f.incarnation) m.alarm c ∷ []) (next_map stops)
          ∙ ap (λ (cause : Cause). notice.Fresh (suc f.incarnation) next.alarm cause ∷ []) (sym by_halt)))
          (λ lost. inl lost)
          are

      halted_together : length rear.log.stops ≡ pair.below → Together pair.start f front rear.log pair.lined.unread rear.before rear.stand rear.held notices
          → IsPair k opened f front halted line (notices ++ given)
      halted_together stops t =
          let now = halts_as pair.start f front rear.log pair.lined.unread rear.before c needs rest rear.stand rear.held notices
          (asked_last k (incarnations front rear.log pair.below) pair.start f front rear.log pair.newest_said) t is_held in
          let all_read : f.said ≡ pair.lined.read =
          pair.lined.said ∙ ap (λ (bodies : List Body). pair.lined.read ++ bodies) now.none ∙ append-nil pair.lined.read in
          let some_read : pair.lined.read ≡ [] → ⊥ = λ none. now.some (all_read ∙ none) in
          rebuilt k opened f front rear line notices pair halted line (notices ++ given)
          (λ index within. record { delivered = refl; sent = refl; stop = stop_more stop stops index within; downed = refl; missed = refl })
          (kept_before_it stops) ([], sym (append-nil rear.log.taken)) refl (first_stops stop stops) pair.lined
          (inr (
            one_more stop stops,
            record {
              state = now.state;
              mode = now.mode;
              is_unread = inr now.none;
              none_late = none_late pair.lined.late pair.lined.read pair.lined.first some_read;
              none_held = now.only;
              stop = stop;
              stopped = stop_last stop stops;
              halted = λ by.
                  let ends = now.ends (sym (ap is_halting by_halt) ∙ by) in (
                    now.mode ∙ ap serves (ends.0 ∙ ap ended (sym by_halt)),
                    subst (λ (x : Cause). Contains (said_in (entries_of f.incarnation rear.log.taken)) (body.Halt x)) (sym by_halt)
                        (halt_read c ends.1.0 (sym all_read ∙ ends.1.1)),
                  );
              left = [];
              told = given;
              under_way = ap (λ (all : List Notice). all ++ given) now.quiet;
              left_over = inl refl;
              is_news = subst (λ (s : Stand). IsNews next (suc f.incarnation) stop.cause s given) (sym stand) (news stops);
              fails = ap (λ (all : List Missed). length all) (none_missed_yet stops) ∙ ap fallen_once (sym stand);
            },
          ))

      pub stops_by_halt : IsPair k opened f front halted line (notices ++ given)
      stops_by_halt = ⊎_elim (λ t. halted_together t.0 t.1) (λ b. absurd (let none = b.1.none_held in cc)) (phase_now pair)
