-- What the end of an incarnation makes of a front.
use Rattle.std.proofs.Common.{◌≡◌, ◌∙◌, sym, refl, ap, subst, ℕ, suc, ◌+◌, ℤ, List, [], ◌∷◌, ◌++◌, length, map, drop, Option, None, true, ◌⊎◌, ⊎_elim, append-nil, arith}
use Rattle.std.proofs.lemmas.List.{length-append, drop_all}
use Rattle.std.proofs.Math.Seq.{drop-append_seam}
use Rattle.std.specs.Prelude.{option_to_list}
use Rattle.do_tree.specs.Lookup.{constructor_of}
use Rattle.do_tree.specs.Tree.{Script}
use Rattle.timeline.specs.Headline.{IsPrefix}
use Rattle.timeline.specs.Intake as intake
use Rattle.timeline.specs.Intake.{Mode, serves, down, noticed, on_fresh, on_down, next_mounted, next_down, resets, numbered, entries_of, closed_by, downed_by, ends_by}
use Rattle.timeline.specs.Logs.{Fronted, fronted}
use Rattle.timeline.specs.Object.{Life, State, begun, idle, waiting, ended}
use Rattle.timeline.specs.Replies.{resets_of, unanswered}
use Rattle.timeline.specs.declared.caller.Cause.{Cause}
use Rattle.timeline.specs.declared.entry.Body.{Body}
use Rattle.timeline.specs.declared.entry.Body.TheVariants as body
use Rattle.timeline.specs.declared.entry.Entry.{Entry}
use Rattle.timeline.specs.declared.event.Event.{Event}
use Rattle.timeline.specs.declared.notice.Notice.{Notice}
use Rattle.timeline.specs.declared.notice.Notice.TheVariants as notice
use Rattle.front_turns.specs.Paused.{Paused}
use Rattle.front_turns.specs.Held.{Holds, object_of, life_in}
use Rattle.front_turns.specs.declared.object.Object.{Object}
use Rattle.front_turns.specs.declared.object.State.{State as HeldState}
use Rattle.front_turns.specs.declared.object.State.TheVariants.{Idle}
use Rattle.front_half.specs.Ending.{EndsAt, EndsFirst, resets_at}
use Rattle.front_half.specs.Gated.{IsGatedMode}
use Rattle.front_half.specs.Noticing.{GoesOn, IsStoppedBy, in_mode}
use Rattle.front_half.specs.Standing.{Stood, IsHalf, IsMode, is_stopped}
use Rattle.front_half.specs.Taking.{due_at}
use Rattle.front_half.specs.declared.half.Half.{Half}
use Rattle.front_half.specs.declared.half.Mode.{Mode as HeldMode}
use Rattle.front_half.specs.declared.half.Mode.TheVariants as held
use Rattle.front_half.proofs.Blocks.{begun_gated}
use Rattle.front_half.proofs.Leading.{LeadsTo, moves_to, stops_to, stops_before}
use Rattle.front_half.proofs.Noticed.{mode_at, serves_so, bodies_of}

-- the front of the next incarnation, standing so
abbrev pub next_so : intake.Front → Cause → Mode → intake.Front
next_so f c mode = record { incarnation = suc f.incarnation; events = []; said = resets f c; mode = mode }

fresh_fits : (said : List Body) (st : State) (i : ℕ) (alarm : Option (ℤ × ℕ)) (c : Cause) → intake.FitsNotice said st (notice.Fresh i alarm c)
fresh_fits said (idle o) i alarm c = tt
fresh_fits said (ended e) i alarm c = tt
fresh_fits said (waiting o t (body.Ask a free)) i alarm c = tt
fresh_fits said (waiting o t (body.Batch ops tail confirmed)) i alarm c = tt
fresh_fits said (waiting o t body.Sync) i alarm c = tt
fresh_fits said (waiting o t b) i alarm c = tt

down_fits : (said : List Body) (st : State) (c : Cause) (before after : ℕ) → intake.FitsNotice said st (notice.Down c before after)
down_fits said (idle o) c before after = tt
down_fits said (ended e) c before after = tt
down_fits said (waiting o t (body.Ask a free)) c before after = tt
down_fits said (waiting o t (body.Batch ops tail confirmed)) c before after = tt
down_fits said (waiting o t body.Sync) c before after = tt
down_fits said (waiting o t b) c before after = tt

one_more : (i j : ℕ) → i ≡ j → 1 + i ≡ suc j
one_more i j is = omega (arith, is)

module _ {T : Type 0} (see : T → Paused) (script : Script) (h : Half T) (s : HeldState T) (c : Cause) where
  module _ (st : Stood) (is : IsHalf see script (in_mode h (held.Serves s)) st) where
    served : (m : State) × (st.front.mode ≡ serves m)
    served = let at : (l : Life) × IsMode see l (held.Serves s) st.front.mode = mode_at see script h (held.Serves s) st is in serves_so see at.0 st.front.mode s at.1

    same_resets : resets_at h c ≡ resets st.front c
    same_resets = ap (λ (es : List Event). resets_of c (unanswered es (map (λ e. e.body) (drop h.first_sent h.log.sent.items)))) is.events
        ∙ ap (λ (bs : List Body). resets_of c (unanswered st.front.events bs)) is.said

    same_entries : numbered (1 + h.incarnation) 1 (resets_at h c) ≡ numbered (suc st.front.incarnation) 1 (resets st.front c)
    same_entries = ap (λ (i : ℕ). numbered i 1 (resets_at h c)) (one_more h.incarnation st.front.incarnation is.incarnation) ∙ ap (numbered (suc st.front.incarnation) 1) same_resets

    -- What the next incarnation holds.
    next_holds : (new : Half T) (mode : HeldMode T) (m : Mode) → EndsAt h new c
        → ((d : ℕ) → IsMode see (life_in script d (suc st.front.incarnation)) mode m) → ((d : ℕ) → IsGatedMode (constructor_of script d) m)
        → IsHalf see script (in_mode new mode) (record st { front = next_so st.front c m })
    next_holds new mode m e stands gated =
        let delivered : new.log.delivered.items ≡ h.log.delivered.items = ap (λ (l : Fronted). l.delivered) e.log in
        let sent : new.log.sent.items ≡ h.log.sent.items ++ numbered (1 + h.incarnation) 1 (resets_at h c) = ap (λ (l : Fronted). l.sent) e.log in
        let all : ℕ = length h.log.delivered.items in
        let more : ℕ = length (numbered (1 + h.incarnation) 1 (resets_at h c)) in
        let sent_length : length new.log.sent.items ≡ length h.log.sent.items + more = ap length sent ∙ length-append h.log.sent.items (numbered (1 + h.incarnation) 1 (resets_at h c)) in
        record {
          class = e.class ∙ is.class;
          known = is.known;
          incarnation = e.incarnation ∙ one_more h.incarnation st.front.incarnation is.incarnation;
          count = e.count ∙ ap length same_resets;
          mode = λ d of. stands d;
          gate = λ d of. gated d;
          deferred = ap (λ (x : Option Event). option_to_list x ++ new.deferred) e.due ∙ ap (λ (v : List Event). option_to_list h.due ++ v) e.deferred ∙ is.deferred;
          stuck = e.stuck ∙ is.stuck;
          delivered_from = let same : length new.log.delivered.items ≡ all = ap length delivered in omega (arith, e.delivered_from, same);
          sent_from = omega (arith, e.sent_from, sent_length);
          events = ap (λ (xs : List (ℕ × Event)). map (λ d. d.1) (drop new.first_delivered xs)) delivered
              ∙ ap (λ (n : ℕ). map (λ d. d.1) (drop n h.log.delivered.items)) e.delivered_from
              ∙ ap (λ (xs : List (ℕ × Event)). map (λ d. d.1) xs) (drop_all all h.log.delivered.items (omega arith));
          said = ap (λ (xs : List Entry). map (λ e. e.body) (drop new.first_sent xs)) sent
              ∙ ap (λ (n : ℕ). map (λ e. e.body) (drop n (h.log.sent.items ++ numbered (1 + h.incarnation) 1 (resets_at h c)))) e.sent_from
              ∙ ap (λ (xs : List Entry). map (λ e. e.body) xs) (drop-append_seam h.log.sent.items (numbered (1 + h.incarnation) 1 (resets_at h c)))
              ∙ bodies_of (1 + h.incarnation) 1 (resets_at h c) ∙ same_resets;
        }

  -- A notice that ends the incarnation, by what it does.
  pub record IsEnd (n : Notice) (m : Mode) : Type 0 where
    pub fit : (said : List Body) (st : State) → intake.FitsMode said (serves st) n
    pub to : (f : intake.Front) (k : intake.Kind) (st : State) → f.mode ≡ serves st → intake.takes k f (noticed n) ≡ next_so f c m
    pub due : (st : State) → due_at (serves st) n ≡ []
    pub closes : (f : intake.Front) (st : State) → closed_by f (serves st) (noticed n) ≡ entries_of f
    pub downs : (i : ℕ) (st : State) → downed_by i (serves st) (noticed n) ≡ []
    pub ends : (st : State) → ends_by (serves st) (noticed n) ≡ c ∷ []

  leads_next : (n : Notice) (m : Mode) (st : Stood) → IsEnd n m → (is : IsHalf see script (in_mode h (held.Serves s)) st)
      → LeadsTo script st n (next_so st.front c m) st.deferred (numbered (suc st.front.incarnation) 1 (resets st.front c))
  leads_next n m st by is = let at : (q : State) × (st.front.mode ≡ serves q) = served st is in record {
    fit = subst (λ (x : Mode). intake.FitsMode st.front.said x n) (sym at.1) (by.fit st.front.said at.0);
    to = λ d. by.to st.front _ at.0 at.1;
    due = ap (λ (x : Mode). due_at x n ++ st.deferred) at.1 ∙ ap (λ (xs : List Event). xs ++ st.deferred) (by.due at.0);
    adds = sym (ap (λ (x : Mode). closed_by st.front x (noticed n) ++ entries_of (next_so st.front c m)) at.1
        ∙ ap (λ (es : List Entry). es ++ entries_of (next_so st.front c m)) (by.closes st.front at.0));
  }

  pub end_moves : (n : Notice) (m : Mode) → IsEnd n m → (new : Half T) (mode : HeldMode T) → EndsAt h new c
      → ((d i : ℕ) → IsMode see (life_in script d i) mode m) → ((d : ℕ) → IsGatedMode (constructor_of script d) m)
      → GoesOn see script (in_mode h (held.Serves s)) (in_mode new mode) n
  end_moves n m by new mode e stands gated st is =
      let at : (q : State) × (st.front.mode ≡ serves q) = served st is in
      moves_to see script h (held.Serves s) (in_mode new mode) st n (next_so st.front c m) st.deferred
      (numbered (suc st.front.incarnation) 1 (resets st.front c)) (leads_next n m st by is)
      (record {
        sent = ap (λ (l : Fronted). l.sent) e.log ∙ ap (λ (es : List Entry). h.log.sent.items ++ es) (same_entries st is);
        delivered = ap (λ (l : Fronted). l.delivered) e.log ∙ sym (append-nil h.log.delivered.items);
        downed = ap (λ (l : Fronted). l.downed) e.log
            ∙ sym (ap (λ (x : Mode). h.log.downed.items ++ downed_by st.front.incarnation x (noticed n)) at.1
            ∙ ap (λ (xs : List (ℕ × Event)). h.log.downed.items ++ xs) (by.downs st.front.incarnation at.0) ∙ append-nil h.log.downed.items);
        ends = ap (λ (l : Fronted). l.ends) e.log
            ∙ sym (ap (λ (x : Mode). h.log.ends.items ++ ends_by x (noticed n)) at.1 ∙ ap (λ (xs : List Cause). h.log.ends.items ++ xs) (by.ends at.0));
      })
      (ap (λ (l : Fronted). l.dropped) e.log)
      (next_holds st is new mode m e (λ d. stands d (suc st.front.incarnation)) gated)

  pub end_stops : (n : Notice) (m : Mode) → IsEnd n m → (new : Half T) → is_stopped new ≡ true → (fronted new.log ≡ fronted h.log) ⊎ EndsFirst h new c
      → IsStoppedBy see script (in_mode h (held.Serves s)) new n
  end_stops n m by new stopped cut st is =
      let at : (q : State) × (st.front.mode ≡ serves q) = served st is in
      let leads : LeadsTo script st n (next_so st.front c m) st.deferred (numbered (suc st.front.incarnation) 1 (resets st.front c)) = leads_next n m st by is in
      ⊎_elim (λ (same : fronted new.log ≡ fronted h.log). stops_before see script h (held.Serves s) new st n leads.fit stopped same)
      (λ (e : EndsFirst h new c). stops_to see script h (held.Serves s) new st n (next_so st.front c m) st.deferred
      (numbered (suc st.front.incarnation) 1 (resets st.front c)) leads
      (record {
        sent = subst (λ (all : List Entry). IsPrefix new.log.sent.items all) (ap (λ (es : List Entry). h.log.sent.items ++ es) (same_entries st is)) e.sent;
        delivered = ap (λ (l : Fronted). l.delivered) e.log ∙ sym (append-nil h.log.delivered.items);
        downed = ap (λ (l : Fronted). l.downed) e.log
            ∙ sym (ap (λ (x : Mode). h.log.downed.items ++ downed_by st.front.incarnation x (noticed n)) at.1
            ∙ ap (λ (xs : List (ℕ × Event)). h.log.downed.items ++ xs) (by.downs st.front.incarnation at.0) ∙ append-nil h.log.downed.items);
        ends = ap (λ (l : Fronted). l.ends) e.log
            ∙ sym (ap (λ (x : Mode). h.log.ends.items ++ ends_by x (noticed n)) at.1 ∙ ap (λ (xs : List Cause). h.log.ends.items ++ xs) (by.ends at.0));
      })
      (ap (λ (l : Fronted). l.dropped) e.log) stopped) cut

  fresh_ends : (i : ℕ) (alarm : Option (ℤ × ℕ)) → IsEnd (notice.Fresh i alarm c) (serves (idle (begun alarm)))
  fresh_ends i alarm = record {
    fit = λ said st. fresh_fits said st i alarm c;
    to = λ f k st at. ap (λ (x : Mode). on_fresh f x alarm c) at;
    due = λ st. refl;
    closes = λ f st. refl;
    downs = λ j st. refl;
    ends = λ st. refl;
  }

  down_ends : (before after : ℕ) → IsEnd (notice.Down c before after) (down None)
  down_ends before after = record {
    fit = λ said st. down_fits said st c before after;
    to = λ f k st at. ap (λ (x : Mode). on_down f x c before after) at;
    due = λ st. refl;
    closes = λ f st. refl;
    downs = λ j st. refl;
    ends = λ st. refl;
  }

  -- The next incarnation is mounted.
  pub fresh_moves : (i : ℕ) (alarm : Option (ℤ × ℕ)) (new : Half T) (o : Object T) → EndsAt h new c → object_of o [] ≡ begun alarm → ((l : Life) → Holds see l o [])
      → GoesOn see script (in_mode h (held.Serves s)) (in_mode new (held.Serves (Idle o))) (notice.Fresh i alarm c)
  fresh_moves i alarm new o e begins holds =
      end_moves (notice.Fresh i alarm c) (serves (idle (begun alarm))) (fresh_ends i alarm) new (held.Serves (Idle o)) e (λ d j. ([], sym begins, holds (life_in script d j)))
      (λ d. begun_gated (constructor_of script d) alarm)

  pub fresh_stops : (i : ℕ) (alarm : Option (ℤ × ℕ)) (new : Half T) → is_stopped new ≡ true → (fronted new.log ≡ fronted h.log) ⊎ EndsFirst h new c
      → IsStoppedBy see script (in_mode h (held.Serves s)) new (notice.Fresh i alarm c)
  fresh_stops i alarm new = end_stops (notice.Fresh i alarm c) (serves (idle (begun alarm))) (fresh_ends i alarm) new

  -- It isn't.
  pub down_moves : (before after : ℕ) (new : Half T) → EndsAt h new c → GoesOn see script (in_mode h (held.Serves s)) (in_mode new (held.Down None)) (notice.Down c before after)
  down_moves before after new e = end_moves (notice.Down c before after) (down None) (down_ends before after) new (held.Down None) e (λ d j. refl) (λ d. tt)

  pub down_stops : (before after : ℕ) (new : Half T) → is_stopped new ≡ true → (fronted new.log ≡ fronted h.log) ⊎ EndsFirst h new c
      → IsStoppedBy see script (in_mode h (held.Serves s)) new (notice.Down c before after)
  down_stops before after new = end_stops (notice.Down c before after) (down None) (down_ends before after) new
