-- What is known of the incarnations that have ended.
use Rattle.std.proofs.Common.{◌≡◌, ◌∙◌, ap, sym, refl, subst, inl, inr, ⊎_elim, ℕ, zero, suc, ◌+◌, ◌-◌, ◌<◌, ◌≤◌, List, [], ◌∷◌, ◌++◌, length, length-append, take, sum, arith, Option, Some, None}
use Rattle.std.proofs.lemmas.List.{length-take-le, map-append}
use Rattle.std.proofs.lemmas.Bool.{eq-eqb, le-ltb, lt-ltb}
use Rattle.std.proofs.lemmas.List.Elements.{Contains-append_left, Contains-append_right}
use Rattle.std.specs.Prelude.{◌⊎◌, ◌==◌, Bool, true, false, nat_lt, slice_get, if◌then◌else◌}
use Rattle.std.specs.List.{Contains}
use Rattle.timeline.proofs.Needs.{reach_within}
use Rattle.timeline.specs.Headline.{KeepBy}
use Rattle.timeline.specs.History.{Incarnation, History, batches_in, durable, durable_by, entries_of, incarnation_at, incarnations, kept_before, kept_of, said_in, IsKept, IsKeptBy}
use Rattle.timeline.specs.Logs.{Fronted, Backed}
use Rattle.timeline.specs.Passed.{discards, is_mounted, is_followed, reaches}
use Rattle.timeline.specs.Told.{said_by, batches_of}
use Rattle.timeline.specs.declared.back_log.End.{End}
use Rattle.timeline.specs.declared.back_log.Stop.{Stop}
use Rattle.timeline.specs.declared.caller.Cause.{Cause}
use Rattle.timeline.specs.declared.caller.Cause.TheVariants as cause
use Rattle.timeline.specs.declared.entry.Body.{Body}
use Rattle.timeline.specs.declared.entry.Body.TheVariants as body
use Rattle.timeline.specs.declared.entry.Entry.{Entry}
use Rattle.output_gate.specs.Held.{ends_well, is_read}
use Rattle.output_gate.specs.Ended.{last_stop, stop_causes, end_causes, AreInOrder, HasEnded, HaveEnded, IsPlaced, IsLogged, IsEnding, AreEnding, IsLoggedDown, Marks, late_if}
use Rattle.output_gate.specs.Entering.{late_after, needs_by}
use Rattle.output_gate.specs.Fits.{IsAsk, is_halt, last_of}
use Rattle.output_gate.specs.Gate.{Place, place_of}
use Rattle.output_gate.specs.Logs.{no_log}
use Rattle.output_gate.specs.Standing.{AreLogs, own_entries, own_flights, older_of, going_on}
use Rattle.output_gate.specs.declared.back.Ending.{Ending}
use Rattle.output_gate.proofs.Flushes.{front_none}
use Rattle.output_gate.proofs.Gates.{batches_more, sum_push}
use Rattle.output_gate.proofs.Helds.{true_false}
use Rattle.output_gate.proofs.Reading.{discards_read}
use Rattle.output_gate.proofs.Histories.{get_some}
use Rattle.output_gate.proofs.Ordered.{order_own, order_stop, order_halt, order_none}
use Rattle.output_gate.proofs.Passing.{batches_said, lt_add, reach_none, reach_one}
use Rattle.output_gate.proofs.Places.{place_took, place_flew, place_stopped, place_followed_at}

-- as many incarnations as were asked for; and the next one is mounted where each is followed
pub older_length : (front : Fronted) (back : Backed) (n : ℕ) → length (incarnations front back n) ≡ n
older_length front back zero = refl
older_length front back (suc n) = ap suc (older_length front back n)

followed_if : (o : Option End) (end : End) → o ≡ Some end → is_followed (kept_of o) ≡ true
followed_if o end is = ap (λ (x : Option End). is_followed (kept_of x)) is

pub mounted_older : (front : Fronted) (back : Backed) (n : ℕ) → n ≤ length back.ends → is_mounted (incarnations front back n) ≡ true
mounted_older front back zero within = refl
mounted_older front back (suc n) within = let end = get_some back.ends n (omega (arith, within)) in followed_if (slice_get back.ends n) end.0 end.1

abbrev count_or : Option ℕ → ℕ → ℕ
count_or None other = other
count_or (Some k) other = k

pub same_count : (one other : ℕ) → Some one ≡ Some other → one ≡ other
same_count one other same = ap (λ (o : Option ℕ). count_or o one) same

abbrev is_no_count : Option ℕ → Type 0
is_no_count None = Unit {0}
is_no_count (Some k) = ⊥

pub no_count : (k : ℕ) → None ≡ Some k → ⊥
no_count k same = subst is_no_count same tt

abbrev stop_or : Option Stop → Stop → Stop
stop_or None other = other
stop_or (Some stop) other = stop

same_stop : (one other : Stop) → Some one ≡ Some other → one ≡ other
same_stop one other same = ap (λ (o : Option Stop). stop_or o one) same

-- an end by an append and the causes of a front
keeps_durable : (stop : Stop) (flights : List ℕ) → stop.read ≡ false → durable_by (Some stop) flights ≡ sum flights
keeps_durable stop flights unread = ap (λ (b : Bool). if b then stop.batches else sum flights) unread

-- one cause more
causes_push : (stops : List Stop) (stop : Stop) → stop_causes (stops ++ stop ∷ []) ≡ stop_causes stops ++ stop.cause ∷ []
causes_push stops stop = map-append (λ (s : Stop). s.cause) stops (stop ∷ [])

end_push : (ends : List End) (end : End) → end_causes (ends ++ end ∷ []) ≡ end_causes ends ++ end.cause ∷ []
end_push ends end = map-append (λ (e : End). e.cause) ends (end ∷ [])

-- the marks that are of the newest incarnation alone don't matter to what has ended
ended_by : (marks : Marks) (needs : ℕ) (older : History) → HaveEnded marks older → HaveEnded (record marks { needs = needs }) older
ended_by marks needs [] h = tt
ended_by marks needs (i ∷ older) h = record {
  mounted = h.mounted;
  number = h.number;
  stop = h.stop;
  stopped = h.stopped;
  within = h.within;
  kept = h.kept;
  discarded = h.discarded;
  lost = h.lost;
  asked = h.asked;
}

-- what the next message needs, counted from the opening
reached : (b : Body) (kept count q before needs : ℕ) → before ≡ kept + count → needs ≡ kept + q → needs_by b before needs ≡ kept + reaches count q (b ∷ [])
reached (body.Batch ops tail true) kept count q before needs at is = omega (arith, at)
reached (body.Batch ops tail false) kept count q before needs at is = is
reached (body.Message sent) kept count q before needs at is = is
reached (body.Bind identity) kept count q before needs at is = is
reached (body.Ask ask free) kept count q before needs at is = is
reached body.Sync kept count q before needs at is = is
reached (body.Halt cause) kept count q before needs at is = is
reached body.Mend kept count q before needs at is = is

-- what writes nothing leaves it
pub needs_none : (b : Body) (before needs : ℕ) → batches_of (said_by b) ≡ [] → needs_by b before needs ≡ needs
needs_none (body.Batch ops tail confirmed) before needs none = absurd (omega (arith, ap length none))
needs_none (body.Message sent) before needs none = refl
needs_none (body.Bind identity) before needs none = refl
needs_none (body.Ask ask free) before needs none = refl
needs_none body.Sync before needs none = refl
needs_none (body.Halt cause) before needs none = refl
needs_none body.Mend before needs none = refl

-- what late messages need is the same counted from the opening
late_so : (kept ended q flown needs : ℕ) → flown ≡ kept + ended → needs ≡ kept + q → late_if (nat_lt flown needs) needs ≡ late_if (nat_lt ended q) (kept + q)
late_so kept ended q flown needs at is =
    ap (λ (n : ℕ). late_if (nat_lt n needs) needs) at ∙ ap (λ (n : ℕ). late_if (nat_lt (kept + ended) n) n) is ∙ ap (λ (b : Bool). late_if b (kept + q)) (lt_add kept ended q)

-- The log goes on, and what ended stays.
logged_moves : (tells later_tells : Type 0) → (later_tells → tells) → (back later : Backed) (marks : Marks) (own before flown : ℕ) → IsLogged tells back marks own before flown
    → (next : Marks) (new_own new_before new_flown : ℕ) → AreInOrder later.taken later.stops → end_causes later.ends ≡ stop_causes later.stops → (p : Fronted → Place) → ((front : Fronted) → place_of front later ≡ p front)
    → ((front : Fronted) → (p front).older ≡ older_of front back) → ((front : Fronted) → IsPlaced next new_own new_before new_flown (p front))
    → IsLogged later_tells later next new_own new_before new_flown
logged_moves tells later_tells before_it back later marks own before flown l next new_own new_before new_flown ordered followed p at older placed = record {
  ordered = ordered;
  followed = followed;
  placed = λ front. subst (IsPlaced next new_own new_before new_flown) (sym (at front)) (placed front);
  keep = λ yes front. subst KeepBy (sym (ap (λ (q : Place). q.older) (at front) ∙ older front)) (l.keep (before_it yes) front);
}

module _ (tells later_tells : Type 0) (before_it : later_tells → tells) (back : Backed) (marks : Marks) (own before flown : ℕ) where
  pub logged_took : (e : Entry) (more needs : ℕ) → AreLogs back → e.incarnation ≡ suc (length back.stops) → own ≡ length (batches_in (own_entries back)) → needs ≡ needs_by e.body before marks.needs
      → IsLogged tells back marks own before flown
      → IsLogged later_tells (record back { taken = back.taken ++ e ∷ [] }) (record marks { needs = needs }) (own + more) (before + more) flown
  logged_took e more needs logs is is_own is_needs l =
      logged_moves tells later_tells before_it back (record back { taken = back.taken ++ e ∷ [] }) marks own before flown l (record marks { needs = needs }) (own + more) (before + more) flown
      (order_own back.taken back.stops e logs.begun is) l.followed (λ front. record (place_of front back) { taken = own_entries back ++ e ∷ [] }) (λ front. place_took front back e logs is) (λ front. refl)
      (λ front.
      let g = l.placed front in
      let kept : ℕ = length (kept_before (older_of front back)) in
      record {
        counted = omega (arith, g.counted);
        known = g.known;
        reach = is_needs
            ∙ reached e.body kept (length (batches_in (own_entries back))) (reaches 0 0 (said_in (own_entries back))) before marks.needs (omega (arith, g.counted, g.known, is_own)) g.reach
            ∙ ap (λ (n : ℕ). kept + n) (sym (reach_one (own_entries back) e));
        ended = ended_by marks needs (older_of front back) g.ended;
      })

  -- one that writes nothing
  pub logged_said : (e : Entry) → AreLogs back → e.incarnation ≡ suc (length back.stops) → own ≡ length (batches_in (own_entries back)) → batches_of (said_by e.body) ≡ []
      → IsLogged tells back marks own before flown → IsLogged later_tells (record back { taken = back.taken ++ e ∷ [] }) marks own before flown
  logged_said e logs is is_own none l =
      subst (λ (x : ℕ × ℕ). IsLogged later_tells (record back { taken = back.taken ++ e ∷ [] }) marks x.0 x.1 flown)
      (ap (λ (n : ℕ). (n, before + 0)) (omega arith) ∙ ap (λ (n : ℕ). (own, n)) (omega arith)) (logged_took e 0 marks.needs logs is is_own (sym (needs_none e.body before marks.needs none)) l)

  pub logged_flew : AreLogs back → flown ≤ before → IsLogged tells back marks own before flown
      → IsLogged later_tells (record back { flights = back.flights ++ (before - flown) ∷ [] }) marks own before before
  logged_flew logs less l =
      logged_moves tells later_tells before_it back (record back { flights = back.flights ++ (before - flown) ∷ [] }) marks own before flown l marks own before before
      l.ordered l.followed (λ front. record (place_of front back) { flights = own_flights back ++ (before - flown) ∷ [] }) (λ front. place_flew front back (before - flown) logs) (λ front. refl)
      (λ front. let g = l.placed front in record {
        counted = omega (arith, g.counted, sum_push (own_flights back) (before - flown), less);
        known = omega (arith, g.known, sum_push (own_flights back) (before - flown), less);
        reach = g.reach;
        ended = g.ended;
      })

  -- what stands elsewhere in the log doesn't matter
  pub logged_same : (later : Backed) → later.taken ≡ back.taken → later.stops ≡ back.stops → later.ends ≡ back.ends → ((front : Fronted) → place_of front later ≡ place_of front back)
      → IsLogged tells back marks own before flown → IsLogged later_tells later marks own before flown
  logged_same later taken stops ends at l =
      logged_moves tells later_tells before_it back later marks own before flown l marks own before flown
      (subst (λ (x : List Entry × List Stop). AreInOrder x.0 x.1) (ap (λ es. (es, back.stops)) (sym taken) ∙ ap (λ ss. (later.taken, ss)) (sym stops)) l.ordered)
      (ap end_causes ends ∙ l.followed ∙ ap stop_causes (sym stops)) (λ front. place_of front back) at (λ front. refl) l.placed

  -- An append ends the incarnation.
  pub logged_stopped : (stop : Stop) (ending : Ending) → AreLogs back → stop.flights ≡ length back.flights → length back.ends ≡ length back.stops
      → own ≡ length (batches_in (own_entries back)) → flown < before → before ≤ flown + own → stop.batches ≡ own → stop.read ≡ false → discards stop.cause false ≡ true
      → ending.flown ≡ own - (before - flown) → ending.whole ≡ own → ending.cause ≡ stop.cause → IsLogged tells back marks own before flown
      → IsLoggedDown later_tells (record back { stops = back.stops ++ stop ∷ [] }) ending (record { settled = flown; late = late_if (nat_lt flown marks.needs) marks.needs; needs = flown }) flown
  logged_stopped stop ending logs all followed is_own more some batches unread drops is_flown is_whole is_cause l =
      let next : Marks = record { settled = flown; late = late_if (nat_lt flown marks.needs) marks.needs; needs = flown } in
      let later : Backed = record back { stops = back.stops ++ stop ∷ [] } in
      let last : Fronted → Incarnation = λ front. record (going_on front (length back.stops) (own_entries back) (own_flights back)) { stop = Some stop } in
      let at = λ (front : Fronted). place_stopped front back stop logs all in
      let older : (front : Fronted) → older_of front later ≡ last front ∷ older_of front back = λ front. ap (λ (p : Place). p.older) (at front) in
      record {
        ordered = order_stop back.taken back.stops stop l.ordered (omega (arith, is_own, more, some)) (ap (discards stop.cause) unread ∙ drops);
        followed = ap (λ cs. cs ++ ending.cause ∷ []) l.followed ∙ ap (λ c. stop_causes back.stops ++ c ∷ []) is_cause ∙ sym (causes_push back.stops stop);
        even = refl;
        idle = ap (λ (p : Place). p.flights) (at front_none);
        ended = λ front.
            let g = l.placed front in
            let short : durable (last front) ≡ sum (own_flights back) = keeps_durable stop (own_flights back) unread in
            subst (AreEnding ending next) (sym (older front)) record {
              ended = record {
                mounted = mounted_older front back (length back.stops) (omega (arith, followed));
                number = ap suc (sym (older_length front back (length back.stops)));
                stop = stop;
                stopped = refl;
                within = omega (arith, batches, is_own);
                kept = λ k is. absurd (no_count k is);
                lost = λ yes append. omega (arith, short, g.counted, is_own, more, some);
                asked = λ read. absurd (true_false (sym read ∙ unread));
                discarded = λ yes. (
                  omega (arith, short, g.counted, is_own, more, some),
                  omega (arith, short, g.known),
                  late_so (length (kept_before (older_of front back))) (durable (last front)) (reaches 0 0 (said_in (own_entries back))) flown marks.needs (omega (arith, short, g.known)) g.reach,
                );
              };
              unfollowed = refl;
              is_flown = omega (arith, short, is_flown, g.counted, more, some);
              is_whole = omega (arith, is_whole, batches);
              is_cause = is_cause;
              unread = unread;
              discards_some = drops;
            };
        keep = λ yes front. subst KeepBy (sym (older front)) ((λ s k is kept. absurd (no_count k kept)), l.keep (before_it yes) front);
      }

-- of an end by a front's cause, or by a read that failed, all is kept
kept_whole : (c : Cause) (i : Incarnation) (stop : Stop) (kept : ℕ) → ends_well c ≡ true → kept ≡ length (batches_in i.taken) → kept ≡ stop.batches
    → IsKeptBy c (is_read c) i stop kept
kept_whole (cause.Disk before after) i stop kept is all counted = counted
kept_whole (cause.Full needed limit) i stop kept is all counted = absurd (true_false (sym is))
kept_whole cause.Exceeded i stop kept is all counted = all
kept_whole cause.StartThrew i stop kept is all counted = all
kept_whole cause.BlockThrew i stop kept is all counted = all

-- of one by an append what was durable, or this with the whole flight, and of a full journal what was durable
abbrev pub IsFoundBy : Ending → ℕ → Type 0
IsFoundBy ending kept = ((kept ≡ ending.flown) ⊎ (kept ≡ ending.whole)) × ((needed limit : ℕ) → ending.cause ≡ cause.Full needed limit → kept ≡ ending.flown)

kept_found : (c : Cause) (i : Incarnation) (stop : Stop) (kept : ℕ) → discards c false ≡ true → (kept ≡ sum i.flights) ⊎ (kept ≡ stop.batches)
    → ((needed limit : ℕ) → c ≡ cause.Full needed limit → kept ≡ sum i.flights) → IsKeptBy c false i stop kept
kept_found (cause.Disk before after) i stop kept drops one full = one
kept_found (cause.Full needed limit) i stop kept drops one full = full needed limit refl
kept_found cause.Exceeded i stop kept drops one full = absurd (true_false (sym drops))
kept_found cause.StartThrew i stop kept drops one full = absurd (true_false (sym drops))
kept_found cause.BlockThrew i stop kept drops one full = absurd (true_false (sym drops))

-- what is kept of an end at an append isn't changed by what is taken late
kept_late : (c : Cause) (read : Bool) (i : Incarnation) (stop : Stop) (kept : ℕ) (taken : List Entry) → discards c read ≡ true → IsKeptBy c read i stop kept
    → IsKeptBy c read (record i { taken = taken }) stop kept
kept_late (cause.Disk before after) true i stop kept taken drops is = is
kept_late (cause.Disk before after) false i stop kept taken drops is = is
kept_late (cause.Full needed limit) read i stop kept taken drops is = is
kept_late cause.Exceeded read i stop kept taken drops is = absurd (true_false (sym drops))
kept_late cause.StartThrew read i stop kept taken drops is = absurd (true_false (sym drops))
kept_late cause.BlockThrew read i stop kept taken drops is = absurd (true_false (sym drops))

kept_stop : (i : Incarnation) (stop : Stop) (kept : ℕ) (read : Bool) → stop.read ≡ read → IsKeptBy stop.cause read i stop kept → IsKept i stop kept
kept_stop i stop kept read is held = subst (λ b. IsKeptBy stop.cause b i stop kept) (sym is) held

-- all batches are durable, whatever ended it
whole_durable : (read : Bool) (batches own flown : ℕ) → batches ≡ own → flown ≡ own → (if read then batches else flown) ≡ own
whole_durable true batches own flown all even = all
whole_durable false batches own flown all even = even

-- an entry that stands somewhere among some is among those of its incarnation
abbrev is_no_entry : Option Entry → Type 0
is_no_entry None = Unit {0}
is_no_entry (Some e) = ⊥

abbrev entry_or : Option Entry → Entry → Entry
entry_or None other = other
entry_or (Some e) other = e

own_at : (i : ℕ) (entries : List Entry) (n : ℕ) (e : Entry) → slice_get entries n ≡ Some e → e.incarnation ≡ i → Contains (entries_of i entries) e
own_at i [] n e is own = absurd (subst is_no_entry is tt)
own_at i (x ∷ entries) zero e is own =
    let same : x ≡ e = ap (λ (o : Option Entry). entry_or o e) is in
    subst (λ (b : Bool). Contains (if b then x ∷ entries_of i entries else entries_of i entries) e) (sym (eq-eqb x.incarnation i (ap (λ (y : Entry). y.incarnation) same ∙ own)))
    (subst (λ (y : Entry). Contains (y ∷ entries_of i entries) e) (sym same) (Contains-append_left (e ∷ []) (entries_of i entries) e (0, omega arith, refl)))
own_at i (x ∷ entries) (suc n) e is own = own_behind (x.incarnation == i) (own_at i entries n e is own)
  where
    own_behind : (b : Bool) → Contains (entries_of i entries) e → Contains (if b then x ∷ entries_of i entries else entries_of i entries) e
    own_behind true has = Contains-append_right (x ∷ []) (entries_of i entries) e has
    own_behind false has = has

own_last : (back : Backed) (e : Entry) → last_of back.taken ≡ Some e → e.incarnation ≡ suc (length back.stops) → Contains (own_entries back) e
own_last back e is own = own_at (suc (length back.stops)) back.taken (length back.taken - 1) e is own

module _ (tells later_tells : Type 0) (before_it : later_tells → tells) (back : Backed) (marks : Marks) (own before flown : ℕ) where
  -- A halt ends the incarnation, or a read that failed, and the next one begins with all of its batches.
  pub logged_restarted : (stop : Stop) (e : Entry) → AreLogs back → stop.flights ≡ length back.flights → length back.ends ≡ length back.stops
      → own ≡ length (batches_in (own_entries back)) → before ≡ flown → stop.batches ≡ own → stop.read ≡ is_read stop.cause → ends_well stop.cause ≡ true
      → last_of back.taken ≡ Some e → e.incarnation ≡ suc (length back.stops) → (discards stop.cause stop.read ≡ false → is_halt e.body ≡ true)
      → (stop.read ≡ true → IsAsk e.body)
      → (place : (front : Fronted) → place_of front (record back { stops = back.stops ++ stop ∷ []; ends = back.ends ++ record { kept = own; cause = stop.cause } ∷ [] })
      ≡ record { ended = suc (length back.stops); taken = []; flights = []; older = record (going_on front (length back.stops) (own_entries back) (own_flights back)) { stop = Some stop; kept = Some own } ∷ older_of front back })
      → IsLogged tells back marks own before flown
      → IsLogged later_tells (record back { stops = back.stops ++ stop ∷ []; ends = back.ends ++ record { kept = own; cause = stop.cause } ∷ [] }) (record { settled = before; late = Some marks.needs; needs = before }) 0 before flown
  logged_restarted stop e logs all followed is_own even batches unread halting last is halts asks at l =
      let later : Backed = record back { stops = back.stops ++ stop ∷ []; ends = back.ends ++ record { kept = own; cause = stop.cause } ∷ [] } in
      let ended : Fronted → Incarnation = λ front. record (going_on front (length back.stops) (own_entries back) (own_flights back)) { stop = Some stop; kept = Some own } in
      let next : Marks = record { settled = before; late = Some marks.needs; needs = before } in
      record {
        ordered = order_halt back.taken back.stops stop e l.ordered last is halts;
        followed = end_push back.ends (record { kept = own; cause = stop.cause }) ∙ ap (λ cs. cs ++ stop.cause ∷ []) l.followed ∙ sym (causes_push back.stops stop);
        placed = λ front.
            let g = l.placed front in
            let kept : length (take own (batches_in (own_entries back))) ≡ own = length-take-le own (batches_in (own_entries back)) (omega (arith, is_own)) in
            let counts : before ≡ length (kept_before (ended front ∷ older_of front back)) =
            omega (arith, g.known, g.counted, even, kept, length-append (kept_before (older_of front back)) (take own (batches_in (own_entries back)))) in
            let whole : sum (own_flights back) ≡ own = omega (arith, g.counted, even) in
            let all_durable : durable (ended front) ≡ own = whole_durable stop.read stop.batches own (sum (own_flights back)) batches whole in
            let reach : reaches 0 0 (said_in (own_entries back)) ≤ own =
            omega (arith, is_own, batches_said (own_entries back) 0, reach_within (said_in (own_entries back)) 0 0 (omega arith)) in
            let known : flown ≡ length (kept_before (older_of front back)) + durable (ended front) = omega (arith, g.known, whole, all_durable) in
            subst (IsPlaced next 0 before flown) (sym (at front)) record {
              counted = omega (arith, even);
              known = omega (arith, even, counts);
              reach = omega (arith, counts);
              ended = record {
                mounted = mounted_older front back (length back.stops) (omega (arith, followed));
                number = ap suc (sym (older_length front back (length back.stops)));
                stop = stop;
                stopped = refl;
                within = omega (arith, batches, is_own);
                kept = λ k so. omega (arith, same_count own k so, is_own);
                lost = λ yes append. absurd (true_false (sym (discards_read stop.cause halting (ap (discards stop.cause) (sym unread) ∙ yes)) ∙ sym unread ∙ append));
                asked = λ read. (e, own_last back e last is, asks read);
                discarded = λ yes. (
                  omega (arith, all_durable, is_own),
                  omega (arith, even, known),
                  sym (ap (λ (less : Bool). late_if less marks.needs) (le-ltb flown marks.needs (omega (arith, g.reach, reach, known, all_durable))))
                      ∙ late_so (length (kept_before (older_of front back))) (durable (ended front)) (reaches 0 0 (said_in (own_entries back))) flown marks.needs known g.reach,
                );
              };
            };
        keep = λ yes front. subst KeepBy (sym (ap (λ (p : Place). p.older) (at front))) (
          λ s k so kept. subst (λ (x : Stop × ℕ). IsKept (ended front) x.0 x.1) (ap (λ (y : Stop). (y, own)) (same_stop stop s so) ∙ ap (λ n. (s, n)) (same_count own k kept))
              (kept_stop (ended front) stop own (is_read stop.cause) unread (kept_whole stop.cause (ended front) stop own halting is_own (sym batches))),
          l.keep (before_it yes) front,
        );
      }

-- the two ways of the last incarnation's own list
pub last_of_stops : (stops : List Stop) (last : ℕ) (s : Stop) → length stops ≡ suc last → slice_get stops last ≡ Some s → last_stop stops ≡ Some s
last_of_stops stops last s long is = ap (slice_get stops) (omega (arith, long)) ∙ is

module _ (tells later_tells : Type 0) (before_it : later_tells → tells) (back : Backed) (ending : Ending) (marks : Marks) (flown : ℕ) where
  ending_older : (front : Fronted) (last : ℕ) → length back.stops ≡ suc last → IsLoggedDown tells back ending marks flown
      → IsEnding ending marks (incarnation_at front back last) (incarnations front back last)
  ending_older front last long l = subst (AreEnding ending marks) (ap (incarnations front back) long) (l.ended front)

  keep_older : (front : Fronted) (last : ℕ) → length back.stops ≡ suc last → IsLoggedDown tells back ending marks flown → tells
      → KeepBy (incarnation_at front back last ∷ incarnations front back last)
  keep_older front last long l tell = subst KeepBy (ap (incarnations front back) long) (l.keep tell front)

  -- so many batches of the last incarnation were found, and the next one begins
  pub logged_begun : (kept now : ℕ) → AreLogs back → length back.stops ≡ suc (length back.ends) → (kept ≡ ending.flown) ⊎ (kept ≡ ending.whole)
      → (later_tells → IsFoundBy ending kept) → ending.flown ≤ ending.whole → now ≡ flown + (kept - ending.flown) → length (batches_in (own_entries back)) ≡ 0
      → IsLoggedDown tells back ending marks flown
      → IsLogged later_tells (record back { ends = back.ends ++ record { kept = kept; cause = ending.cause } ∷ [] }) (record marks { needs = now }) 0 now now
  logged_begun kept now logs long one found more is none l =
      let last : ℕ = length back.ends in
      let later : Backed = record back { ends = back.ends ++ record { kept = kept; cause = ending.cause } ∷ [] } in
      let at = λ (front : Fronted). place_followed_at front back (record { kept = kept; cause = ending.cause }) logs last long refl in
      record {
        ordered = l.ordered;
        followed = end_push back.ends (record { kept = kept; cause = ending.cause }) ∙ l.followed;
        placed = λ front.
            let i : Incarnation = incarnation_at front back last in
            let older : History = incarnations front back last in
            let e = ending_older front last long l in
            let d = e.ended.discarded (ap (discards e.ended.stop.cause) e.unread ∙ e.discards_some) in
            let bounds : (ending.flown ≤ kept) × (kept ≤ length (batches_in i.taken)) =
            ⊎_elim (λ flown. (omega (arith, flown), omega (arith, flown, e.is_flown, d.0))) (λ whole. (omega (arith, whole, more), omega (arith, whole, e.is_whole, e.ended.within))) one in
            let taken : length (take kept (batches_in i.taken)) ≡ kept = length-take-le kept (batches_in i.taken) bounds.1 in
            let counts : now ≡ length (kept_before (record i { kept = Some kept } ∷ older)) =
            omega (arith, is, l.even, d.1, e.is_flown, bounds.0, taken, length-append (kept_before older) (take kept (batches_in i.taken))) in
            subst (IsPlaced (record marks { needs = now }) 0 now now) (sym (at front)) record {
              counted = omega (arith, ap sum l.idle);
              known = omega (arith, ap sum l.idle, counts);
              reach = omega (arith, counts, reach_none (own_entries back) none);
              ended = record {
                mounted = e.ended.mounted;
                number = e.ended.number;
                stop = e.ended.stop;
                stopped = e.ended.stopped;
                within = e.ended.within;
                kept = λ k so. omega (arith, same_count kept k so, bounds.1);
                discarded = λ yes. e.ended.discarded yes;
                lost = λ yes append. e.ended.lost yes append;
                asked = λ read. e.ended.asked read;
              };
            };
        keep = λ yes front.
            let i : Incarnation = incarnation_at front back last in
            let e = ending_older front last long l in
            let s : Stop = e.ended.stop in
            let f = found yes in
            let short : durable i ≡ sum i.flights = ap (λ (o : Option Stop). durable_by o i.flights) e.ended.stopped ∙ keeps_durable s i.flights e.unread in
            subst KeepBy (sym (ap (λ (p : Place). p.older) (at front))) (
              λ stop k so is_kept.
                  subst (λ (x : Stop × ℕ). IsKept (record i { kept = Some kept }) x.0 x.1) (ap (λ (y : Stop). (y, kept)) (same_stop s stop (sym e.ended.stopped ∙ so)) ∙ ap (λ n. (stop, n)) (same_count kept k is_kept))
                  (kept_stop (record i { kept = Some kept }) s kept false e.unread
                  (kept_found s.cause (record i { kept = Some kept }) s kept e.discards_some
                  (⊎_elim (λ flown. inl (flown ∙ e.is_flown ∙ short)) (λ whole. inr (whole ∙ e.is_whole)) f.0)
                  (λ needed limit full. f.1 needed limit (e.is_cause ∙ full) ∙ e.is_flown ∙ short))),
              (keep_older front last long l (before_it yes)).1,
            );
      }

  -- the log goes on while the object is down
  pub down_moves : (later : Backed) → AreInOrder later.taken later.stops → later.stops ≡ back.stops → later.ends ≡ back.ends → ((front : Fronted) → older_of front later ≡ older_of front back) → own_flights later ≡ own_flights back
      → IsLoggedDown tells back ending marks flown → IsLoggedDown later_tells later ending marks flown
  down_moves later ordered stops ends older flights l = record {
    ordered = ordered;
    followed = ap (λ es. end_causes es ++ ending.cause ∷ []) ends ∙ l.followed ∙ ap stop_causes (sym stops);
    even = l.even;
    idle = flights ∙ l.idle;
    ended = λ front. subst (AreEnding ending marks) (sym (older front)) (l.ended front);
    keep = λ yes front. subst KeepBy (sym (older front)) (l.keep (before_it yes) front);
  }

  pub down_took : (e : Entry) → AreLogs back → e.incarnation ≡ suc (length back.stops) → IsLoggedDown tells back ending marks flown
      → IsLoggedDown later_tells (record back { taken = back.taken ++ e ∷ [] }) ending marks flown
  down_took e logs is l =
      down_moves (record back { taken = back.taken ++ e ∷ [] }) (order_own back.taken back.stops e logs.begun is) refl refl
      (λ front. ap (λ (p : Place). p.older) (place_took front back e logs is)) (ap (λ (p : Place). p.flights) (place_took front_none back e logs is)) l

  pub down_same : (later : Backed) → later.taken ≡ back.taken → later.stops ≡ back.stops → later.ends ≡ back.ends → ((front : Fronted) → place_of front later ≡ place_of front back)
      → IsLoggedDown tells back ending marks flown → IsLoggedDown later_tells later ending marks flown
  down_same later taken stops ends at l =
      down_moves later (subst (λ (x : List Entry × List Stop). AreInOrder x.0 x.1) (ap (λ es. (es, back.stops)) (sym taken) ∙ ap (λ ss. (later.taken, ss)) (sym stops)) l.ordered) stops ends
      (λ front. ap (λ (p : Place). p.older) (at front)) (ap (λ (p : Place). p.flights) (at front_none)) l

-- a late batch that is confirmed is one more than was durable; nothing else changes what late messages need
late_grows : (b : Body) (kept ended count q : ℕ) → ended ≤ count
    → late_after b (late_if (nat_lt ended q) (kept + q)) ≡ late_if (nat_lt ended (reaches count q (b ∷ []))) (kept + reaches count q (b ∷ []))
late_grows (body.Batch ops tail true) kept ended count q less = sym (ap (λ (b : Bool). late_if b (kept + (count + 1))) (lt-ltb ended (count + 1) (omega (arith, less))))
late_grows (body.Batch ops tail false) kept ended count q less = refl
late_grows (body.Message sent) kept ended count q less = refl
late_grows (body.Bind identity) kept ended count q less = refl
late_grows (body.Ask ask free) kept ended count q less = refl
late_grows body.Sync kept ended count q less = refl
late_grows (body.Halt cause) kept ended count q less = refl
late_grows body.Mend kept ended count q less = refl

-- What is taken late of an incarnation that has ended changes nothing of its end but what its late messages need.
abbrev pub marks_late : Marks → Entry → Marks
marks_late marks e = record marks { late = late_after e.body marks.late }

pub ended_late : (marks : Marks) (i : Incarnation) (older : History) (e : Entry) → HasEnded marks i older → HasEnded (marks_late marks e) (record i { taken = i.taken ++ e ∷ [] }) older
ended_late marks i older e h =
    let more : length (batches_in (i.taken ++ e ∷ [])) ≡ length (batches_in i.taken) + length (batches_of (said_by e.body)) =
    omega (arith, ap length (batches_more i.taken e), length-append (batches_in i.taken) (batches_of (said_by e.body))) in
    let kept : ℕ = length (kept_before older) in
    record {
      mounted = h.mounted;
      number = h.number;
      stop = h.stop;
      stopped = h.stopped;
      within = omega (arith, h.within, more);
      kept = λ k is. omega (arith, h.kept k is, more);
      lost = λ yes append. omega (arith, h.lost yes append, more);
      asked = λ read. let a = h.asked read in (a.0, Contains-append_left i.taken (e ∷ []) a.0 a.1, a.2);
      discarded = λ yes. let d = h.discarded yes in (
        omega (arith, d.0, more),
        d.1,
        ap (late_after e.body) d.2
            ∙ late_grows e.body kept (durable i) (length (batches_in i.taken)) (reaches 0 0 (said_in i.taken)) d.0
            ∙ ap (λ (q : ℕ). late_if (nat_lt (durable i) q) (kept + q)) (sym (reach_one i.taken e)),
      );
    }

pub ending_late : (ending : Ending) (marks : Marks) (i : Incarnation) (older : History) (e : Entry) → IsEnding ending marks i older
    → IsEnding ending (marks_late marks e) (record i { taken = i.taken ++ e ∷ [] }) older
unfolding ended_late
ending_late ending marks i older e g = record {
  ended = ended_late marks i older e g.ended;
  unfollowed = g.unfollowed;
  is_flown = g.is_flown;
  is_whole = g.is_whole;
  is_cause = g.is_cause;
  unread = g.unread;
  discards_some = g.discards_some;
}

pub keep_late : (marks : Marks) (i : Incarnation) (older : History) (e : Entry) (h : HasEnded marks i older) → discards h.stop.cause h.stop.read ≡ true → KeepBy (i ∷ older)
    → KeepBy (record i { taken = i.taken ++ e ∷ [] } ∷ older)
keep_late marks i older e h drops keep = (
  λ stop k so kept. kept_late stop.cause stop.read i stop k (i.taken ++ e ∷ [])
      (ap (λ (s : Stop). discards s.cause s.read) (sym (same_stop h.stop stop (sym h.stopped ∙ so))) ∙ drops) (keep.0 stop k so kept),
  keep.1,
)

-- a log in which nothing stands
abbrev pub no_marks : Marks
no_marks = record { settled = 0; late = None; needs = 0 }

pub logged_new : (tells : Type 0) (back : Backed) → back ≡ no_log → IsLogged tells back no_marks 0 0 0
logged_new tells back empty = subst (λ (b : Backed). IsLogged tells b no_marks 0 0 0) (sym empty) record {
  ordered = order_none;
  followed = refl;
  placed = λ front. record { counted = refl; known = refl; reach = refl; ended = tt };
  keep = λ yes front. tt;
}
