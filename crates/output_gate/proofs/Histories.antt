-- How the history of an object goes on by a step of its back.
use Rattle.std.proofs.Common.{◌≡◌, ◌∙◌, ap, sym, refl, inl, inr, ⊎_elim, ℕ, zero, suc, ◌<◌, ◌≤◌, List, [], ◌∷◌, ◌++◌, append-nil, length, take, drop, arith, Option, Some, None}
use Rattle.std.proofs.lemmas.Bool.{ne_eqb, eq-eqb}
use Rattle.std.proofs.lemmas.List.{length_push, take-append-le, drop-append-le}
use Rattle.std.proofs.lemmas.List.Elements.{filter-append, All-head, All-tail, All-push}
use Rattle.std.proofs.lemmas.Option.{slice_get_past}
use Rattle.std.proofs.Math.Seq.{take-length, drop-length}
use Rattle.std.specs.Prelude.{Bool, cond, ◌==◌, slice_get, ◌⊎◌}
use Rattle.std.specs.List.{All}
use Rattle.timeline.specs.History.{Incarnation, History, of_number, entries_of, kept_of, flights_of, flown, stop_before, incarnation_at, incarnations, history}
use Rattle.timeline.specs.Logs.{Fronted, Backed}
use Rattle.timeline.specs.declared.back_log.End.{End}
use Rattle.timeline.specs.declared.back_log.Stop.{Stop}
use Rattle.timeline.specs.declared.entry.Entry.{Entry}
use Rattle.output_gate.specs.Standing.{AreLogs, own_entries, own_flights, older_of, going_on}

-- an element of a longer list, and its last one
pub get_some : {X : Type 0} (xs : List X) (i : ℕ) → i < length xs → (x : X) × (slice_get xs i ≡ Some x)
get_some [] i less = absurd (omega (arith, less))
get_some (x ∷ xs) zero less = (x, refl)
get_some (x ∷ xs) (suc i) less = get_some xs i (omega (arith, less))

pub get_more : {X : Type 0} (xs : List X) (y : X) (i : ℕ) → i < length xs → slice_get (xs ++ y ∷ []) i ≡ slice_get xs i
get_more [] y i less = absurd (omega (arith, less))
get_more (x ∷ xs) y zero less = refl
get_more (x ∷ xs) y (suc i) less = get_more xs y i (omega (arith, less))

pub get_last : {X : Type 0} (xs : List X) (y : X) → slice_get (xs ++ y ∷ []) (length xs) ≡ Some y
get_last [] y = refl
get_last (x ∷ xs) y = get_last xs y

-- an entry of a number, of another, and none of a number
entries_more : (i : ℕ) (entries : List Entry) (e : Entry) → e.incarnation ≡ i → entries_of i (entries ++ e ∷ []) ≡ entries_of i entries ++ e ∷ []
entries_more i entries e is =
    filter-append (λ (x : Entry). x.incarnation == i) entries (e ∷ [])
    ∙ ap (λ (b : Bool). entries_of i entries ++ cond b (e ∷ []) []) (eq-eqb e.incarnation i is)

entries_same : (i : ℕ) (entries : List Entry) (e : Entry) → (e.incarnation ≡ i → ⊥) → entries_of i (entries ++ e ∷ []) ≡ entries_of i entries
entries_same i entries e other =
    filter-append (λ (x : Entry). x.incarnation == i) entries (e ∷ [])
    ∙ ap (λ (b : Bool). entries_of i entries ++ cond b (e ∷ []) []) (ne_eqb e.incarnation i other)
    ∙ append-nil (entries_of i entries)

pub entries_none : (i : ℕ) (entries : List Entry) → All (λ e. e.incarnation < i) entries → entries_of i entries ≡ []
entries_none i [] less = refl
entries_none i (e ∷ entries) less =
    let here : e.incarnation < i = All-head (λ (x : Entry). x.incarnation < i) e entries less in
    ap (λ (b : Bool). cond b (e ∷ entries_of i entries) (entries_of i entries)) (ne_eqb e.incarnation i (λ same. omega (arith, here, same)))
    ∙ entries_none i entries (All-tail (λ (x : Entry). x.incarnation < i) e entries less)

abbrev given : Option Stop → Stop → Stop
given None other = other
given (Some stop) other = stop

module _ (front : Fronted) where
  -- the older incarnations are the same where each is
  pub same_below : (old new : Backed) (n : ℕ) → ((index : ℕ) → index < n → incarnation_at front new index ≡ incarnation_at front old index)
      → incarnations front new n ≡ incarnations front old n
  same_below old new zero same = refl
  same_below old new (suc index) same =
      ap (λ (i : Incarnation). i ∷ incarnations front new index) (same index (omega arith))
      ∙ ap (λ (older : History). incarnation_at front old index ∷ older) (same_below old new index (λ k less. same k (omega (arith, less))))

  -- an incarnation by its stop and its end
  abbrev built : Backed → ℕ → List Entry → Option Stop → Option Stop → Option End → Incarnation
  built back n taken before stop end = record {
    number = suc n;
    delivered = of_number (suc n) front.delivered;
    sent = entries_of (suc n) front.sent;
    taken = taken;
    flights = drop (flown before) (flights_of stop back.flights);
    stop = stop;
    kept = kept_of end;
  }

  head_stands : (back : Backed) → AreLogs back → incarnation_at front back (length back.stops) ≡ going_on front (length back.stops) (own_entries back) (own_flights back)
  head_stands back logs = let n = length back.stops in
      ap (λ (s : Option Stop). built back n (own_entries back) (stop_before n back.stops) s (slice_get back.ends n)) (slice_get_past back.stops n (omega arith))
      ∙ ap (λ (e : Option End). built back n (own_entries back) (stop_before n back.stops) None e) (slice_get_past back.ends n logs.ends)

  pub stands : (back : Backed) → AreLogs back → history front back ≡ going_on front (length back.stops) (own_entries back) (own_flights back) ∷ older_of front back
  stands back logs = ap (λ (i : Incarnation). i ∷ older_of front back) (head_stands back logs)

  -- the newest number is after all that was taken, where nothing of it was
  pub all_below : (back : Backed) (n : ℕ) → AreLogs back → suc (length back.stops) < n → entries_of n back.taken ≡ []
  all_below back n logs less = entries_none n back.taken (λ k d lt. omega (arith, logs.begun k d lt, less))

  pub takes_fit : (back : Backed) (e : Entry) → AreLogs back → e.incarnation ≤ suc (length back.stops) → AreLogs (record back { taken = back.taken ++ e ∷ [] })
  takes_fit back e logs within =
      record { flown = logs.flown; begun = All-push (λ (x : Entry). x.incarnation ≤ suc (length back.stops)) back.taken e logs.begun within; ends = logs.ends }

  pub takes : (back : Backed) (e : Entry) → AreLogs back → e.incarnation ≡ suc (length back.stops)
      → history front (record back { taken = back.taken ++ e ∷ [] })
      ≡ going_on front (length back.stops) (own_entries back ++ e ∷ []) (own_flights back) ∷ older_of front back
  takes back e logs is =
      let n = length back.stops in
      let new : Backed = record back { taken = back.taken ++ e ∷ [] } in
      let fits : AreLogs new = record { flown = logs.flown; begun = All-push (λ (x : Entry). x.incarnation ≤ suc n) back.taken e logs.begun (omega (arith, is)); ends = logs.ends } in
      let below : (index : ℕ) → index < n → incarnation_at front new index ≡ incarnation_at front back index =
      λ index less. ap (λ (entries : List Entry). record (incarnation_at front back index) { taken = entries }) (entries_same (suc index) back.taken e (λ same. omega (arith, is, same, less))) in
      stands new fits
      ∙ ap (λ (entries : List Entry). going_on front n entries (own_flights back) ∷ older_of front new) (entries_more (suc n) back.taken e is)
      ∙ ap (λ (older : History). going_on front n (own_entries back ++ e ∷ []) (own_flights back) ∷ older) (same_below back new n below)

  pub takes_late : (back : Backed) (e : Entry) (last : ℕ) → AreLogs back → length back.stops ≡ suc last → e.incarnation ≡ suc last
      → history front (record back { taken = back.taken ++ e ∷ [] })
      ≡ going_on front (suc last) (own_entries back) (own_flights back)
      ∷ record (incarnation_at front back last) { taken = (incarnation_at front back last).taken ++ e ∷ [] } ∷ incarnations front back last
  takes_late back e last logs ended is =
      let new : Backed = record back { taken = back.taken ++ e ∷ [] } in
      let fits : AreLogs new = record { flown = logs.flown; begun = All-push (λ (x : Entry). x.incarnation ≤ suc (length back.stops)) back.taken e logs.begun (omega (arith, is, ended)); ends = logs.ends } in
      let below : (index : ℕ) → index < last → incarnation_at front new index ≡ incarnation_at front back index =
      λ index less. ap (λ (entries : List Entry). record (incarnation_at front back index) { taken = entries }) (entries_same (suc index) back.taken e (λ same. omega (arith, is, same, less))) in
      stands new fits
      ∙ ap (λ (entries : List Entry). going_on front (length back.stops) entries (own_flights back) ∷ older_of front new) (entries_same (suc (length back.stops)) back.taken e (λ same. omega (arith, is, ended, same)))
      ∙ ap (λ (n : ℕ). going_on front n (own_entries back) (own_flights back) ∷ incarnations front new n) ended
      ∙ ap (λ (entries : List Entry). going_on front (suc last) (own_entries back) (own_flights back) ∷ record (incarnation_at front back last) { taken = entries } ∷ incarnations front new last)
      (entries_more (suc last) back.taken e is)
      ∙ ap (λ (older : History). going_on front (suc last) (own_entries back) (own_flights back)
      ∷ record (incarnation_at front back last) { taken = entries_of (suc last) back.taken ++ e ∷ [] } ∷ older) (same_below back new last below)

  -- the flights before the newest incarnation are there
  flown_within : (back : Backed) → AreLogs back → (index : ℕ) (s : Option Stop) → slice_get back.stops index ≡ s → flown s ≤ length back.flights
  flown_within back logs index None is = omega arith
  flown_within back logs index (Some stop) is = logs.flown index stop is

  before_within : (back : Backed) → AreLogs back → (n : ℕ) → flown (stop_before n back.stops) ≤ length back.flights
  before_within back logs zero = omega arith
  before_within back logs (suc index) = flown_within back logs index (slice_get back.stops index) refl

  pub flies_fit : (back : Backed) (count : ℕ) → AreLogs back → AreLogs (record back { flights = back.flights ++ count ∷ [] })
  flies_fit back count logs = record { flown = λ index stop is. omega (arith, logs.flown index stop is, length_push back.flights count); begun = logs.begun; ends = logs.ends }

  pub flies : (back : Backed) (count : ℕ) → AreLogs back
      → history front (record back { flights = back.flights ++ count ∷ [] })
      ≡ going_on front (length back.stops) (own_entries back) (own_flights back ++ count ∷ []) ∷ older_of front back
  flies back count logs =
      let n = length back.stops in
      let new : Backed = record back { flights = back.flights ++ count ∷ [] } in
      let fits : AreLogs new = flies_fit back count logs in
      let below : (index : ℕ) → index < n → incarnation_at front new index ≡ incarnation_at front back index = λ index less.
      let stop = get_some back.stops index less in
      let same : flights_of (slice_get back.stops index) (back.flights ++ count ∷ []) ≡ flights_of (slice_get back.stops index) back.flights =
      ap (λ (s : Option Stop). flights_of s (back.flights ++ count ∷ [])) stop.1
      ∙ take-append-le stop.0.flights back.flights (count ∷ []) (logs.flown index stop.0 stop.1)
      ∙ ap (λ (s : Option Stop). flights_of s back.flights) (sym stop.1) in
      ap (λ (flights : List ℕ). record (incarnation_at front back index) { flights = drop (flown (stop_before index back.stops)) flights }) same in
      stands new fits
      ∙ ap (λ (flights : List ℕ). going_on front n (own_entries back) flights ∷ older_of front new) (drop-append-le (flown (stop_before n back.stops)) back.flights (count ∷ []) (before_within back logs n))
      ∙ ap (λ (older : History). going_on front n (own_entries back) (own_flights back ++ count ∷ []) ∷ older) (same_below back new n below)

  -- the stops before a number are among the first ones
  before_more : (stops : List Stop) (stop : Stop) (n : ℕ) → n ≤ length stops → stop_before n (stops ++ stop ∷ []) ≡ stop_before n stops
  before_more stops stop zero within = refl
  before_more stops stop (suc index) within = get_more stops stop index (omega (arith, within))

  get_cases : (xs : List Stop) (y : Stop) (i : ℕ) (s : Stop) → slice_get (xs ++ y ∷ []) i ≡ Some s → (slice_get xs i ≡ Some s) ⊎ (y ≡ s)
  get_cases [] y zero s is = inr (ap (λ (o : Option Stop). given o y) is)
  get_cases [] y (suc i) s is = inl is
  get_cases (x ∷ xs) y zero s is = inl is
  get_cases (x ∷ xs) y (suc i) s is = get_cases xs y i s is

  pub stops_fit : (back : Backed) (stop : Stop) → AreLogs back → stop.flights ≡ length back.flights → AreLogs (record back { stops = back.stops ++ stop ∷ [] })
  stops_fit back stop logs all = record {
    flown = λ index s is. ⊎_elim (λ old. logs.flown index s old) (λ new. omega (arith, all, ap (λ (x : Stop). x.flights) new)) (get_cases back.stops stop index s is);
    begun = λ k d lt. omega (arith, logs.begun k d lt, length_push back.stops stop);
    ends = omega (arith, logs.ends, length_push back.stops stop);
  }

  pub stops : (back : Backed) (stop : Stop) → AreLogs back → stop.flights ≡ length back.flights
      → history front (record back { stops = back.stops ++ stop ∷ [] })
      ≡ going_on front (suc (length back.stops)) [] []
      ∷ record (going_on front (length back.stops) (own_entries back) (own_flights back)) { stop = Some stop } ∷ older_of front back
  stops back stop logs all =
      let n = length back.stops in
      let new : Backed = record back { stops = back.stops ++ stop ∷ [] } in
      let one_more : length new.stops ≡ suc n = omega (arith, length_push back.stops stop) in
      let ended : Incarnation = record (going_on front n (own_entries back) (own_flights back)) { stop = Some stop } in
      let below : (index : ℕ) → index < n → incarnation_at front new index ≡ incarnation_at front back index = λ index less.
      ap (λ (s : Option Stop). built back index (entries_of (suc index) back.taken) (stop_before index new.stops) s (slice_get back.ends index)) (get_more back.stops stop index less)
      ∙ ap (λ (b : Option Stop). built back index (entries_of (suc index) back.taken) b (slice_get back.stops index) (slice_get back.ends index)) (before_more back.stops stop index (omega (arith, less))) in
      let at_end : incarnation_at front new n ≡ ended =
      ap (λ (s : Option Stop). built back n (own_entries back) (stop_before n new.stops) s (slice_get back.ends n)) (get_last back.stops stop)
      ∙ ap (λ (b : Option Stop). built back n (own_entries back) b (Some stop) (slice_get back.ends n)) (before_more back.stops stop n (omega arith))
      ∙ ap (λ (e : Option End). built back n (own_entries back) (stop_before n back.stops) (Some stop) e) (slice_get_past back.ends n logs.ends)
      ∙ ap (λ (flights : List ℕ). record ended { flights = drop (flown (stop_before n back.stops)) flights }) (ap (λ (k : ℕ). take k back.flights) all ∙ take-length back.flights) in
      let begins : incarnation_at front new (suc n) ≡ going_on front (suc n) [] [] =
      ap (λ (s : Option Stop). built back (suc n) (entries_of (suc (suc n)) back.taken) (stop_before (suc n) new.stops) s (slice_get back.ends (suc n))) (slice_get_past new.stops (suc n) (omega (arith, one_more)))
      ∙ ap (λ (b : Option Stop). built back (suc n) (entries_of (suc (suc n)) back.taken) b None (slice_get back.ends (suc n))) (get_last back.stops stop)
      ∙ ap (λ (e : Option End). built back (suc n) (entries_of (suc (suc n)) back.taken) (Some stop) None e) (slice_get_past back.ends (suc n) (omega (arith, logs.ends)))
      ∙ ap (λ (entries : List Entry). built back (suc n) entries (Some stop) None None) (all_below back (suc (suc n)) logs (omega arith))
      ∙ ap (λ (flights : List ℕ). going_on front (suc n) [] flights) (ap (λ (k : ℕ). drop k back.flights) all ∙ drop-length back.flights) in
      ap (λ (m : ℕ). incarnations front new (suc m)) one_more
      ∙ ap (λ (i : Incarnation). i ∷ incarnation_at front new n ∷ incarnations front new n) begins
      ∙ ap (λ (i : Incarnation). going_on front (suc n) [] [] ∷ i ∷ incarnations front new n) at_end
      ∙ ap (λ (older : History). going_on front (suc n) [] [] ∷ ended ∷ older) (same_below back new n below)

  pub follows_fits : (back : Backed) (end : End) → AreLogs back → (last : ℕ) → length back.stops ≡ suc last → length back.ends ≡ last → AreLogs (record back { ends = back.ends ++ end ∷ [] })
  follows_fits back end logs last ended followed = record { flown = logs.flown; begun = logs.begun; ends = omega (arith, length_push back.ends end, ended, followed) }

  pub follows : (back : Backed) (end : End) → AreLogs back → (last : ℕ) → length back.stops ≡ suc last → length back.ends ≡ last
      → history front (record back { ends = back.ends ++ end ∷ [] })
      ≡ going_on front (suc last) (own_entries back) (own_flights back)
      ∷ record (incarnation_at front back last) { kept = Some end.kept } ∷ incarnations front back last
  follows back end logs last ended followed =
      let new : Backed = record back { ends = back.ends ++ end ∷ [] } in
      let fits : AreLogs new = record { flown = logs.flown; begun = logs.begun; ends = omega (arith, length_push back.ends end, ended, followed) } in
      let below : (index : ℕ) → index < last → incarnation_at front new index ≡ incarnation_at front back index = λ index less.
      ap (λ (e : Option End). record (incarnation_at front back index) { kept = kept_of e }) (get_more back.ends end index (omega (arith, less, followed))) in
      stands new fits
      ∙ ap (λ (n : ℕ). going_on front n (own_entries back) (own_flights back) ∷ incarnations front new n) ended
      ∙ ap (λ (e : Option End). going_on front (suc last) (own_entries back) (own_flights back) ∷ record (incarnation_at front back last) { kept = kept_of e } ∷ incarnations front new last)
      (ap (slice_get new.ends) (sym followed) ∙ get_last back.ends end)
      ∙ ap (λ (older : History). going_on front (suc last) (own_entries back) (own_flights back) ∷ record (incarnation_at front back last) { kept = Some end.kept } ∷ older) (same_below back new last below)
