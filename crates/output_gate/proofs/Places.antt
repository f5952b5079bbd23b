-- Where the history of a log stands behind each step.
use Rattle.std.proofs.Common.{◌≡◌, ap, refl, ℕ, suc, List, [], ◌∷◌, ◌++◌, length, arith, Some}
use Rattle.timeline.specs.History.{History, incarnation_at, incarnations}
use Rattle.timeline.specs.Logs.{Fronted, Backed}
use Rattle.timeline.specs.declared.back_log.End.{End}
use Rattle.timeline.specs.declared.back_log.Missed.{Missed}
use Rattle.timeline.specs.declared.back_log.Release.{Release}
use Rattle.timeline.specs.declared.back_log.Stop.{Stop}
use Rattle.timeline.specs.declared.entry.Entry.{Entry}
use Rattle.output_gate.specs.Down.{place_down}
use Rattle.output_gate.specs.Gate.{place_of}
use Rattle.output_gate.specs.Standing.{AreLogs, own_entries, own_flights, older_of, going_on}
use Rattle.output_gate.proofs.Flushes.{placed}
use Rattle.output_gate.proofs.Histories.{same_below, takes, takes_fit, takes_late, flies, flies_fit, stops, stops_fit, follows, follows_fits}

module _ (front : Fronted) (back : Backed) where
  pub place_took : (e : Entry) → AreLogs back → e.incarnation ≡ suc (length back.stops)
      → place_of front (record back { taken = back.taken ++ e ∷ [] }) ≡ record (place_of front back) { taken = own_entries back ++ e ∷ [] }
  place_took e logs is =
      placed front (record back { taken = back.taken ++ e ∷ [] }) (record (place_of front back) { taken = own_entries back ++ e ∷ [] })
      (takes_fit front back e logs (omega (arith, is))) (takes front back e logs is)

  pub place_late : (e : Entry) (last : ℕ) → AreLogs back → length back.stops ≡ suc last → e.incarnation ≡ suc last
      → place_of front (record back { taken = back.taken ++ e ∷ [] }) ≡ record {
        ended = suc last;
        taken = own_entries back;
        flights = own_flights back;
        older = record (incarnation_at front back last) { taken = (incarnation_at front back last).taken ++ e ∷ [] } ∷ incarnations front back last;
      }
  place_late e last logs ended is =
      placed front (record back { taken = back.taken ++ e ∷ [] }) _ (takes_fit front back e logs (omega (arith, is, ended))) (takes_late front back e last logs ended is)

  pub place_flew : (count : ℕ) → AreLogs back
      → place_of front (record back { flights = back.flights ++ count ∷ [] }) ≡ record (place_of front back) { flights = own_flights back ++ count ∷ [] }
  place_flew count logs =
      placed front (record back { flights = back.flights ++ count ∷ [] }) (record (place_of front back) { flights = own_flights back ++ count ∷ [] })
      (flies_fit front back count logs) (flies front back count logs)

  pub place_stopped : (stop : Stop) → AreLogs back → stop.flights ≡ length back.flights
      → place_of front (record back { stops = back.stops ++ stop ∷ [] })
      ≡ place_down (suc (length back.stops)) [] (record (going_on front (length back.stops) (own_entries back) (own_flights back)) { stop = Some stop }) (older_of front back)
  place_stopped stop logs all =
      placed front (record back { stops = back.stops ++ stop ∷ [] })
      (place_down (suc (length back.stops)) [] (record (going_on front (length back.stops) (own_entries back) (own_flights back)) { stop = Some stop }) (older_of front back))
      (stops_fit front back stop logs all) (stops front back stop logs all)

  pub place_followed_at : (end : End) → AreLogs back → (last : ℕ) → length back.stops ≡ suc last → length back.ends ≡ last
      → place_of front (record back { ends = back.ends ++ end ∷ [] }) ≡ record {
        ended = suc last;
        taken = own_entries back;
        flights = own_flights back;
        older = record (incarnation_at front back last) { kept = Some end.kept } ∷ incarnations front back last;
      }
  place_followed_at end logs last stopped followed =
      placed front (record back { ends = back.ends ++ end ∷ [] }) _ (follows_fits front back end logs last stopped followed) (follows front back end logs last stopped followed)

  -- what is released and mountings that fail don't change it
  pub released_place : (all : List Release) → place_of front (record back { released = all }) ≡ place_of front back
  released_place all =
      ap (λ (h : History). record (place_of front back) { older = h }) (same_below front back (record back { released = all }) (length back.stops) (λ index less. refl))

  pub missed_place : (all : List Missed) → place_of front (record back { downs = all }) ≡ place_of front back
  missed_place all =
      ap (λ (h : History). record (place_of front back) { older = h }) (same_below front back (record back { downs = all }) (length back.stops) (λ index less. refl))
