-- Each incarnation of a pair that a turn has ended has ended so: its object stands ended by that cause, and the halt was taken.
use Rattle.std.proofs.Common.{◌≡◌, ◌∙◌, sym, subst, inl, inr, ℕ, suc, List, length, arith, Some}
use Rattle.std.proofs.lemmas.Option.{slice_get_within}
use Rattle.std.specs.Prelude.{true, slice_get}
use Rattle.std.specs.List.{Contains}
use Rattle.storage_map.specs.Contents.{Contents}
use Rattle.timeline.specs.Headline.{AreHalted, IsHalted}
use Rattle.timeline.specs.History.{entries_of, history, incarnation_at, incarnations, is_halting, said_in}
use Rattle.timeline.specs.Intake.{Kind, Front}
use Rattle.timeline.specs.Logs.{Fronted}
use Rattle.timeline.specs.Object.{ended}
use Rattle.timeline.specs.declared.back_log.Stop.{Stop}
use Rattle.timeline.specs.declared.entry.Body.TheVariants as body
use Rattle.timeline.specs.declared.entry.Entry.{Entry}
use Rattle.timeline.specs.declared.notice.Notice.{Notice}
use Rattle.object_history.proofs.StateAtRest.{pair_state}
use Rattle.object_history.proofs.Readings.{phase_now}
use Rattle.object_history.specs.Pair.{Rear, HasHalted, IsPhase, IsPair}

same_stop : (a b : Stop) → Some a ≡ Some b → a ≡ b
same_stop a b is = cc

module _ (k : Kind) (opened : Contents) (f : Front) (front : Fronted) (rear : Rear) (line : List Entry) (notices : List Notice)
    (pair : IsPair k opened f front rear line notices) where
  -- The front's incarnation, where it has stopped.
  halted_now : (stop : Stop) → slice_get rear.log.stops pair.below ≡ Some stop → HasHalted f rear.log stop.cause → (other : Stop)
      → slice_get rear.log.stops pair.below ≡ Some other → is_halting other.cause ≡ true
      → IsHalted k.script k.class opened (incarnation_at front rear.log pair.below) (incarnations front rear.log pair.below) other.cause
  halted_now stop stopped halted other is by =
      let has = subst (λ (s : Stop). HasHalted f rear.log s.cause) (same_stop stop other (sym stopped ∙ is)) halted by in (
        pair_state k opened f front rear line notices pair (ended other.cause) has.0 tt,
        subst (λ (n : ℕ). Contains (said_in (entries_of n rear.log.taken)) (body.Halt other.cause)) pair.number has.1,
      )

  pub halted_with : (stop : Stop) → slice_get rear.log.stops pair.below ≡ Some stop → HasHalted f rear.log stop.cause
      → AreHalted k.script k.class opened (incarnations front rear.log (suc pair.below))
  halted_with stop stopped halted = (halted_now stop stopped halted, pair.older_halted)

  -- The newest one of a back has not stopped.
  goes_on : (n : ℕ) → length rear.log.stops ≡ n → (stop : Stop) → slice_get rear.log.stops n ≡ Some stop → ⊥
  goes_on n stops stop is = omega (arith, stops, slice_get_within rear.log.stops n stop is)

  halted_at : (n : ℕ) → length rear.log.stops ≡ n → AreHalted k.script k.class opened (incarnations front rear.log n)
      → AreHalted k.script k.class opened (history front rear.log)
  halted_at n stops halted =
      subst (λ (m : ℕ). AreHalted k.script k.class opened (incarnations front rear.log (suc m))) (sym stops)
      ((λ stop is by. absurd (goes_on n stops stop is)), halted)

  by_phase : IsPhase opened pair.below pair.start f front rear pair.lined.unread pair.lined.late notices
      → AreHalted k.script k.class opened (history front rear.log)
  by_phase (inl together) = halted_at pair.below together.0 pair.older_halted
  by_phase (inr behind) = halted_at (suc pair.below) behind.0 (halted_with behind.1.stop behind.1.stopped behind.1.halted)

  pub all_halted : AreHalted k.script k.class opened (history front rear.log)
  all_halted = by_phase (phase_now pair)
