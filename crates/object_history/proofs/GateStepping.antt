-- The steps of a back are those of which the history speaks.
use Rattle.std.proofs.Common.{◌≡◌, ◌≢◌, ◌∙◌, ap, sym, refl, inl, inr, ℕ, suc, ◌+◌, ◌-◌, ◌<◌, List, [], ◌∷◌, ◌++◌, length, arith, Option, ⊎_elim}
use Rattle.std.specs.Prelude.{ℤ, Bool, false, nat_le}
use Rattle.std.specs.List.{filter, flat_map}
use Rattle.storage_map.specs.Contents.{Contents}
use Rattle.storage_map.specs.declared.op.Op.{Op}
use Rattle.timeline.specs.History.{is_halting}
use Rattle.timeline.specs.Logs.{Backed, backed}
use Rattle.timeline.specs.declared.back_log.End.{End}
use Rattle.timeline.specs.declared.back_log.Missed.{Missed}
use Rattle.timeline.specs.declared.caller.Cause.{Cause}
use Rattle.timeline.specs.declared.caller.Cause.TheVariants as cause
use Rattle.timeline.specs.declared.notice.Notice.{Notice}
use Rattle.timeline.specs.declared.notice.Notice.TheVariants as notice
use Rattle.batch_journal.specs.Rest.{end_of}
use Rattle.batch_journal.specs.declared.journal.Journal.{Journal}
use Rattle.output_gate.specs.Flushing.{Flushes}
use Rattle.output_gate.specs.Mending.{Mends, HasBegun, HasMissed, kept_at}
use Rattle.output_gate.specs.Serving.{alarm_of, IsBackAs, stop_of}
use Rattle.output_gate.specs.Storing.{IsCauseOf}
use Rattle.output_gate.specs.declared.back.Back.{Back}
use Rattle.output_gate.specs.declared.back.Ending.{Ending}
use Rattle.output_gate.specs.declared.back.Mode.TheVariants.{Mounted}
use Rattle.object_history.proofs.Seeing.{made, steps_to, left_seen}
use Rattle.object_history.specs.Pair.{Held, mounted, wanted, fallen}
use Rattle.object_history.specs.Seen.{held_of, stand_of, rear_of}
use Rattle.object_history.specs.Stepping.{BackSteps, flies, stops, begins, misses}

abbrev with_ends : Backed → List End → Backed
with_ends log ends = record log { ends = ends }

abbrev with_downs : Backed → List Missed → Backed
with_downs log downs = record log { downs = downs }

-- An append has no cause of a turn's.
by_append : {D : Type 0} (faults_of : D → ℕ) (old new : Journal D) (c : Cause) → IsCauseOf faults_of old new c → is_halting c ≡ false
by_append faults_of old new (cause.Disk before after) is = refl
by_append faults_of old new (cause.Full needed limit) is = refl
by_append faults_of old new cause.Exceeded is = absurd is
by_append faults_of old new cause.StartThrew is = absurd is
by_append faults_of old new cause.BlockThrew is = absurd is

-- Batches that aren't durable are there while the newest incarnation is mounted alone.
record Unflown {D : Type 0} (back : Back D) : Type 0 where
  stand : stand_of back.mode ≡ mounted
  less : back.durable < back.before

module _ {D : Type 0} (moment_of : D → ℕ) (left_since : D → ℕ → List ℕ → Type 0) (told : D → Option (List ℕ)) (image : D → List ℕ → Type 0) (faults_of : D → ℕ)
    (start : List (List Op)) (opening : ℕ) (sound : Bool) where
  unflown : (back : Back D) → IsBackAs moment_of left_since told image faults_of start opening sound back → back.before ≢ back.durable → Unflown back
  unflown back (inl m) differ = record { stand = ap stand_of m.safe.mode; less = omega (arith, m.safe.unflown, differ) }
  unflown back (inr u) differ = absurd (differ u.safe.even)

  pub flush_steps : (back later : Back D) (m n : Contents) → IsBackAs moment_of left_since told image faults_of start opening sound back → back.before ≢ back.durable
      → Flushes faults_of back later → BackSteps (rear_of m back) (rear_of n later) [] []
  flush_steps back later m n known differ (inl all) =
      steps_to (rear_of m back) later n [] [] _ (stand_of back.mode) (flat_map held_of back.held.items) back.before back.before
      (flies (back.before - back.durable) n) all.log (ap stand_of all.mode) (ap (λ h. flat_map held_of h.items) all.held) all.before all.durable
  flush_steps back later m n known differ (inr ends) =
      let at = unflown back known differ in
      let held = filter (λ (h : Held). nat_le h.needs back.durable) (flat_map held_of back.held.items) in
      steps_to (rear_of m back) later n [] [] _ (wanted ends.cause) held back.durable back.durable
      (stops (stop_of back ends.cause) held n at.stand at.less refl (by_append faults_of ends.journal ends.after ends.cause ends.by_cause) refl) ends.log
      (ap stand_of ends.mode.2 ∙ ap wanted ends.mode.1)
      (ap (flat_map held_of) ends.held ∙ left_seen back.durable back.number ends.cause back.held.items) ends.before ends.durable

  pub numbered_so : (back : Back D) → IsBackAs moment_of left_since told image faults_of start opening sound back → back.number ≡ suc (length back.log.stops.items)
  numbered_so back (inl m) = m.safe.room.number
  numbered_so back (inr u) = u.safe.number

  module _ (back later : Back D) (m n : Contents) (known : IsBackAs moment_of left_since told image faults_of start opening sound back) where
    -- A mounting, with whatever maps the back is seen, and what it tells then.
    abbrev Mended : List Notice → Notice → Type 0
    Mended sent_before told_then = (notices : List Notice) × BackSteps (rear_of m back) (rear_of n later) [] notices
        × ((later.mode ≡ Mounted → n.alarm ≡ alarm_of later) → sent_before ++ told_then ∷ [] ≡ sent_before ++ notices)

    begun_steps : (ending : Ending) (sent_before : List Notice) (told_then : Notice) → stand_of back.mode ≡ wanted ending.cause
        → HasBegun back later ending told_then → Mended sent_before told_then
    begun_steps ending sent_before told_then stand begun =
        let end : End = record { kept = kept_at ending (end_of begun.journal); cause = ending.cause } in
        let now = back.durable + (kept_at ending (end_of begun.journal) - ending.flown) in
        let same = begun.begins.same in
        let news : Notice = notice.Fresh (suc (length back.log.stops.items)) n.alarm ending.cause in
        let first : BackSteps (rear_of m back) (made (with_ends (backed back.log) (back.log.ends.items ++ end ∷ [])) mounted (flat_map held_of back.held.items) now now n) []
        (news ∷ []) = begins ending.cause end now n stand in (
          news ∷ [],
          steps_to (rear_of m back) later n [] _ _ mounted (flat_map held_of back.held.items) now now first begun.begins.log
              (ap (λ (b : Back D). stand_of b.mode) same) (ap (λ (b : Back D). flat_map held_of b.held.items) same)
              (ap (λ (b : Back D). b.before) same) (ap (λ (b : Back D). b.durable) same),
          λ alarm. ap (λ (x : Notice). sent_before ++ x ∷ [])
              (begun.notice
              ∙ ap (λ (a : Option (ℤ × ℕ)). notice.Fresh back.number a ending.cause)
              (sym (alarm (ap (λ (b : Back D). b.mode) same)))
              ∙ ap (λ (i : ℕ). notice.Fresh i n.alarm ending.cause) (numbered_so back known)),
        )

    missed_steps : (ending : Ending) (sent_before : List Notice) (told_then : Notice) → stand_of back.mode ≡ wanted ending.cause
        → HasMissed faults_of back later ending told_then → Mended sent_before told_then
    missed_steps ending sent_before told_then stand missed =
        let same = missed.misses.same in
        let before = faults_of missed.disk in
        let after = faults_of missed.left in
        let one : ℕ → Missed = λ i. record { incarnation = i; before = before; after = after } in
        let log = ap (λ (i : ℕ). with_downs (backed back.log) (back.log.downs.items ++ one i ∷ [])) (numbered_so back known) in
        let news : Notice = notice.Down ending.cause before after in (
          news ∷ [],
          steps_to (rear_of m back) later n [] _ _ (fallen ending.cause) (flat_map held_of back.held.items) back.before back.durable
              (misses ending.cause before after n stand) (missed.misses.log ∙ log)
              (ap (λ (b : Back D). stand_of b.mode) same) (ap (λ (b : Back D). flat_map held_of b.held.items) same)
              (ap (λ (b : Back D). b.before) same) (ap (λ (b : Back D). b.durable) same),
          λ alarm. ap (λ (x : Notice). sent_before ++ x ∷ []) missed.notice,
        )

    pub mend_steps : (sent_before sent : List Notice) → Mends faults_of back later sent_before sent
        → (notices : List Notice) × BackSteps (rear_of m back) (rear_of n later) [] notices
        × ((later.mode ≡ Mounted → n.alarm ≡ alarm_of later) → sent ≡ sent_before ++ notices)
    mend_steps sent_before sent mends =
        let of : Mended sent_before mends.notice =
        ⊎_elim (λ begun. begun_steps mends.ending sent_before mends.notice (ap stand_of mends.wanted) begun)
        (λ missed. missed_steps mends.ending sent_before mends.notice (ap stand_of mends.wanted) missed)
        mends.remounts in
        (of.0, of.1, λ alarm. mends.told ∙ of.2 alarm)
