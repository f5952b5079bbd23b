-- What a step of a back leaves of its journal's limit.
use Rattle.std.proofs.Common.{◌≡◌, ◌≢◌, ◌∙◌, ap, sym, refl, subst, inl, inr, ⊎_elim, true≢false, ℕ, ◌-◌, ◌^◌, ◌<◌, List, [], ◌∷◌, ◌++◌, arith, Option}
use Rattle.std.proofs.lemmas.List.Elements.{Contains-push_cases}
use Rattle.std.specs.List.{Contains}
use Rattle.std.specs.Prelude.{Bool, true, false, not, ◌&&◌, ◌||◌, min}
use Rattle.batch_journal.specs.Moments.{IsTold}
use Rattle.batch_journal.specs.Rest.{IsStaged, limit_of, needed}
use Rattle.batch_journal.specs.Staged.{frame_of}
use Rattle.batch_journal.specs.declared.journal.Journal.{Journal}
use Rattle.storage_map.specs.Limits.{Object}
use Rattle.storage_map.specs.declared.op.Op.{Op}
use Rattle.timeline.specs.Logs.{Backed, backed}
use Rattle.timeline.specs.declared.back_log.Stop.{Stop}
use Rattle.timeline.specs.declared.caller.Cause.{Cause}
use Rattle.timeline.specs.declared.caller.Cause.TheVariants as cause
use Rattle.timeline.specs.declared.entry.Entry.{Entry}
use Rattle.timeline.specs.declared.message.Message.{Message as Sent}
use Rattle.timeline.specs.declared.notice.Notice.{Notice}
use Rattle.output_gate.proofs.Steps.{can_append, flushed_back, has_disk, told_before}
use Rattle.output_gate.proofs.Stored.{same_journal, still_limit}
use Rattle.output_gate.proofs.Unfit.{stops_still}
use Rattle.output_gate.proofs.Written.{written_as_before, written_enters, written_flush, written_release, written_remounts, written_stays}
use Rattle.output_gate.specs.Entering.{Enters, Failed}
use Rattle.output_gate.specs.Flushing.{Ends, Flushes}
use Rattle.output_gate.specs.Held.{HaltsLast, halts_well, has_halt, is_held_halt}
use Rattle.output_gate.specs.Mending.{Remounts, may_mend}
use Rattle.output_gate.specs.Releasing.{Releases, Stays, released_log}
use Rattle.output_gate.specs.Serving.{halt_of, IsAsBefore, IsBackAs, IsMounted, stop_of}
use Rattle.output_gate.specs.Storing.{HasLimit, IsCauseOf, IsDiskOf, KeepsEnd, KeepsTelling, ReadsDisk}
use Rattle.output_gate.specs.Taking.{fit_of, is_wanted}
use Rattle.output_gate.specs.Written.{AreWritten, FindsEnd}
use Rattle.output_gate.specs.declared.back.Back.{Back}
use Rattle.output_gate.specs.declared.back.Ending.{Ending}
use Rattle.output_gate.specs.declared.back.Mode.TheVariants.{Mounted, Wanted}
use Rattle.output_gate.specs.declared.held.Held.{Held as BackHeld}
use Rattle.output_gate.specs.declared.held.HeldBody.{HeldBody}
use Rattle.output_gate.specs.declared.held.HeldBody.TheVariants.{Message, Sync, Halt}
use Rattle.object_core.specs.Limited.{Extent, IsFullAt, IsLimitedBy}

-- Each of these ends that is by a full journal is of this limit.
abbrev AreFullAt : ℕ → List Stop → Type 0
AreFullAt limit stops = (stop : Stop) → Contains stops stop → IsFullAt limit stop.cause

one_more : (limit : ℕ) (stops : List Stop) (last : Stop) → AreFullAt limit stops → IsFullAt limit last.cause → AreFullAt limit (stops ++ last ∷ [])
one_more limit stops last all is stop has =
    ⊎_elim (λ before. all stop before) (λ (same : last ≡ stop). subst (λ (s : Stop). IsFullAt limit s.cause) same is) (Contains-push_cases stops last stop has)

-- What a front ends, or a read that failed, isn't full.
halting_full : (limit : ℕ) (c : Cause) → halts_well (Halt c) ≡ true → IsFullAt limit c
halting_full limit (cause.Disk before after) is = tt
halting_full limit (cause.Full needs most) is = absurd (true≢false (sym is))
halting_full limit cause.Exceeded is = tt
halting_full limit cause.StartThrew is = tt
halting_full limit cause.BlockThrew is = tt

-- The frame would pass the limit.
passed_by : (limit needs whole : ℕ) → limit < whole → needs ≡ min whole (2 ^ 64 - 1) → limit < 2 ^ 64 - 1 → limit < needs
passed_by limit needs whole more is small = omega (arith, more, is, small)

-- The cause of an end at an append.
full_by : {D : Type 0} (limit : ℕ) (faults_of : D → ℕ) (journal after : Journal D) (object : Object) (batches : List (List Op)) (c : Cause) → limit_of journal ≡ limit
    → IsStaged journal object batches → IsCauseOf faults_of journal after c → IsFullAt limit c
full_by limit faults_of journal after object batches (cause.Disk before later) is staged by = tt
full_by limit faults_of journal after object batches (cause.Full needs most) is staged by =
    let whole = needed journal (frame_of object batches) in
    let past = by.1 object batches staged in
    let same : most ≡ limit = by.0 ∙ is in
    (same, λ small. passed_by limit needs whole (subst (λ (n : ℕ). n < whole) same past.0) past.1 small)
full_by limit faults_of journal after object batches cause.Exceeded is staged by = absurd by
full_by limit faults_of journal after object batches cause.StartThrew is staged by = absurd by
full_by limit faults_of journal after object batches cause.BlockThrew is staged by = absurd by

module _ {D : Type 0} (moment_of : D → ℕ) (left_since : D → ℕ → List ℕ → Type 0) (told : D → Option (List ℕ)) (image : D → List ℕ → Type 0) (faults_of : D → ℕ)
    (start : List (List Op)) (opening : ℕ) (sound : Bool) (extent : Extent) (old new : Back D) (known : IsBackAs moment_of left_since told image faults_of start opening sound old)
    (telling : KeepsTelling told old.store new.store) (by : IsLimitedBy told extent old) where
  -- What was written before, where the disk tells its content behind the step.
  earlier : (left : D) → IsDiskOf new.store left → IsTold (told left) → (disk : D) × IsDiskOf old.store disk × IsTold (told disk)
  earlier left at tells =
      let d = has_disk moment_of left_since told image faults_of start opening sound old known in
      (d.0, d.1, told_before (told d.0) (told left) (telling d.0 left d.1 at) tells)

  was : (left : D) → IsDiskOf new.store left → IsTold (told left) → AreWritten extent.limit extent.end old
  was left at tells = let d = earlier left at tells in by.written d.0 d.1 d.2

  -- The back's own limit and its store's, over ends that are of it.
  limited_by : new.limit ≡ old.limit → (HasLimit old.limit old.store → HasLimit old.limit new.store) → AreFullAt extent.limit new.log.stops.items
      → ((left : D) → IsDiskOf new.store left → IsTold (told left) → AreWritten extent.limit extent.end new) → IsLimitedBy told extent new
  limited_by same has full written = record {
    kept = same ∙ by.kept;
    journal = subst (λ (n : ℕ). HasLimit n new.store) by.kept (has (subst (λ (n : ℕ). HasLimit n old.store) (sym by.kept) by.journal));
    full = full;
    written = written;
  }

  -- nothing has ended
  limited_still : new.limit ≡ old.limit → new.log.stops.items ≡ old.log.stops.items → (HasLimit old.limit old.store → HasLimit old.limit new.store)
      → ((left : D) → IsDiskOf new.store left → IsTold (told left) → AreWritten extent.limit extent.end new) → IsLimitedBy told extent new
  limited_still same stops has written = limited_by same has (subst (AreFullAt extent.limit) (sym stops) by.full) written

  -- an entry was taken, or it wasn't for want of memory
  pub limited_enters : (e : Entry) (failed : Failed) → Enters failed old new e → ReadsDisk told old.store new.store → IsLimitedBy told extent new
  limited_enters e failed enters disk =
      limited_still enters.limit (ap (λ (x : Backed). x.stops) enters.log ∙ stops_still (fit_of old e) (backed old.log) e) (disk.limit old.limit)
      (λ left at tells. written_enters moment_of left_since told image faults_of start opening sound extent.limit extent.end old new (was left at tells) known e failed enters disk.end)

  pub limited_as_before : IsAsBefore old new → (HasLimit old.limit old.store → HasLimit old.limit new.store) → (old.mode ≡ Mounted → KeepsEnd old.store new.store)
      → IsLimitedBy told extent new
  limited_as_before same has ends =
      limited_still same.limit (ap (λ (x : Backed). x.stops) same.log) has (λ left at tells. written_as_before extent.limit extent.end old new same ends (was left at tells))

  -- nothing was let go
  pub limited_stays : (s0 s : List Notice) (o0 o : List Sent) → Stays old new s0 s o0 o → IsLimitedBy told extent new
  limited_stays s0 s o0 o stays =
      limited_still stays.limit (ap (λ (x : Backed). x.stops) stays.log) (still_limit old.store new.store stays.store old.limit)
      (λ left at tells. written_stays extent.limit extent.end old new s0 s o0 o stays (was left at tells))

  -- the journal was mounted again, or that failed
  remounts_written : (ending : Ending) (notice : Notice) → old.mode ≡ Wanted ending → Remounts faults_of old new ending notice → FindsEnd told old new
      → (left : D) → IsDiskOf new.store left → IsTold (told left) → AreWritten extent.limit extent.end new
  remounts_written ending notice wanted remounts finds left at tells =
      let d = earlier left at tells in
      written_remounts moment_of left_since told image faults_of start opening sound extent.limit extent.end old new (was left at tells) ending wanted known notice remounts finds
      d.0 left d.1 d.2 at tells

  pub limited_remounts : (ending : Ending) (notice : Notice) → old.mode ≡ Wanted ending → Remounts faults_of old new ending notice → FindsEnd told old new
      → (HasLimit old.limit old.store → HasLimit old.limit new.store) → IsLimitedBy told extent new
  limited_remounts ending notice wanted (inl begun) finds has =
      limited_still (ap (λ (b : Back D). b.limit) begun.begins.same) (ap (λ (x : Backed). x.stops) begun.begins.log) has
      (remounts_written ending notice wanted (inl begun) finds)
  limited_remounts ending notice wanted (inr missed) finds has =
      limited_still (ap (λ (b : Back D). b.limit) missed.misses.same) (ap (λ (x : Backed). x.stops) missed.misses.log) has
      (remounts_written ending notice wanted (inr missed) finds)

  -- an append
  ends_full : IsMounted moment_of left_since told image faults_of start opening sound old → old.before ≢ old.durable → (e : Ends faults_of old new) → IsFullAt extent.limit e.cause
  ends_full m more e =
      let can = can_append told image sound m.journal old m.safe more in
      let same : m.journal ≡ e.journal = same_journal m.journal e.journal (sym m.safe.store ∙ e.from) in
      full_by extent.limit faults_of e.journal e.after can.1 can.2 e.cause (by.journal e.journal e.from) (subst (λ (j : Journal D). IsStaged j can.1 can.2) same can.4) e.by_cause

  flush_written : old.before ≢ old.durable → Flushes faults_of old new → (left : D) → IsDiskOf new.store left → IsTold (told left)
      → AreWritten extent.limit extent.end new
  flush_written more flushes left at tells =
      let d = earlier left at tells in
      written_flush moment_of left_since told image faults_of start opening sound extent.limit extent.end old new (was left at tells) known d.0 d.1 d.2 more by.journal flushes

  pub limited_flush : old.before ≢ old.durable → Flushes faults_of old new → (HasLimit old.limit old.store → HasLimit old.limit new.store) → IsLimitedBy told extent new
  limited_flush more (inl all) has = limited_still all.limit (ap (λ (x : Backed). x.stops) all.log) has (flush_written more (inl all))
  limited_flush more (inr ends) has =
      let m = flushed_back moment_of left_since told image faults_of start opening sound old more known in
      limited_by ends.limit has
      (subst (AreFullAt extent.limit) (sym (ap (λ (x : Backed). x.stops) ends.log))
      (one_more extent.limit old.log.stops.items (stop_of old ends.cause) by.full (ends_full m more ends))) (flush_written more (inr ends))

  -- A halt that is held is by a cause of a front, or by a read that failed.
  halts_as : (before : ℕ) (first : BackHeld) (rest : List BackHeld) (b : HeldBody) → first.body ≡ b → HaltsLast before (first ∷ rest) → halts_well b ≡ true
  halts_as before first rest (Message sent) is last = refl
  halts_as before first rest (Sync number) is last = refl
  halts_as before first rest (Halt c) is last = ap halts_well (sym is) ∙ (last.0 (ap is_held_halt is)).2

  none_halts : (first : BackHeld) (rest : List BackHeld) (b : HeldBody) → first.body ≡ b → has_halt (first ∷ rest) ≡ false → halts_well b ≡ true
  none_halts first rest (Message sent) is none = refl
  none_halts first rest (Sync number) is none = refl
  none_halts first rest (Halt c) is none = absurd (true≢false (sym (ap (λ (x : HeldBody). is_held_halt x || has_halt rest) is) ∙ none))

  first_halts : IsBackAs moment_of left_since told image faults_of start opening sound old → (first : BackHeld) (rest : List BackHeld) → old.held.items ≡ first ∷ rest
      → halts_well first.body ≡ true
  first_halts (inl m) first rest is = halts_as old.before first rest first.body refl (subst (HaltsLast old.before) is m.safe.halts)
  first_halts (inr u) first rest is = none_halts first rest first.body refl (sym (ap has_halt is) ∙ u.safe.halts)

  -- what a release logs
  released_full : (moment : ℕ) (held : BackHeld) (b : HeldBody) → halts_well b ≡ true → AreFullAt extent.limit old.log.stops.items → AreFullAt extent.limit (released_log old moment held b).stops
  released_full moment held (Message sent) well all = all
  released_full moment held (Sync number) well all = all
  released_full moment held (Halt c) well all = one_more extent.limit old.log.stops.items (halt_of old c) all (halting_full extent.limit c well)

  pub limited_release : (later : Bool) → IsBackAs moment_of left_since told image faults_of start opening later new → (disk : D) → IsDiskOf old.store disk
      → (s0 s : List Notice) (o0 o : List Sent) → Releases moment_of old new s0 s o0 o → IsLimitedBy told extent new
  limited_release later known_now disk at s0 s o0 o r =
      limited_by r.limit (still_limit old.store new.store r.store old.limit)
      (subst (AreFullAt extent.limit) (sym (ap (λ (x : Backed). x.stops) (r.log disk at)))
      (released_full (moment_of disk) r.first r.first.body (first_halts known r.first r.rest r.held) by.full))
      (λ left left_at tells. written_release moment_of left_since told image faults_of start opening sound extent.limit extent.end old new (was left left_at tells)
      s0 s o0 o r disk at later known_now known)

-- What is mounted wants no mounting.
never : (b : Bool) → (b && false) ≡ false
never true = refl
never false = refl

pub never_mends : {D : Type 0} (back : Back D) → back.mode ≡ Mounted → may_mend back ≡ false
never_mends back is = ap (λ m. not back.stuck && is_wanted m) is ∙ never (not back.stuck)

-- The note that memory was wanting changes nothing of it.
pub limited_noted : {D : Type 0} (told : D → Option (List ℕ)) (extent : Extent) (stopped : Bool) (back : Back D) → IsLimitedBy told extent (record back { stopped = stopped })
    → IsLimitedBy told extent back
limited_noted told extent stopped back by = record {
  kept = by.kept;
  journal = by.journal;
  full = by.full;
  written = λ disk at tells front object may. let w = by.written disk at tells front object may in record { journal = w.journal; ending = w.ending; filled = w.filled };
}
