-- Where a mounting behind an end finds the end of the journal.
use Rattle.std.proofs.Common.{◌≡◌, ◌∙◌, ap, sym, subst, inl, inr, ⊎_elim, ℕ, ◌+◌, ◌≤◌, List, length, sum, arith, Option, Some}
use Rattle.std.specs.Prelude.{Bool, false, if◌then◌else◌}
use Rattle.batch_journal.proofs.Journals.{last_some, length-journal_push}
use Rattle.batch_journal.specs.Frames.{Frame, holds, AllMayStand, journal_bytes}
use Rattle.batch_journal.specs.Moments.{IsTold, TellsAsBefore}
use Rattle.batch_journal.specs.Mounting.{IsMountOf}
use Rattle.batch_journal.specs.Rest.{disk_in, end_of}
use Rattle.batch_journal.specs.declared.journal.Journal.{Journal}
use Rattle.batch_journal.specs.declared.mount.Mounted.{Mounted}
use Rattle.storage_cache.specs.Cached.{Cached}
use Rattle.storage_map.specs.declared.op.Op.{Op}
use Rattle.timeline.specs.History.{Incarnation, History, durable_by, kept_before, own_batches}
use Rattle.timeline.specs.Logs.{Fronted, Backed, backed}
use Rattle.timeline.specs.declared.back_log.BackLog.{BackLog}
use Rattle.timeline.specs.declared.back_log.Stop.{Stop}
use Rattle.output_gate.specs.Ended.{AreEnding, IsEnding, Marks}
use Rattle.output_gate.specs.Gate.{Place}
use Rattle.output_gate.specs.Mending.{Begins}
use Rattle.output_gate.specs.Serving.{IsEnded, IsUnmounted, marks_of}
use Rattle.output_gate.specs.Standing.{older_of}
use Rattle.output_gate.specs.Storing.{IsDiskOf}
use Rattle.output_gate.specs.Taking.{LogSame, is_mounted_mode}
use Rattle.output_gate.specs.Written.{FindsEnd, unflown_in}
use Rattle.output_gate.specs.declared.back.Back.{Back}
use Rattle.output_gate.specs.declared.back.Ending.{Ending}
use Rattle.output_gate.specs.declared.back.Mode.TheVariants.{Wanted}
use Rattle.output_gate.proofs.Frames.{behind}
use Rattle.output_gate.proofs.Helds.{true_false}
use Rattle.output_gate.proofs.Mends.{found_one}
use Rattle.output_gate.proofs.Remounts.{known}
use Rattle.output_gate.proofs.Steps.{ending_in, told_before}
use Rattle.output_gate.proofs.Stored.{same_journal}

-- nothing was mounted
pub still_finds : {D : Type 0} (told : D → Option (List ℕ)) (old new : Back D) → new.mode ≡ old.mode → FindsEnd told old new
still_finds told old new mode ending journal wanted into mounted tells =
    absurd (true_false (sym (ap is_mounted_mode mounted) ∙ ap is_mounted_mode mode ∙ ap is_mounted_mode wanted))

-- a mounting failed
pub missed_finds : {D : Type 0} (told : D → Option (List ℕ)) (old new : Back D) → is_mounted_mode new.mode ≡ false → FindsEnd told old new
missed_finds told old new down ending journal wanted into mounted tells = absurd (true_false (sym (ap is_mounted_mode mounted) ∙ down))

-- the log got room first
pub room_finds : {D : Type 0} (told : D → Option (List ℕ)) (old new : Back D) (log : BackLog) → LogSame old.log log → FindsEnd told (record old { log = log }) new → FindsEnd told old new
room_finds told old new log room finds ending journal wanted into mounted tells =
    ⊎_elim (λ same. inl same)
    (λ more. inr (
      more.0,
      record {
        end_is = more.1.end_is;
        object = more.1.object;
        some = more.1.some;
        batches = λ front. more.1.batches front ∙ ap (λ (b : Backed). unflown_in (older_of front b)) room.same;
      },
    )) (finds ending journal wanted into mounted tells)

module _ {D : Type 0} (moment_of : D → ℕ) (left_since : D → ℕ → List ℕ → Type 0) (told : D → Option (List ℕ)) (image : D → List ℕ → Type 0) (faults_of : D → ℕ)
    (reads_an_image : (disk : D) (c : List ℕ) → told disk ≡ Some c → image disk c)
    (counts_now : (disk : D) (t : ℕ) (c : List ℕ) → t ≤ moment_of disk → image disk c → left_since disk t c) (start : List (List Op)) (opening : ℕ) where
  -- the flight that failed has the batches that had not flown
  flight_is : (disk : D) (ending : Ending) (back : Back D) (s : IsEnded moment_of left_since image start opening disk ending back) (marks : Marks)
      → ((front : Fronted) → AreEnding ending marks (older_of front (backed back.log))) → (front : Fronted) → s.flight.batches ≡ unflown_in (older_of front (backed back.log))
  flight_is disk ending back s marks ended front =
      let last : Incarnation = s.last front in
      let rest : History = s.rest front in
      let g = s.down front in
      let how : IsEnding ending marks last rest = subst (AreEnding ending marks) (ap (λ (p : Place). p.older) (s.place front)) (ended front) in
      let flown_is = ap (λ (o : Option Stop). durable_by o last.flights) how.ended.stopped
      ∙ ap (λ (r : Bool). if r then how.ended.stop.batches else sum last.flights) how.unread in
      behind (kept_before rest) (own_batches last) s.flown s.flight.batches (sum last.flights) g.line (omega (arith, g.long, g.at_end, flown_is))
      ∙ sym (ap (λ (p : Place). unflown_in p.older) (s.place front))

  pub begun_finds : (old new : Back D) (disk : D) (ending : Ending) (mounted : Mounted D) (cache : Cached) → old.mode ≡ Wanted ending → IsDiskOf old.store disk
      → (is : IsMountOf told image moment_of left_since disk mounted) → TellsAsBefore (told disk) (told (disk_in mounted.journal)) → Begins old new ending mounted.journal cache
      → IsUnmounted moment_of left_since told image faults_of start opening old → FindsEnd told old new
  begun_finds old new disk ending mounted cache wanted at is telling done u other journal wants into mode tells =
      let k = known moment_of left_since told image faults_of reads_an_image counts_now start opening old disk ending wanted at u in
      let one : journal ≡ mounted.journal = same_journal journal mounted.journal (sym into ∙ ap (λ (x : Back D). x.store) done.same) in
      let same : other ≡ ending = ap (λ m. ending_in m other) (sym wants ∙ wanted) in
      let before = told_before (told disk) (told (disk_in mounted.journal)) telling (subst (λ (j : Journal D). IsTold (told (disk_in j))) one tells) in
      let s = k.1 before in
      let ends : end_of journal ≡ length (journal_bytes is.frames) + 1 = ap end_of one ∙ is.at_rest.end in
      let was : other.end ≡ length (journal_bytes s.frames) + 1 = ap (λ (e : Ending). e.end) same ∙ s.end in
      ⊎_elim (λ found. inl (ends ∙ ap (λ (fs : List Frame). length (journal_bytes fs) + 1) found ∙ sym was))
      (λ found. inr (
        s.flight,
        record {
          end_is = omega (arith, ends, was, ap (λ (fs : List Frame). length (journal_bytes fs)) found, length-journal_push s.frames (holds s.flight));
          object = s.object;
          some = last_some mounted.journal.version s.frames s.flight (subst (λ (fs : List Frame). AllMayStand mounted.journal.version fs) found is.at_rest.of_grammar.each);
          batches = flight_is disk ending old s (marks_of old) k.2.ended;
        },
      )) (found_one moment_of left_since told image reads_an_image start opening disk ending old s before.0 is.frames before.1 is.recovers)
