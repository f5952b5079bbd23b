-- Over a disk that tells its content a mounting fails only where the disk's count of faults rises.
use Rattle.std.proofs.Common.{◌≡◌, ◌∙◌, ap, sym, subst, inl, inr, ⊎_elim, ℕ, ◌≤◌, List, [], ◌∷◌, ◌++◌, Option, Some}
use Rattle.std.specs.Prelude.{◌⊎◌}
use Rattle.std.proofs.lemmas.List.Elements.{All-head, All-tail, All-push}
use Rattle.batch_codec.proofs.ReadPayloads.{one_payload}
use Rattle.batch_journal.proofs.Verdicts.{one_verdict}
use Rattle.batch_journal.specs.Frames.{Frame, holds, marker, NamesAs}
use Rattle.batch_journal.specs.Moments.{IsTold}
use Rattle.batch_journal.specs.Mounting.{IsMountOf}
use Rattle.batch_journal.specs.Reading.{IsObjectOf}
use Rattle.batch_journal.specs.Recovery.{Recovers}
use Rattle.batch_journal.specs.Verdicts.{Verdict}
use Rattle.batch_journal.specs.declared.journal.Journal.{Journal}
use Rattle.batch_journal.specs.declared.mount.Mounted.{Mounted}
use Rattle.do_disk.specs.Disk.{IfTold, HasRisen}
use Rattle.storage_cache.specs.Cached.{Cached}
use Rattle.storage_map.specs.Limits.{Object}
use Rattle.storage_map.specs.declared.op.Op.{Op}
use Rattle.output_gate.specs.Kept.{NameOnly}
use Rattle.output_gate.specs.Mending.{Begins, Misses, FallsByFault, IsRefusedFile, is_own_object}
use Rattle.output_gate.specs.Serving.{IsEnded, IsUnmounted}
use Rattle.output_gate.specs.Storing.{IsDiskOf}
use Rattle.output_gate.specs.declared.back.Back.{Back}
use Rattle.output_gate.specs.declared.back.Ending.{Ending}
use Rattle.output_gate.specs.declared.back.Mode.{Mode}
use Rattle.output_gate.specs.declared.back.Mode.TheVariants.{Mounted as IsMountedMode, Wanted}
use Rattle.output_gate.proofs.Mends.{found_one}
use Rattle.output_gate.proofs.Remounts.{known}
use Rattle.batch_journal.proofs.Marking.{recovers_journal}
use Rattle.output_gate.proofs.Stored.{same_disk}

abbrev is_recovered : Verdict → Type 0
is_recovered (Verdict.recovered frames) = Unit {0}
is_recovered v = ⊥

-- a file that recovers isn't refused
not_refused : (c : List ℕ) (frames : List Frame) → Recovers c frames → IsRefusedFile c → ⊥
not_refused c frames recovers (inl foreign) = subst is_recovered (one_verdict one_payload c (Verdict.recovered frames) (Verdict.foreign foreign.0) recovers foreign.1) tt
not_refused c frames recovers (inr (inl damaged)) = subst is_recovered (one_verdict one_payload c (Verdict.recovered frames) (Verdict.damaged damaged.0) recovers damaged.1) tt
not_refused c frames recovers (inr (inr mixed)) = subst is_recovered (one_verdict one_payload c (Verdict.recovered frames) (Verdict.mixed mixed.0 mixed.1) recovers mixed.2) tt

-- frames that name the slot's object alone are of a journal that may be its own
own_named : (found identity : Option Object) (frames : List Frame) → IsObjectOf found frames → NameOnly identity frames → is_own_object found identity
own_named found identity [] is named = inr is
own_named found identity (holds f ∷ frames) is named = inl (is.0 ∙ sym (All-head (NamesAs identity) (holds f) frames named))
own_named found identity (marker ∷ frames) is named = own_named found identity frames is (All-tail (NamesAs identity) marker frames named)

abbrev is_wanted_mode : Mode → Type 0
is_wanted_mode (Wanted ending) = Unit {0}
is_wanted_mode mode = ⊥

abbrev is_mounted : Mode → Type 0
is_mounted IsMountedMode = Unit {0}
is_mounted mode = ⊥

-- the next incarnation began, so the object isn't down
pub begun_falls : {D : Type 0} (faults_of : D → ℕ) (told : D → Option (List ℕ)) (old new : Back D) (ending : Ending) (journal : Journal D) (cache : Cached) → Begins old new ending journal cache
    → FallsByFault faults_of told old new
begun_falls {D} faults_of told old new ending journal cache done disk left e down at into tells = absurd (subst is_mounted (sym (ap (λ (b : Back D). b.mode) done.same) ∙ down) tt)

-- a mounting is still wanted, so the object isn't down
pub wanted_falls : {D : Type 0} (faults_of : D → ℕ) (told : D → Option (List ℕ)) (old new : Back D) (ending : Ending) → new.mode ≡ Wanted ending → FallsByFault faults_of told old new
wanted_falls faults_of told old new ending wanted disk left e down at into tells = absurd (subst is_wanted_mode (sym wanted ∙ down) tt)

module _ {D : Type 0} (moment_of : D → ℕ) (left_since : D → ℕ → List ℕ → Type 0) (told : D → Option (List ℕ)) (image : D → List ℕ → Type 0)
    (reads_an_image : (disk : D) (c : List ℕ) → told disk ≡ Some c → image disk c)
    (counts_now : (disk : D) (t : ℕ) (c : List ℕ) → t ≤ moment_of disk → image disk c → left_since disk t c) (faults_of : D → ℕ) (start : List (List Op)) (opening : ℕ) where
  -- a mounting that failed is of these two disks
  falls_of : (old new : Back D) (disk left : D) (ending : Ending) (before after : ℕ) → IsDiskOf old.store disk → Misses old new ending left before after
      → (IsTold (told disk) → HasRisen (faults_of disk) (faults_of left)) → FallsByFault faults_of told old new
  falls_of old new disk left ending before after at done rises one other e down from into tells =
      let same : one ≡ disk = same_disk old.store one disk from at in
      let last : other ≡ left = subst (λ (b : Back D). IsDiskOf b.store other) done.same into in
      subst (λ (d : D). HasRisen (faults_of d) (faults_of other)) (sym same) (subst (λ (d : D). HasRisen (faults_of disk) (faults_of d)) (sym last) (rises (subst (λ (d : D). IsTold (told d)) same tells)))

  -- the file of a disk that tells its content isn't refused
  pub refused_rises : (old : Back D) (disk left : D) (ending : Ending) → old.mode ≡ Wanted ending → IsDiskOf old.store disk → HasRisen (faults_of disk) (faults_of left) ⊎ IfTold (told disk) IsRefusedFile
      → IsUnmounted moment_of left_since told image faults_of start opening old → IsTold (told disk) → HasRisen (faults_of disk) (faults_of left)
  refused_rises old disk left ending wanted at why u tells =
      let k = known moment_of left_since told image faults_of reads_an_image counts_now start opening old disk ending wanted at u in
      let e : IsEnded moment_of left_since image start opening disk ending old = k.1 tells in
      let no : IsRefusedFile tells.0 → ⊥ = λ refused. ⊎_elim (λ one. not_refused tells.0 e.frames (recovers_journal tells.0 e.frames one) refused)
      (λ more. not_refused tells.0 (e.frames ++ holds e.flight ∷ []) (recovers_journal tells.0 (e.frames ++ holds e.flight ∷ []) more) refused)
      (e.outcomes tells.0 (reads_an_image disk tells.0 tells.1)) in
      ⊎_elim (λ (rose : HasRisen (faults_of disk) (faults_of left)). rose) (λ refused. absurd (no (refused tells.0 tells.1))) why

  pub refused_falls : (old new : Back D) (disk left : D) (ending : Ending) (before after : ℕ) → old.mode ≡ Wanted ending → IsDiskOf old.store disk
      → HasRisen (faults_of disk) (faults_of left) ⊎ IfTold (told disk) IsRefusedFile → Misses old new ending left before after
      → IsUnmounted moment_of left_since told image faults_of start opening old → FallsByFault faults_of told old new
  refused_falls old new disk left ending before after wanted at why done u =
      falls_of old new disk left ending before after at done (refused_rises old disk left ending wanted at why u)

  -- and it isn't of another object
  pub other_rises : (old : Back D) (disk left : D) (ending : Ending) (mounted : Mounted D) → old.mode ≡ Wanted ending → IsDiskOf old.store disk
      → IsMountOf told image moment_of left_since disk mounted → (is_own_object mounted.identity old.identity → ⊥)
      → IsUnmounted moment_of left_since told image faults_of start opening old → IsTold (told disk) → HasRisen (faults_of disk) (faults_of left)
  other_rises old disk left ending mounted wanted at is other u tells =
      let k = known moment_of left_since told image faults_of reads_an_image counts_now start opening old disk ending wanted at u in
      let e : IsEnded moment_of left_since image start opening disk ending old = k.1 tells in
      let names : List Frame → Type 0 = λ frames. NameOnly old.identity frames in
      let named : NameOnly old.identity is.frames = ⊎_elim (λ same. subst names (sym same) e.named)
      (λ same. subst names (sym same) (All-push (NamesAs old.identity) e.frames (holds e.flight) e.named e.object))
      (found_one moment_of left_since told image reads_an_image start opening disk ending old e tells.0 is.frames tells.1 is.recovers) in
      absurd (other (own_named mounted.identity old.identity is.frames is.object named))

  pub other_falls : (old new : Back D) (disk left : D) (ending : Ending) (mounted : Mounted D) (before after : ℕ) → old.mode ≡ Wanted ending → IsDiskOf old.store disk
      → IsMountOf told image moment_of left_since disk mounted → (is_own_object mounted.identity old.identity → ⊥) → Misses old new ending left before after
      → IsUnmounted moment_of left_since told image faults_of start opening old → FallsByFault faults_of told old new
  other_falls old new disk left ending mounted before after wanted at is other done u =
      falls_of old new disk left ending before after at done (other_rises old disk left ending mounted wanted at is other u)
