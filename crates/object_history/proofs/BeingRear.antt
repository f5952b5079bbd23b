-- What is known of a back, as its front's side sees it.
use Rattle.std.proofs.Common.{◌≡◌, ◌∙◌, ap, sym, refl, subst, true≢false, ℕ, List, Option}
use Rattle.std.specs.Prelude.{false, not}
use Rattle.storage_map.specs.Contents.{Contents}
use Rattle.storage_map.specs.declared.op.Op.{Op}
use Rattle.timeline.specs.Logs.{backed}
use Rattle.output_gate.proofs.Orderly.{is_ordered}
use Rattle.output_gate.specs.Serving.{IsBack, is_stopped}
use Rattle.output_gate.specs.Taking.{is_mounted_mode}
use Rattle.output_gate.specs.Telling.{IsOrdered, KeepsWithin, opened_map}
use Rattle.output_gate.specs.declared.back.Back.{Back}
use Rattle.output_gate.specs.declared.back.Mode.{Mode}
use Rattle.output_gate.specs.declared.back.Mode.TheVariants.{Mounted, Wanted, Down}
use Rattle.object_history.specs.Pair.{mounted}
use Rattle.object_history.specs.Seen.{stand_of, rear_of}
use Rattle.object_history.specs.Stepping.{IsMapOf, IsRear, IsFollowed}

not_mounted : (mode : Mode) → is_mounted_mode mode ≡ false → mode ≡ Mounted → ⊥
not_mounted mode is on = true≢false (sym (ap is_mounted_mode on) ∙ is)

pub mode_of : (mode : Mode) → stand_of mode ≡ mounted → mode ≡ Mounted
mode_of Mounted is = refl
mode_of (Wanted ending) is = absurd cc
mode_of (Down ending) is = absurd cc

pub followed_as : {D : Type 0} (back : Back D) → IsOrdered back → (mode : Mode) → back.mode ≡ mode → IsFollowed (stand_of mode) (backed back.log)
followed_as back o Mounted is = o.followed is
followed_as back o (Wanted ending) is = sym (o.unfollowed (not_mounted back.mode (ap is_mounted_mode is)))
followed_as back o (Down ending) is = sym (o.unfollowed (not_mounted back.mode (ap is_mounted_mode is)))

module _ {D : Type 0} (moment_of : D → ℕ) (left_since : D → ℕ → List ℕ → Type 0) (told : D → Option (List ℕ)) (image : D → List ℕ → Type 0) (faults_of : D → ℕ)
    (start : List (List Op)) (opening : ℕ) where
  pub is_rear : (back : Back D) (m : Contents) → IsBack moment_of left_since told image faults_of start opening back
      → IsMapOf (opened_map start) (backed back.log) m → IsRear (opened_map start) (rear_of m back)
  is_rear back m known due =
      let o : IsOrdered back = is_ordered moment_of left_since told image faults_of start opening (not (is_stopped back)) back known in
      record {
        logs = o.logs;
        followed = followed_as back o back.mode refl;
        begun = λ i missed is. (o.missed i missed is).within;
        map = due;
        owns = o.unflown;
        kept = λ front i older count is kept. (subst KeepsWithin is (o.kept front)) count kept;
      }
