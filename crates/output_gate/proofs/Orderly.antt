-- How the log and the counters of a back stand to one another.
use Rattle.std.proofs.Common.{◌∙◌, ap, sym, inl, inr, ℕ, List, [], ◌∷◌, length, arith, Option}
use Rattle.std.specs.Prelude.{Bool}
use Rattle.storage_map.specs.declared.op.Op.{Op}
use Rattle.timeline.specs.History.{History}
use Rattle.timeline.specs.Logs.{backed}
use Rattle.output_gate.specs.Ended.{HasEnded, HaveEnded, IsEnding, AreEnding, Marks}
use Rattle.output_gate.specs.Serving.{IsMounted, IsUnmounted, IsBackAs, marks_of}
use Rattle.output_gate.specs.Standing.{older_of}
use Rattle.output_gate.specs.Taking.{is_mounted_mode}
use Rattle.output_gate.specs.Telling.{KeepsWithin, IsOrdered}
use Rattle.output_gate.specs.declared.back.Back.{Back}
use Rattle.output_gate.specs.declared.back.Ending.{Ending}
use Rattle.output_gate.proofs.Helds.{true_false}
use Rattle.output_gate.proofs.Fitting.{never_mounted}
use Rattle.output_gate.proofs.Reading.{failed_none}

ended_within : (marks : Marks) (h : History) → HaveEnded marks h → KeepsWithin h
ended_within marks [] e = tt
ended_within marks (i ∷ older) e = let one : HasEnded marks i older = e in one.kept

ending_within : (ending : Ending) (marks : Marks) (h : History) → AreEnding ending marks h → KeepsWithin h
ending_within ending marks [] e = absurd e
ending_within ending marks (i ∷ older) e = let one : IsEnding ending marks i older = e in one.ended.kept

module _ {D : Type 0} (moment_of : D → ℕ) (left_since : D → ℕ → List ℕ → Type 0) (told : D → Option (List ℕ)) (image : D → List ℕ → Type 0) (faults_of : D → ℕ)
    (start : List (List Op)) (opening : ℕ) (sound : Bool) where
  mounted_ordered : (back : Back D) → IsMounted moment_of left_since told image faults_of start opening sound back → IsOrdered back
  mounted_ordered back m =
      let s = m.safe in
      record {
        logs = s.room.logs;
        followed = λ mode. s.room.followed;
        unfollowed = λ other. absurd (other s.mode);
        missed = m.counts.begun;
        more = omega (arith, s.unflown);
        unflown = λ less none. omega (arith, less, s.unflown, s.own, s.room.own, ap (λ bs. length bs) none);
        kept = λ front. ended_within (marks_of back) (older_of front (backed back.log)) (m.logged.placed front).ended;
        read = λ has. s.mode;
      }

  unmounted_ordered : (back : Back D) → IsUnmounted moment_of left_since told image faults_of start opening back → IsOrdered back
  unmounted_ordered back u =
      let s = u.safe in
      record {
        logs = s.logs;
        followed = λ mode. absurd (never_mounted u.ending back.mode s.mode (ap is_mounted_mode mode));
        unfollowed = λ other. s.gone;
        missed = u.counts.begun;
        more = omega (arith, s.even);
        unflown = λ less. absurd (omega (arith, less, s.even));
        kept = λ front. ending_within u.ending (marks_of back) (older_of front (backed back.log)) (u.logged.ended front);
        read = λ has. absurd (true_false (sym has ∙ failed_none back.held.items s.halts));
      }

  pub is_ordered : (back : Back D) → IsBackAs moment_of left_since told image faults_of start opening sound back → IsOrdered back
  is_ordered back (inl m) = mounted_ordered back m
  is_ordered back (inr u) = unmounted_ordered back u
