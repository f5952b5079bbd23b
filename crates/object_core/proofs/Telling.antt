-- What an object's logs show.
use Rattle.std.proofs.Common.{◌≡◌, ◌∙◌, sym, ℕ, suc, List, ◌++◌, append_assoc, Option}
use Rattle.std.specs.Prelude.{false, not}
use Rattle.batch_journal.specs.Moments.{IsTold}
use Rattle.do_tree.specs.Tree.{Script}
use Rattle.timeline.specs.Headline.{IsHistory}
use Rattle.timeline.specs.Logs.{fronted, backed}
use Rattle.front_half.specs.Standing as standing
use Rattle.front_half.specs.Standing.{IsClass, kind_in}
use Rattle.output_gate.proofs.Telling.{tells_all}
use Rattle.output_gate.specs.Serving.{is_stopped}
use Rattle.output_gate.specs.Storing.{IsDiskOf}
use Rattle.output_gate.specs.Telling.{HasTold, opened_map}
use Rattle.front_history.specs.Turns.{HalvesAreSaid, HalvesAreWhole}
use Rattle.object_core.proofs.Due.{seen_is_rear}
use Rattle.object_core.specs.Laws.{IsWhole}
use Rattle.object_core.specs.One.{IsOne, Origin, TellsNow}
use Rattle.object_core.specs.Seen.{seen_of}
use Rattle.object_core.specs.declared.object.Core.{Core}

module _ {D : Type 0} (moment_of : D → ℕ) (left_since : D → ℕ → List ℕ → Type 0) (told : D → Option (List ℕ)) (image : D → List ℕ → Type 0) (faults_of : D → ℕ)
    (core : Core D) (script : Script) (origin : Origin) (one : IsOne moment_of left_since told image faults_of script origin core) where
  pub has_told : (disk : D) → IsDiskOf core.back.store disk → IsTold (told disk)
      → HasTold moment_of left_since faults_of core.back.identity origin.start origin.opening (fronted core.front.half.log) disk (backed core.back.log)
  has_told disk at tells =
      tells_all moment_of left_since told image faults_of origin.start origin.opening (not (is_stopped core.back)) core.back disk at tells one.back_stands (fronted core.front.half.log)

  pub is_history : (said : HalvesAreSaid) → TellsNow told core.back → (class : ℕ) → IsClass one.st.class class
      → IsHistory script class (opened_map origin.start) (fronted core.front.half.log) (backed core.back.log)
  is_history said tells class is =
      let s = said (kind_in script class) (opened_map origin.start) one.st core.front.half (seen_of (opened_map origin.start) core.back) _ _
      (seen_is_rear moment_of left_since told image faults_of origin.start origin.opening core.back one.back_stands) (one.pair tells class is) in
      let h = has_told tells.0 tells.1 tells.2 in
      record {
        said = s.said;
        taken = (one.lost ++ core.line.waiting, sym (append_assoc core.back.log.taken.items one.lost core.line.waiting) ∙ sym one.is_line);
        kept = h.kept;
        halted = s.halted;
        mounted = s.mounted;
        unmounted = s.unmounted;
        ends = s.ends;
        followed = h.followed;
        released = h.passes;
      }

  pub is_whole : (laws : HalvesAreWhole) → TellsNow told core.back → (class : ℕ) → IsClass one.st.class class → standing.is_stopped core.front.half ≡ false → (below : ℕ)
      → one.st.front.incarnation ≡ suc below → IsWhole script class (opened_map origin.start) (fronted core.front.half.log) (backed core.back.log) below one.st.front.mode
  is_whole laws tells class is on below at = record {
    begins = laws.begins (kind_in script class) (opened_map origin.start) one.st core.front.half (seen_of (opened_map origin.start) core.back) _ _ below on (one.pair tells class is) at;
    whole = λ rest. laws.whole (kind_in script class) (opened_map origin.start) one.st core.front.half (seen_of (opened_map origin.start) core.back) _ _ below on (one.pair tells class is) at rest;
  }
