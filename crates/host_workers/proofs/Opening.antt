-- The cell of a back of a slot that was just mounted.
use Rattle.std.proofs.Common.{◌≡◌, ◌∙◌, ap, sym, refl, subst, inl, inr, ℕ, suc, arith, List, [], ◌++◌, length, Option}
use Rattle.std.specs.Prelude.{Bool}
use Rattle.std.specs.List.{flat_map}
use Rattle.storage_map.specs.declared.op.Op.{Op}
use Rattle.timeline.specs.Logs.{Backed}
use Rattle.timeline.specs.declared.entry.Entry.{Entry}
use Rattle.timeline.specs.declared.message.Message.{Message as Sent}
use Rattle.timeline.specs.declared.notice.Notice.{Notice}
use Rattle.output_gate.specs.Serving.{IsBack, IsBackAs}
use Rattle.output_gate.specs.Telling.{opened_map}
use Rattle.output_gate.specs.declared.back.Back.{Back}
use Rattle.output_gate.specs.declared.back.Mode.TheVariants.{Mounted}
use Rattle.output_gate.specs.declared.held.Held.{Held as BackHeld}
use Rattle.object_history.specs.Seen.{held_of, stand_of}
use Rattle.object_core.proofs.Due.{seen_is_rear}
use Rattle.object_core.specs.Apart.{BackRuns, IsOpened, begins as mounts}
use Rattle.object_core.specs.One.{messages}
use Rattle.object_core.specs.Seen.{due_map, seen_of}
use Rattle.host_workers.proofs.Stepping.{none_is_few}
use Rattle.host_workers.specs.Backs.{IsBackOver, IsFresh}

module _ {D : Type 0} (moment_of : D → ℕ) (left_since : D → ℕ → List ℕ → Type 0) (told : D → Option (List ℕ)) (image : D → List ℕ → Type 0) (faults_of : D → ℕ)
    (start : List (List Op)) (opening : ℕ) (back : Back D) (fresh : IsFresh back) (known : IsBack moment_of left_since told image faults_of start opening back) where
  -- nothing has ended, so that the first incarnation is mounted
  none_ended : {A : Type 0} (stops ends : ℕ) → stops ≡ 0 → stops ≡ suc ends → A
  none_ended stops ends none some = absurd (omega (arith, none, some))

  pub is_mounted : (sound : Bool) → IsBackAs moment_of left_since told image faults_of start opening sound back → back.mode ≡ Mounted
  is_mounted sound (inl m) = m.safe.mode
  is_mounted sound (inr u) = none_ended (length back.log.stops.items) (length back.log.ends.items) (ap (λ (x : Backed). length x.stops) fresh.log) u.safe.gone

  opened : IsOpened (opened_map start) (seen_of (opened_map start) back)
  opened = record {
    is_rear = seen_is_rear moment_of left_since told image faults_of start opening back known;
    stand = ap stand_of (is_mounted _ known);
    held = ap (λ (x : List BackHeld). flat_map held_of x) fresh.held;
    taken = ap (λ (x : Backed). x.taken) fresh.log;
    stops = ap (λ (x : Backed). x.stops) fresh.log;
    downs = ap (λ (x : Backed). x.downs) fresh.log;
    map = ap (λ (x : Backed). due_map (opened_map start) x) fresh.log;
  }

  pub begins_back : (got : List Entry) (notices : List Notice) (out : List Sent) → got ≡ [] → notices ≡ [] → out ≡ []
      → IsBackOver moment_of left_since told image faults_of start opening back got notices out
  begins_back got notices out no_entry no_notice no_message =
      let taken : back.log.taken.items ≡ [] = ap (λ (x : Backed). x.taken) fresh.log in
      record {
        stands = known;
        lost = [];
        few = none_is_few;
        none_lost = λ free on. refl;
        took = no_entry ∙ ap (λ (l : List Entry). l ++ []) (sym taken);
        left = ap (λ (x : Backed). messages x.released) fresh.log ∙ sym no_message;
        tells = λ tells. record {
          unheard = [];
          few = none_is_few;
          none_unheard = λ on. refl;
          runs = subst (λ (x : List Entry × List Notice). BackRuns (opened_map start) (seen_of (opened_map start) back) x.0 (x.1 ++ [])) (λ i. (sym taken i, sym no_notice i))
              (mounts (seen_of (opened_map start) back) opened);
        };
      }
