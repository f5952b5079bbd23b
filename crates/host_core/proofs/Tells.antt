-- Where an object's disk tells its content behind a step, it did before.
use Rattle.std.proofs.Common.{◌≡◌, ◌<◌, ◌∙◌, ap, sym, subst, inl, inr, ℕ, List, set, length, Option, Some}
use Rattle.std.specs.Prelude.{Result, slice_get}
use Rattle.std.proofs.lemmas.Bool.{cases_eq}
use Rattle.std.proofs.lemmas.List.{get_or-set_same, get_or-set_other, length-set}
use Rattle.std.proofs.lemmas.Option.{slice_get_within, slice_get-get_or, get_or_from_slice_get}
use Rattle.do_tree.specs.Tree.{Script}
use Rattle.do_value.specs.declared.fault.NoMemory.{NoMemory}
use Rattle.lane.specs.Lanes.{Both}
use Rattle.timeline.specs.declared.message.Message.{Message}
use Rattle.output_gate.specs.Storing.{KeepsTelling}
use Rattle.object_core.proofs.Rebuilding.{told_earlier}
use Rattle.object_core.specs.One.{CanRun, TellsNow}
use Rattle.object_core.specs.declared.object.Core.{Core}
use Rattle.host_core.specs.Moving.{HandsOn}

-- a step of the object
pub told_by : {D : Type 0} (moment_of : D → ℕ) (left_since : D → ℕ → List ℕ → Type 0) (told : D → Option (List ℕ)) (image : D → List ℕ → Type 0) (faults_of : D → ℕ)
    (script : Script) (old new : Core D) → CanRun moment_of left_since told image faults_of script old → KeepsTelling told old.back.store new.back.store
    → TellsNow told new.back → TellsNow told old.back
told_by moment_of left_since told image faults_of script old new can keeps tells =
    told_earlier moment_of left_since told image faults_of script can.0 old.front.half old.inbox old.back new.back keeps can.1.back_stands tells

-- what it let go is handed on
pub told_handed : {D : Type 0} (told : D → Option (List ℕ)) (old new : Core D) (out later : Both Message) (result : Result (Unit {0}) NoMemory)
    → HandsOn old new out later result → TellsNow told new.back → TellsNow told old.back
told_handed {D} told old new out later result hands tells = subst (λ (core : Core D). TellsNow told core.back) hands.same tells

module _ {X : Type 0} (xs : List X) (i : ℕ) (y : X) where
  -- What was put is there.
  is_put : i < length xs → slice_get (set xs i y) i ≡ Some y
  is_put within =
      slice_get-get_or (set xs i y) i y (subst (λ (n : ℕ). i < n) (sym (length-set xs i y)) within)
      ∙ ap (λ (x : X). Some x) (get_or-set_same xs i y y within)

  -- What was at another place is there still.
  is_still : (k : ℕ) (z : X) → slice_get xs k ≡ Some z → (k ≡ i → ⊥) → slice_get (set xs i y) k ≡ Some z
  is_still k z at other =
      slice_get-get_or (set xs i y) k z (subst (λ (n : ℕ). k < n) (sym (length-set xs i y)) (slice_get_within xs k z at))
      ∙ ap (λ (x : X). Some x) (get_or-set_other xs i k y z other ∙ get_or_from_slice_get xs k z z at)

-- the steps of one slot's object
pub told_put : {D : Type 0} (told : D → Option (List ℕ)) (cores : List (Core D)) (slot : ℕ) (core later : Core D) → slice_get cores slot ≡ Some core
    → (TellsNow told later.back → TellsNow told core.back)
    → ((k : ℕ) (c : Core D) → slice_get (set cores slot later) k ≡ Some c → TellsNow told c.back)
    → (k : ℕ) (c : Core D) → slice_get cores k ≡ Some c → TellsNow told c.back
told_put {D} told cores slot core later is before all k c at = elim (cases_eq k slot) [
  | inl here ↦
      let same : core ≡ c = sym (get_or_from_slice_get cores slot core c is)
      ∙ get_or_from_slice_get cores slot c c (subst (λ (n : ℕ). slice_get cores n ≡ Some c) here at) in
      subst (λ (x : Core D). TellsNow told x.back) same (before (all slot later (is_put cores slot later (slice_get_within cores slot core is))))
  | inr other ↦ all k c (is_still cores slot later k c at other)
]
