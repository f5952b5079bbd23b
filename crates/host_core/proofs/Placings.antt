-- The slots of a run, one of which is changed.
use Rattle.std.proofs.Common.{◌≡◌, ◌<◌, ◌≢◌, ◌∙◌, ap, sym, subst, inl, inr, ℕ, List, length, set, Some}
use Rattle.std.specs.Prelude.{slice_get}
use Rattle.std.proofs.lemmas.Bool.{cases_eq}
use Rattle.std.proofs.lemmas.List.{get_or-set_same, get_or-set_other, length-set}
use Rattle.std.proofs.lemmas.Option.{slice_get_within, slice_get-get_or, get_or_from_slice_get}
use Rattle.output_gate.proofs.Histories.{get_some}
use Rattle.lane.specs.Lanes.{Both}
use Rattle.timeline.specs.declared.event.Event.{Event}
use Rattle.timeline.specs.declared.message.Message.{Message}
use Rattle.object_core.specs.declared.object.Core.{Core}
use Rattle.host_core.specs.Objects.{AllSlots}
use Rattle.host_core.specs.declared.objects.Objects.{Objects}

-- What is at a place of one list has its like in another that is as long.
pub get_there : {X Y : Type 0} (xs : List X) (ys : List Y) (i : ℕ) (x : X) → length ys ≡ length xs → slice_get xs i ≡ Some x
    → (y : Y) × (slice_get ys i ≡ Some y)
get_there xs ys i x same is = get_some ys i (subst (λ (n : ℕ). i < n) (sym same) (slice_get_within xs i x is))

module _ {X : Type 0} (xs : List X) (i : ℕ) (y z : X) where
  -- What was put there is there.
  pub put_here : slice_get (set xs i y) i ≡ Some z → z ≡ y
  put_here is =
      let within = subst (λ (n : ℕ). i < n) (length-set xs i y) (slice_get_within (set xs i y) i z is) in
      sym (get_or_from_slice_get (set xs i y) i z y is) ∙ get_or-set_same xs i y y within

  -- What is at another place was there.
  pub put_elsewhere : (k : ℕ) → slice_get (set xs i y) k ≡ Some z → k ≢ i → slice_get xs k ≡ Some z
  put_elsewhere k is other =
      let within = subst (λ (n : ℕ). k < n) (length-set xs i y) (slice_get_within (set xs i y) k z is) in
      slice_get-get_or xs k z within
      ∙ ap (λ (x : X). Some x) (sym (get_or-set_other xs i k y z other) ∙ get_or_from_slice_get (set xs i y) k z z is)

module _ {X : Type 0} (old new : List X) (i : ℕ) (y : X) (is : new ≡ set old i y) where
  pub same_length : length new ≡ length old
  same_length = ap length is ∙ length-set old i y

  pub now_here : (z : X) → slice_get new i ≡ Some z → z ≡ y
  now_here z at = put_here old i y z (subst (λ (xs : List X). slice_get xs i ≡ Some z) is at)

  pub was_there : (k : ℕ) (z : X) → slice_get new k ≡ Some z → k ≢ i → slice_get old k ≡ Some z
  was_there k z at other = put_elsewhere old i y z k (subst (λ (xs : List X). slice_get xs k ≡ Some z) is at) other

-- One slot is changed, of which this holds then, and each other stands as before.
pub slots_put : {D : Type 0} (P Q : ℕ → Core D → Both Event → Both Message → Type 0) (old new : Objects D) (slot : ℕ)
    (core : Core D) (inbox : Both Event) (out : Both Message)
    → new.cores.items ≡ set old.cores.items slot core → new.inboxes.items ≡ set old.inboxes.items slot inbox
    → new.outs.items ≡ set old.outs.items slot out
    → ((k : ℕ) (c : Core D) (i : Both Event) (o : Both Message) → k ≢ slot → P k c i o → Q k c i o)
    → Q slot core inbox out → AllSlots P old → AllSlots Q new
slots_put {D} P Q old new slot core inbox out cores inboxes outs others here all = record {
  inboxes = same_length old.inboxes.items new.inboxes.items slot inbox inboxes ∙ all.inboxes ∙ sym (same_length old.cores.items new.cores.items slot core cores);
  outs = same_length old.outs.items new.outs.items slot out outs ∙ all.outs ∙ sym (same_length old.cores.items new.cores.items slot core cores);
  each = λ k c i o is_core is_inbox is_out. elim (cases_eq k slot) [
    | inl at ↦
        let same_core : c ≡ core = now_here old.cores.items new.cores.items slot core cores c (subst (λ (n : ℕ). slice_get new.cores.items n ≡ Some c) at is_core) in
        let same_inbox : i ≡ inbox = now_here old.inboxes.items new.inboxes.items slot inbox inboxes i (subst (λ (n : ℕ). slice_get new.inboxes.items n ≡ Some i) at is_inbox) in
        let same_out : o ≡ out = now_here old.outs.items new.outs.items slot out outs o (subst (λ (n : ℕ). slice_get new.outs.items n ≡ Some o) at is_out) in
        subst (λ (n : ℕ). Q n c i o) (sym at) (subst (λ (x : Core D). Q slot x i o) (sym same_core)
        (subst (λ (x : Both Event). Q slot core x o) (sym same_inbox) (subst (λ (x : Both Message). Q slot core inbox x) (sym same_out) here)))
    | inr other ↦ others k c i o other (all.each k c i o
        (was_there old.cores.items new.cores.items slot core cores k c is_core other)
        (was_there old.inboxes.items new.inboxes.items slot inbox inboxes k i is_inbox other)
        (was_there old.outs.items new.outs.items slot out outs k o is_out other))
  ];
}

-- What holds of each slot, for what holds there.
pub slots_by : {D : Type 0} (P Q : ℕ → Core D → Both Event → Both Message → Type 0) (objects : Objects D)
    → ((slot : ℕ) (core : Core D) (inbox : Both Event) (out : Both Message) → slot < length objects.cores.items → P slot core inbox out → Q slot core inbox out)
    → AllSlots P objects → AllSlots Q objects
slots_by P Q objects then all = record {
  inboxes = all.inboxes;
  outs = all.outs;
  each = λ slot core inbox out is_core is_inbox is_out.
      then slot core inbox out (slice_get_within objects.cores.items slot core is_core) (all.each slot core inbox out is_core is_inbox is_out);
}
