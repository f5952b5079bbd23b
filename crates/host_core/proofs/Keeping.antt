-- A message that was taken before and isn't routed, in the queues from the slots.
use Rattle.std.proofs.Common.{◌≡◌, ◌≢◌, ◌∙◌, ap, sym, subst, inl, inr, ℕ, List, [], ◌∷◌, ◌++◌, cond, ◌<◌, set, append-nil, append_assoc, refl, Option, Some, None, Result, Ok, Err}
use Rattle.std.specs.Prelude.{Bool, OnErr, OnOk, slice_get}
use Rattle.std.specs.List.{All}
use Rattle.std.proofs.lemmas.List.{set-get_or}
use Rattle.std.proofs.lemmas.List.Elements.{All-head}
use Rattle.std.proofs.lemmas.Bool.{cases_eq}
use Rattle.std.proofs.lemmas.Option.{get_or_from_slice_get}
use Rattle.lane.specs.Lanes.{Both, sent_on}
use Rattle.timeline.specs.declared.message.Message.{Message}
use Rattle.mailbox.specs.Posting.{of_slot}
use Rattle.host_workers.specs.Switches.{kept_in}
use Rattle.host_core.proofs.Placings.{now_here, same_length, was_there}
use Rattle.host_core.proofs.Routings.{is_other, is_own}
use Rattle.host_core.specs.Moving.{KeepsMessage}

-- What is at one place of a list is one.
same_item : {X : Type 0} (xs : List X) (at : ℕ) (x y : X) → slice_get xs at ≡ Some x → slice_get xs at ≡ Some y → x ≡ y
same_item xs at x y one other = sym (get_or_from_slice_get xs at x x one) ∙ get_or_from_slice_get xs at y x other

-- None was taken.
pub keeps_none : (outs : List (Both Message)) → KeepsMessage None outs outs
keeps_none outs = record {
  many = refl;
  each = λ slot before after was is.
      let same : after ≡ before = same_item outs slot after before is was in (
        ap (λ (queue : Both Message). queue.got) same,
        ap sent_on same ∙ sym (append-nil (sent_on before)),
      );
}

-- One was taken, and stands behind what its slot's queue had.
module _ (old new : List (Both Message)) (slot : ℕ) (message : Message) (end later : Both Message) (was : slice_get old slot ≡ Some end)
    (is : new ≡ set old slot later) (got : later.got ≡ end.got) (waiting : later.waiting ≡ end.waiting ++ message ∷ []) where
  behind : sent_on later ≡ sent_on end ++ message ∷ []
  behind = ap (λ (ms : List Message). ms ++ later.waiting) got ∙ ap (λ (ms : List Message). end.got ++ ms) waiting ∙ sym (append_assoc end.got end.waiting (message ∷ []))

  here : (after : Both Message) → slice_get new slot ≡ Some after
      → (after.got ≡ end.got) × (sent_on after ≡ sent_on end ++ of_slot slot ((slot, message) ∷ []))
  here after at =
      let same : after ≡ later = now_here old new slot later is after at in (
        ap (λ (queue : Both Message). queue.got) same ∙ got,
        ap sent_on same ∙ behind ∙ ap (λ (b : Bool). sent_on end ++ cond b (message ∷ []) []) (sym (is_own slot slot refl)),
      )

  away : (at : ℕ) (before after : Both Message) → at ≢ slot → slice_get old at ≡ Some before → slice_get new at ≡ Some after
      → (after.got ≡ before.got) × (sent_on after ≡ sent_on before ++ of_slot at ((slot, message) ∷ []))
  away at before after other is_before is_after =
      let same : after ≡ before = same_item old at after before (was_there old new slot later is at after is_after other) is_before in
      let differs : slot ≢ at = λ e. other (sym e) in (
        ap (λ (queue : Both Message). queue.got) same,
        ap sent_on same ∙ sym (append-nil (sent_on before)) ∙ ap (λ (b : Bool). sent_on before ++ cond b (message ∷ []) []) (sym (is_other slot at differs)),
      )

  pub keeps_one : KeepsMessage (Some (slot, message)) old new
  keeps_one = record {
    many = same_length old new slot later is;
    each = λ at before after is_before is_after.
        elim (cases_eq at slot) as (λ _. (after.got ≡ before.got) × (sent_on after ≡ sent_on before ++ of_slot at ((slot, message) ∷ []))) [
          | inl same ↦
              let own : before ≡ end = same_item old slot before end (subst (λ (n : ℕ). slice_get old n ≡ Some before) same is_before) was in
              let both = here after (subst (λ (n : ℕ). slice_get new n ≡ Some after) same is_after) in (
                both.0 ∙ ap (λ (queue : Both Message). queue.got) (sym own),
                both.1 ∙ ap (λ (queue : Both Message). sent_on queue ++ of_slot slot ((slot, message) ∷ [])) (sym own)
                    ∙ ap (λ (n : ℕ). sent_on before ++ of_slot n ((slot, message) ∷ [])) (sym same),
              )
          | inr other ↦ away at before after other is_before is_after
        ];
  }

-- The slot of a message that was taken is there.
pub is_there : (slots : ℕ) (kept : Option (ℕ × Message)) (slot : ℕ) (message : Message) → kept ≡ Some (slot, message) → All (λ sent. sent.0 < slots) (kept_in kept)
    → slot < slots
is_there slots kept slot message is all =
    All-head (λ (sent : ℕ × Message). sent.0 < slots) (slot, message) [] (subst (λ (k : Option (ℕ × Message)). All (λ (sent : ℕ × Message). sent.0 < slots) (kept_in k)) is all)

-- Where memory suffices it stands there, and else the queues are as they were.
pub keeps_ok : {T E : Type 0} (result : Result T E) (kept : Option (ℕ × Message)) (old : List (Both Message)) (slot : ℕ) (message : Message) (end later : Both Message)
    → kept ≡ Some (slot, message) → slice_get old slot ≡ Some end → later.got ≡ end.got → OnOk result (later.waiting ≡ end.waiting ++ message ∷ [])
    → OnOk result (KeepsMessage kept old (set old slot later))
keeps_ok (Ok value) kept old slot message end later is at got waiting =
    subst (λ (k : Option (ℕ × Message)). KeepsMessage k old (set old slot later)) (sym is) (keeps_one old (set old slot later) slot message end later at refl got waiting)
keeps_ok (Err error) kept old slot message end later is at got waiting = tt

pub same_at : {T E X : Type 0} (result : Result T E) (old : List X) (slot : ℕ) (end later : X) → slice_get old slot ≡ Some end → OnErr result (later ≡ end)
    → OnErr result (set old slot later ≡ old)
same_at (Ok value) old slot end later at same = tt
same_at (Err error) old slot end later at same =
    ap (set old slot) (same ∙ sym (get_or_from_slice_get old slot end end at)) ∙ set-get_or old slot end
