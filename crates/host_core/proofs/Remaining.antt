-- What the objects of the slots have left, in one list.
use Rattle.std.proofs.Common.{◌≡◌, ◌<◌, ◌≤◌, ◌+◌, ◌∙◌, ap, sym, subst, refl, arith, ⊎_elim, ℕ, List, [], ◌∷◌, ◌++◌, length, map, cond, append-nil, append_assoc, Some}
use Rattle.std.specs.Prelude.{Bool, slice_get, Result, OnOk}
use Rattle.std.specs.List.{All}
use Rattle.std.proofs.lemmas.Bool.{cases_lt}
use Rattle.std.proofs.lemmas.List.{length-append, map-append}
use Rattle.std.proofs.lemmas.List.Elements.{All-append, All-cons, All-head, All-map, All-nil, All-tail, All-weaker}
use Rattle.mailbox.proofs.Sendings.{of_slot-append}
use Rattle.do_value.specs.declared.fault.NoMemory.{NoMemory}
use Rattle.mailbox.specs.Posting.{of_slot}
use Rattle.object_core.specs.declared.object.Core.{Core}
use Rattle.timeline.specs.declared.caller.Caller.{Caller}
use Rattle.timeline.specs.declared.notice.Waits.{Waits}
use Rattle.host_core.proofs.Pushed.{push_before, push_last, push_within}
use Rattle.host_core.proofs.Routings.{is_other, is_own}
use Rattle.host_core.proofs.Servings.{of_ok, on_ok_then}
use Rattle.host_core.specs.Closing.{AddsLeft, IsLeftOf, with_slot}
use Rattle.host_core.specs.Quiet.{AreLeftIn, remaining_of}

module _ {X : Type 0} where
  -- the items of a slot that all are its own, and of one that has none of them
  of_own : (slot : ℕ) (xs : List X) → of_slot slot (map (λ (x : X). (slot, x)) xs) ≡ xs
  of_own slot [] = refl
  of_own slot (x ∷ xs) =
      ap (λ (b : Bool). cond b (x ∷ of_slot slot (map (λ (x : X). (slot, x)) xs)) (of_slot slot (map (λ (x : X). (slot, x)) xs))) (is_own slot slot refl)
      ∙ ap (λ (ys : List X). x ∷ ys) (of_own slot xs)

  of_other : (slot own : ℕ) (xs : List X) → (own ≡ slot → ⊥) → of_slot slot (map (λ (x : X). (own, x)) xs) ≡ []
  of_other slot own [] away = refl
  of_other slot own (x ∷ xs) away =
      ap (λ (b : Bool). cond b (x ∷ of_slot slot (map (λ (x : X). (own, x)) xs)) (of_slot slot (map (λ (x : X). (own, x)) xs))) (is_other own slot away)
      ∙ of_other slot own xs away

  -- a slot behind all of these has none of them
  pub of_behind : (slots slot : ℕ) (items : List (ℕ × X)) → slots ≤ slot → All (λ (item : ℕ × X). item.0 < slots) items → of_slot slot items ≡ []
  of_behind slots slot [] behind within = refl
  of_behind slots slot (item ∷ items) behind within =
      ap (λ (b : Bool). cond b (item.1 ∷ of_slot slot items) (of_slot slot items))
      (is_other item.0 slot (λ same. omega (arith, same, behind, All-head (λ (i : ℕ × X). i.0 < slots) item items within)))
      ∙ of_behind slots slot items behind (All-tail (λ (i : ℕ × X). i.0 < slots) item items within)

abbrev by_slot : List (ℕ × Caller × Waits) → List (ℕ × (Caller × Waits))
by_slot left = map (λ (item : ℕ × Caller × Waits). (item.0, (item.1, item.2))) left

-- nothing is left of a slot behind all
pub behind_left : (slots slot : ℕ) (left : List (ℕ × Caller × Waits)) → slots ≤ slot → AreLeftIn slots left → remaining_of slot left ≡ []
behind_left slots slot left behind within =
    of_behind slots slot (by_slot left) behind
    (All-map (λ (item : ℕ × (Caller × Waits)). item.0 < slots) (λ (item : ℕ × Caller × Waits). (item.0, (item.1, item.2))) left within)

all_own : (slot slots : ℕ) (xs : List (Caller × Waits)) → slot < slots → All (λ (item : ℕ × Caller × Waits). item.0 < slots) (with_slot slot xs)
all_own slot slots [] less = All-nil (λ (item : ℕ × Caller × Waits). item.0 < slots)
all_own slot slots (x ∷ xs) less = All-cons (λ (item : ℕ × Caller × Waits). item.0 < slots) (slot, x.0, x.1) (with_slot slot xs) less (all_own slot slots xs less)

with_slot_is : (slot : ℕ) (xs : List (Caller × Waits)) → by_slot (with_slot slot xs) ≡ map (λ (x : Caller × Waits). (slot, x)) xs
with_slot_is slot [] = refl
with_slot_is slot ((caller, waits) ∷ xs) = ap (λ (items : List (ℕ × (Caller × Waits))). (slot, (caller, waits)) ∷ items) (with_slot_is slot xs)

-- one item more is put behind the others of its slot
pub with_slot_more : (slot : ℕ) (left old : List (ℕ × Caller × Waits)) (done : List (Caller × Waits)) (item : Caller × Waits)
    → left ≡ old ++ with_slot slot done → left ++ with_slot slot (item ∷ []) ≡ old ++ with_slot slot (done ++ item ∷ [])
with_slot_more slot left old done item is =
    ap (λ (items : List (ℕ × Caller × Waits)). items ++ with_slot slot (item ∷ [])) is ∙ append_assoc old (with_slot slot done) (with_slot slot (item ∷ []))
    ∙ ap (λ (items : List (ℕ × Caller × Waits)). old ++ items) (sym (map-append (λ (x : Caller × Waits). (slot, x.0, x.1)) done (item ∷ [])))

-- Of what is left, the items of each slot are those of its object; and there are none of other slots.
pub record AreLeftBy {D : Type 0} (cores : List (Core D)) (left : List (ℕ × Caller × Waits)) : Type 0 where
  pub within : AreLeftIn (length cores) left
  pub each : (slot : ℕ) (core : Core D) → slice_get cores slot ≡ Some core → IsLeftOf core.front.half (remaining_of slot left)

pub none_left : {D : Type 0} (left : List (ℕ × Caller × Waits)) → left ≡ [] → AreLeftBy {D = D} [] left
none_left left none = record {
  within = subst (λ (items : List (ℕ × Caller × Waits)). AreLeftIn 0 items) (sym none) (All-nil (λ (item : ℕ × Caller × Waits). item.0 < 0));
  each = λ slot core is. cc;
}

-- One object more has left what stands behind the others'.
module _ {D : Type 0} (cores : List (Core D)) (core : Core D) (left after : List (ℕ × Caller × Waits)) (slot : ℕ) (remaining : List (Caller × Waits))
    (next : slot ≡ length cores) (added : after ≡ left ++ with_slot slot remaining)
    (is_left : IsLeftOf core.front.half remaining) (are : AreLeftBy cores left) where
  abbrev own : List (ℕ × (Caller × Waits))
  own = map (λ (item : Caller × Waits). (slot, item)) remaining

  more : length (cores ++ core ∷ []) ≡ length cores + 1
  more = length-append cores (core ∷ [])

  within_more : AreLeftIn (length (cores ++ core ∷ [])) after
  within_more =
      subst (AreLeftIn (length (cores ++ core ∷ []))) (sym added)
      (All-append (λ (item : ℕ × Caller × Waits). item.0 < length (cores ++ core ∷ [])) left (with_slot slot remaining)
      (All-weaker (λ (item : ℕ × Caller × Waits). item.0 < length cores) (λ (item : ℕ × Caller × Waits). item.0 < length (cores ++ core ∷ []))
      (λ item less. omega (arith, less, more)) left are.within)
      (all_own slot (length (cores ++ core ∷ [])) remaining (omega (arith, next, more))))

  of_after : (at : ℕ) → remaining_of at after ≡ remaining_of at left ++ of_slot at own
  of_after at =
      ap (remaining_of at) added
      ∙ ap (of_slot at) (map-append (λ (item : ℕ × Caller × Waits). (item.0, (item.1, item.2))) left (with_slot slot remaining)
      ∙ ap (λ (items : List (ℕ × (Caller × Waits))). by_slot left ++ items) (with_slot_is slot remaining))
      ∙ of_slot-append at (by_slot left) own

  -- the items of an earlier slot, and of this one
  of_before : (at : ℕ) → at < length cores → remaining_of at left ≡ remaining_of at after
  of_before at less =
      sym (of_after at ∙ ap (λ (xs : List (Caller × Waits)). remaining_of at left ++ xs) (of_other at slot remaining (λ same. omega (arith, same, less, next)))
      ∙ append-nil (remaining_of at left))

  of_last : remaining ≡ remaining_of slot after
  of_last =
      sym (of_after slot
      ∙ ap (λ (xs : List (Caller × Waits)). xs ++ of_slot slot own) (of_behind (length cores) slot (by_slot left) (omega (arith, next))
      (All-map (λ (item : ℕ × (Caller × Waits)). item.0 < length cores) (λ (item : ℕ × Caller × Waits). (item.0, (item.1, item.2))) left are.within))
      ∙ of_own slot remaining)

  each_more : (at : ℕ) (that : Core D) → slice_get (cores ++ core ∷ []) at ≡ Some that → IsLeftOf that.front.half (remaining_of at after)
  each_more at that there =
      ⊎_elim
      (λ less. subst (λ (items : List (Caller × Waits)). IsLeftOf that.front.half items) (of_before at less) (are.each at that (push_before cores core that at less there)))
      (λ behind.
      let last : length cores ≡ at = omega (arith, behind, push_within cores core that at there) in
      subst (λ (c : Core D). IsLeftOf c.front.half (remaining_of at after)) (push_last cores core that at last there)
      (subst (λ (n : ℕ). IsLeftOf core.front.half (remaining_of n after)) (next ∙ last)
      (subst (λ (items : List (Caller × Waits)). IsLeftOf core.front.half items) of_last is_left)))
      (cases_lt at (length cores))

  pub left_more : AreLeftBy (cores ++ core ∷ []) after
  left_more = record { within = within_more; each = each_more }

-- The same as far as memory sufficed to ask.
pub left_then : {D : Type 0} (cores : List (Core D)) (core : Core D) (left after : List (ℕ × Caller × Waits)) (slot : ℕ) (asked result : Result (Unit {0}) NoMemory)
    → slot ≡ length cores → OnOk asked (AreLeftBy cores left) → OnOk result (AddsLeft slot core.front.half asked left after)
    → OnOk result (AreLeftBy (cores ++ core ∷ []) after)
left_then cores core left after slot asked result next are =
    on_ok_then result (λ adds. left_more cores core left after slot adds.remaining next adds.added adds.is_left (of_ok asked tt (AreLeftBy cores left) adds.asked_others are))
