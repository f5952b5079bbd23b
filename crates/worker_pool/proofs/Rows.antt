-- The cells of all slots, made one after another.
use Rattle.std.proofs.Common.{◌≡◌, ◌∙◌, sym, ap, refl, subst, ℕ, zero, suc, ◌⊎◌, inl, inr, ⊎_elim, List, [], ◌∷◌, ◌++◌, length, slice_get, Option, Some}
use Rattle.std.proofs.lemmas.List.{map-append}
use Rattle.do_tree.specs.Tree.{Script}
use Rattle.worker_pool.specs.Making.{AreMade, IsMade}
use Rattle.worker_pool.specs.declared.making.Made.{Made}
use Rattle.worker_pool.specs.declared.making.Slot.{Slot}
use Rattle.host_workers.specs.declared.joining.Halves.{Halves}

-- what stands in a list behind which one thing was put: that, or what stood there
pub at_push : {X : Type 0} (xs : List X) (y : X) (at : ℕ) (z : X) → slice_get (xs ++ y ∷ []) at ≡ Some z → (slice_get xs at ≡ Some z) ⊎ (y ≡ z)
at_push [] y zero z e = inr cc
at_push [] y (suc at) z e = cc
at_push (x ∷ xs) y zero z e = inl e
at_push (x ∷ xs) y (suc at) z e = at_push xs y at z e

-- the halves of a slot, and its cells
abbrev pub Row : Type 0 → Type 0 → Type 0
Row D T = Halves D × Slot D T

module _ {D T : Type 0} (moment_of : D → ℕ) (left_since : D → ℕ → List ℕ → Type 0) (told : D → Option (List ℕ)) (image : D → List ℕ → Type 0)
    (faults_of : D → ℕ) (script : Script) where
  -- those of one slot more
  pub made_more : (all : List (Halves D)) (halves : Halves D) (old new : Made D T) (slot : Slot D T)
      → AreMade moment_of left_since told image faults_of script all old → IsMade moment_of left_since told image faults_of script halves slot
      → new.fronts.items ≡ old.fronts.items ++ Some slot.front ∷ [] → new.backs.items ≡ old.backs.items ++ Some slot.back ∷ []
      → new.outs.items ≡ old.outs.items ++ slot.out ∷ [] → new.inboxes.items ≡ old.inboxes.items ++ slot.inbox ∷ []
      → AreMade moment_of left_since told image faults_of script (all ++ halves ∷ []) new
  made_more all halves old new slot before made fronts backs outs inboxes =
      let row : Row D T = (halves, slot) in
      record {
        slots = before.slots ++ row ∷ [];
        halves = ap (λ (l : List (Halves D)). l ++ halves ∷ []) before.halves ∙ sym (map-append (λ (s : Row D T). s.0) before.slots (row ∷ []));
        fronts = fronts ∙ ap (λ l. l ++ Some slot.front ∷ []) before.fronts ∙ sym (map-append (λ (s : Row D T). Some s.1.front) before.slots (row ∷ []));
        backs = backs ∙ ap (λ l. l ++ Some slot.back ∷ []) before.backs ∙ sym (map-append (λ (s : Row D T). Some s.1.back) before.slots (row ∷ []));
        outs = outs ∙ ap (λ l. l ++ slot.out ∷ []) before.outs ∙ sym (map-append (λ (s : Row D T). s.1.out) before.slots (row ∷ []));
        inboxes = inboxes ∙ ap (λ l. l ++ slot.inbox ∷ []) before.inboxes ∙ sym (map-append (λ (s : Row D T). s.1.inbox) before.slots (row ∷ []));
        each = λ at s is. ⊎_elim (λ there. before.each at s there) (λ (same : row ≡ s). subst (λ (x : Row D T). IsMade moment_of left_since told image faults_of script x.0 x.1) same made)
            (at_push before.slots row at s is);
      }

  -- and those of none
  pub made_none : (made : Made D T) → made.fronts.items ≡ [] → made.backs.items ≡ [] → made.outs.items ≡ [] → made.inboxes.items ≡ []
      → AreMade moment_of left_since told image faults_of script [] made
  made_none made fronts backs outs inboxes = record {
    slots = [];
    halves = refl;
    fronts = fronts;
    backs = backs;
    outs = outs;
    inboxes = inboxes;
    each = λ at s is. cc;
  }

-- what stands next in a list
pub next_at : {X : Type 0} (xs : List X) (y : X) (ys : List X) → slice_get (xs ++ y ∷ ys) (length xs) ≡ Some y
next_at [] y ys = refl
next_at (x ∷ xs) y ys = next_at xs y ys
