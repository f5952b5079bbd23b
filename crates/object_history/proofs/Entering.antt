-- An entry that a back takes changes what was kept of no other incarnation.
use Rattle.std.proofs.Common.{◌≡◌, ◌∙◌, ap, refl, inl, inr, ⊎_elim, ℕ, zero, suc, ◌<◌, ◌≤◌, List, [], length, arith}
use Rattle.std.specs.Prelude.{◌⊎◌, slice_get}
use Rattle.timeline.specs.History.{entries_of, batches_in, kept_by, kept_of, incarnation_at, incarnations}
use Rattle.timeline.specs.Intake.{Front}
use Rattle.timeline.specs.Logs.{Fronted}
use Rattle.timeline.specs.declared.entry.Body.{Body}
use Rattle.timeline.specs.declared.entry.Entry.{Entry}
use Rattle.storage_map.specs.Contents.{Contents}
use Rattle.object_history.proofs.Alike.{IsAlike, IsKeptAlike}
use Rattle.object_history.proofs.Entries.{entries_same, entries_more, kept_same}
use Rattle.object_history.proofs.Heads.{Head, is_own, is_late}
use Rattle.object_history.specs.Pair.{Rear, newest}
use Rattle.object_history.specs.Stepping.{IsRear, with_entry}

module _ (front : Fronted) (rear : Rear) (e : Entry) where
  pub entered_alike : (index : ℕ) → IsAlike front front rear.log (with_entry rear e) index
  entered_alike index = record { delivered = refl; sent = refl; stop = refl; downed = refl; missed = refl }

  pub kept_elsewhere : (index : ℕ) → (e.incarnation ≡ suc index → ⊥) → IsKeptAlike front front rear.log (with_entry rear e) index
  kept_elsewhere index other =
      ap (λ (entries : List Entry). kept_by (kept_of (slice_get rear.log.ends index)) (batches_in entries)) (entries_same (suc index) rear.log.taken e other)

  -- what was kept of the one that stopped last was taken before
  pub kept_last : (opened : Contents) → IsRear opened rear → (index : ℕ) → length rear.log.stops ≡ suc index → e.incarnation ≡ suc index
      → IsKeptAlike front front rear.log (with_entry rear e) index
  kept_last opened known index stops is =
      let kept = kept_of (slice_get rear.log.ends index) in
      ap (λ (entries : List Entry). kept_by kept (batches_in entries)) (entries_more (suc index) rear.log.taken e is)
      ∙ kept_same kept (entries_of (suc index) rear.log.taken) e
      (λ count some. known.kept front (incarnation_at front rear.log index) (incarnations front rear.log index) count
      (ap (λ (n : ℕ). incarnations front rear.log n) stops) some)

  -- the incarnations that stopped before it are unchanged
  pub kept_of_all : (opened : Contents) → IsRear opened rear → (n : ℕ) → length rear.log.stops ≡ n → n ≤ e.incarnation
      → (index : ℕ) → index < n → IsKeptAlike front front rear.log (with_entry rear e) index
  kept_of_all opened known n stops from index less = ⊎_elim
      (λ (is : e.incarnation ≡ suc index). kept_last opened known index (stops ∙ omega (arith, from, less, is)) is)
      (λ (other : e.incarnation ≡ suc index → ⊥). kept_elsewhere index other)
      (same_or_not e.incarnation (suc index))
    where
      same_or_not : (a b : ℕ) → (a ≡ b) ⊎ (a ≡ b → ⊥)
      same_or_not zero zero = inl refl
      same_or_not zero (suc b) = inr (λ is. omega (arith, is))
      same_or_not (suc a) zero = inr (λ is. omega (arith, is))
      same_or_not (suc a) (suc b) = ⊎_elim (λ (is : a ≡ b). inl (ap suc is)) (λ (other : a ≡ b → ⊥). inr (λ is. other (omega (arith, is)))) (same_or_not a b)

  -- an entry of the back's newest incarnation isn't there while the back is one ahead
  pub never_behind : (f : Front) (line : List Entry) (below : ℕ) (n : ℕ) (late : List Entry) (unread : List Body) → f.incarnation ≡ suc below
      → length rear.log.stops ≡ suc below → e.incarnation ≡ newest rear.log → late ≡ [] → Head f.incarnation n e line late unread → ⊥
  never_behind f line below n _ _ number stops is none (is_own b more same rest) =
      omega (arith, number, stops, is, ap (λ (x : Entry). x.incarnation) same)
  never_behind f line below n _ _ number stops is none (is_late x late unread same rest) = cc
