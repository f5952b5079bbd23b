-- What is posted is sent and logged, one post after another.
use Rattle.std.proofs.Common.{◌≡◌, ◌<◌, ℕ, inl, inr, List, [], ◌∷◌, ◌++◌, map, length, get_or, set, cond, true, false, refl, sym, ap, subst, ◌∙◌, append_assoc}
use Rattle.std.specs.Prelude.{Bool, ◌==◌, ◌⊎◌, Result, Ok, Err, OnErr}
use Rattle.std.proofs.lemmas.Bool.{cases_eq}
use Rattle.std.proofs.lemmas.Bool.Decides.{nat_tests}
use Rattle.std.proofs.lemmas.List.{append-nil, append_cancel_left, get_or-set_same, get_or-set_other, get_or-map, length-map, map-set}
use Rattle.std.proofs.Math.Seq.{map-set_same}
use Rattle.std.proofs.Common.{arith}
use Rattle.lane.specs.Lanes.{LaneId}
use Rattle.timeline.specs.declared.event.Event.{Event}
use Rattle.mailbox.specs.Givens.{AreWithin}
use Rattle.mailbox.specs.Posting.{of_slot, at_slot, GoesOn, Posts, SameOutlets}

is_own : (n k : ℕ) → n ≡ k → (n == k) ≡ true
is_own n k e = grind (arith, nat_tests, e)

is_other : (n k : ℕ) → (n ≡ k → ⊥) → (n == k) ≡ false
is_other n k e = grind (arith, nat_tests, e)

pub of_slot-append : {X : Type 0} (slot : ℕ) (xs ys : List (ℕ × X)) → of_slot slot (xs ++ ys) ≡ of_slot slot xs ++ of_slot slot ys
of_slot-append slot [] ys = refl
of_slot-append {X} slot (x ∷ xs) ys =
    elim (x.0 == slot) as (λ (b : Bool). cond b (x.1 ∷ of_slot slot (xs ++ ys)) (of_slot slot (xs ++ ys)) ≡ cond b (x.1 ∷ of_slot slot xs) (of_slot slot xs) ++ of_slot slot ys) [
      | true ↦ ap (λ (l : List X). x.1 ∷ l) (of_slot-append slot xs ys)
      | false ↦ of_slot-append slot xs ys
    ]

of_own : {X : Type 0} (own slot : ℕ) (x : X) → own ≡ slot → of_slot slot ((own, x) ∷ []) ≡ x ∷ []
of_own {X} own slot x e = ap (λ (b : Bool). cond b (x ∷ []) []) (is_own own slot e)

of_other : {X : Type 0} (own slot : ℕ) (x : X) → (own ≡ slot → ⊥) → of_slot slot ((own, x) ∷ []) ≡ []
of_other {X} own slot x e = ap (λ (b : Bool). cond b (x ∷ []) []) (is_other own slot e)

-- ---- what was logged goes on
pub goes_none : {X : Type 0} (old wanted : List X) → GoesOn old old wanted
goes_none old wanted = record { since = []; more = sym (append-nil old); first = (wanted, refl) }

pub goes_all : {X : Type 0} (old new wanted : List X) → new ≡ old ++ wanted → GoesOn old new wanted
goes_all old new wanted all = record { since = wanted; more = all; first = ([], append-nil wanted) }

-- what is logged, with what is left, is all
pub goes_first : {X : Type 0} (old new wanted since rest : List X) → new ≡ old ++ since → new ++ rest ≡ old ++ wanted → GoesOn old new wanted
goes_first {X} old new wanted since rest more all = record { since = since; more = more; first = (rest, append_cancel_left old (since ++ rest) wanted whole) }
  where
    whole : old ++ (since ++ rest) ≡ old ++ wanted
    whole = sym (append_assoc old since rest) ∙ ap (λ (l : List X). l ++ rest) (sym more) ∙ all

-- the same with one item of those that are left, or without it
pub goes_item : {X : Type 0} (old now new wanted since : List X) (x : X) (rest : List X) → now ≡ old ++ since → now ++ (x ∷ rest) ≡ old ++ wanted
    → (new ≡ now) ⊎ (new ≡ now ++ x ∷ []) → GoesOn old new wanted
goes_item {X} old now new wanted since x rest is all which = elim which [
  | inl same ↦ goes_first old new wanted since (x ∷ rest) (same ∙ is) (ap (λ (l : List X). l ++ (x ∷ rest)) same ∙ all)
  | inr more ↦ goes_first old new wanted (since ++ x ∷ []) rest
      (more ∙ ap (λ (l : List X). l ++ x ∷ []) is ∙ append_assoc old since (x ∷ []))
      (ap (λ (l : List X). l ++ rest) more ∙ append_assoc now (x ∷ []) rest ∙ all)
]

pub on_err : {T E P : Type 0} (r : Result T E) → P → OnErr r P
on_err (Ok x) p = tt
on_err (Err e) p = p

module _ {S : Type 0} (sent : S → List Event) where
  -- nothing was sent
  pub posts_none : (old new : List S) (log later : List (ℕ × Event)) → map sent new ≡ map sent old → later ≡ log → Posts sent old new log later
  posts_none old new log later same kept = record {
    since = [];
    logged = kept ∙ sym (append-nil log);
    each = λ slot. ap (λ (lanes : List (List Event)). get_or lanes slot []) same ∙ sym (append-nil (at_slot sent old slot));
  }

  -- one event was sent
  pub posts_one : (old new : List S) (log later : List (ℕ × Event)) (own : ℕ) (event : Event) → own < length old
      → map sent new ≡ set (map sent old) own (at_slot sent old own ++ event ∷ []) → later ≡ log ++ (own, event) ∷ [] → Posts sent old new log later
  posts_one old new log later own event within now kept = record { since = (own, event) ∷ []; logged = kept; each = each }
    where
      lanes : List (List Event)
      lanes = map sent old

      less : own < length lanes
      less = subst (λ (n : ℕ). own < n) (sym (length-map old sent)) within

      each : (slot : ℕ) → at_slot sent new slot ≡ at_slot sent old slot ++ of_slot slot ((own, event) ∷ [])
      each slot =
          elim (cases_eq own slot) [
            | inl here ↦
                ap (λ (l : List (List Event)). get_or l slot []) now
                ∙ ap (λ (n : ℕ). get_or (set (map sent old) own (at_slot sent old own ++ event ∷ [])) n []) (sym here)
                ∙ get_or-set_same (map sent old) own (at_slot sent old own ++ event ∷ []) [] less
                ∙ ap (λ (n : ℕ). at_slot sent old n ++ event ∷ []) here
                ∙ ap (λ (l : List Event). at_slot sent old slot ++ l) (sym (of_own own slot event here))
            | inr away ↦
                ap (λ (l : List (List Event)). get_or l slot []) now
                ∙ get_or-set_other (map sent old) own slot (at_slot sent old own ++ event ∷ []) [] (λ e. away (sym e))
                ∙ sym (append-nil (at_slot sent old slot))
                ∙ ap (λ (l : List Event). at_slot sent old slot ++ l) (sym (of_other own slot event away))
          ]

  -- first these, then those
  pub posts_then : (a b c : List S) (p q r : List (ℕ × Event)) → Posts sent a b p q → Posts sent b c q r → Posts sent a c p r
  posts_then a b c p q r one two = record {
    since = one.since ++ two.since;
    logged = two.logged ∙ ap (λ (l : List (ℕ × Event)). l ++ two.since) one.logged ∙ append_assoc p one.since two.since;
    each = λ slot.
        two.each slot
        ∙ ap (λ (l : List Event). l ++ of_slot slot two.since) (one.each slot)
        ∙ append_assoc (at_slot sent a slot) (of_slot slot one.since) (of_slot slot two.since)
        ∙ ap (λ (l : List Event). at_slot sent a slot ++ l) (sym (of_slot-append slot one.since two.since));
  }

-- ---- an end that is changed
module _ {S X : Type 0} (items : S → List X) (old : List S) (own : ℕ) (end after : S) (within : own < length old) where
  pub at_own : at_slot items old own ≡ items (get_or old own end)
  at_own = get_or-map items old own end [] within

  -- one item more
  pub set_more : (x : X) → items after ≡ items (get_or old own end) ++ x ∷ [] → map items (set old own after) ≡ set (map items old) own (at_slot items old own ++ x ∷ [])
  set_more x now = map-set items old own after ∙ ap (λ (l : List X). set (map items old) own l) (now ∙ ap (λ (l : List X). l ++ x ∷ []) (sym at_own))

pub set_same : {S X : Type 0} (f : S → X) (old : List S) (own : ℕ) (end after : S) → f after ≡ f (get_or old own end) → map f (set old own after) ≡ map f old
set_same f old own end after same = map-set_same f old own after end same

-- ---- how many there are
pub same_count : {S X : Type 0} (f : S → X) (old new : List S) → map f new ≡ map f old → length new ≡ length old
same_count f old new same = sym (length-map new f) ∙ ap length same ∙ length-map old f

pub within_still : (old new : ℕ) (posts : List (ℕ × Event)) → new ≡ old → AreWithin old posts → AreWithin new posts
within_still old new posts same within = subst (λ (n : ℕ). AreWithin n posts) (sym same) within

pub outlets_none : {S : Type 0} (outlet : S → LaneId) (left : S → List Event) (ends : List S) → SameOutlets outlet left ends ends
outlets_none outlet left ends = record { lanes = refl; known = refl }

pub outlets_then : {S : Type 0} (outlet : S → LaneId) (left : S → List Event) (a b c : List S) → SameOutlets outlet left a b → SameOutlets outlet left b c → SameOutlets outlet left a c
outlets_then outlet left a b c one two = record { lanes = two.lanes ∙ one.lanes; known = two.known ∙ one.known }
