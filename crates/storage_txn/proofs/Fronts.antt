-- What stands in front of pairs in order, and what is left behind it.
use Rattle.std.proofs.Common.{◌≡◌, ℕ, ◌<◌, ◌≤◌, List, [], ◌∷◌, length, cond, true, false, Option, Some, None, refl, sym, ap, ◌∙◌, subst, arith}
use Rattle.std.specs.Prelude.{Bool}
use Rattle.std.specs.Str.{bytes_eq}
use Rattle.std.specs.List.{AllByRecursion}
use Rattle.std.specs.List.Sorted.{IsStrictlySortedBy}
use Rattle.std.specs.Ordering.{is_eq, is_lt, is_le}
use Rattle.std.specs.declared.cmp.Ordering.{Ordering}
use Rattle.std.specs.declared.cmp.Ordering.TheVariants.{Less, Equal, Greater}
use Rattle.std.specs.FinMap.{find}
use Rattle.std.proofs.lemmas.Slice.Eq.{bytes_eq-Decides}
use Rattle.storage_map.specs.Contents.{by_bytes}
use Rattle.storage_txn.specs.Ahead.{toward, is_ahead, IsToward, IsLeft, first_key, at_front, without}
use Rattle.storage_txn.proofs.Directions.{toward_total, toward_exact, toward_eq, same_key, find_toward, before_up_to, turned_less}

-- the one key, if it is given, is at or before the other, if that is given
abbrev pub IsUpTo : Bool → Option (List ℕ) → Option (List ℕ) → Type 0
IsUpTo b k None = Unit {0}
IsUpTo b None (Some x) = ⊥
IsUpTo b (Some k) (Some x) = is_le (toward b k x) ≡ true

-- the key is before the other, if that is given
abbrev pub IsBefore : Bool → List ℕ → Option (List ℕ) → Type 0
IsBefore b q None = Unit {0}
IsBefore b q (Some k) = toward b q k ≡ Less

module _ {V : Type 0} where
  -- a key before the first is before all
  all_before : (b : Bool) (q x : List ℕ) (ps : List (List ℕ × V)) → toward b q x ≡ Less → AllByRecursion (λ p. toward b x p.0 ≡ Less) ps → AllByRecursion (λ p. toward b q p.0 ≡ Less) ps
  all_before b q x [] less h = tt
  all_before b q x (p ∷ ps) less h = ((toward_total b).trans q x p.0 less h.0, all_before b q x ps less h.1)

  -- and is none of them
  find_before : (b : Bool) (q : List ℕ) (ps : List (List ℕ × V)) → AllByRecursion (λ p. toward b q p.0 ≡ Less) ps → find (toward b) q ps ≡ None
  find_before b q [] h = refl
  find_before b q (p ∷ ps) h = ap (λ (o : Ordering). cond (is_eq o) (Some p.1) (find (toward b) q ps)) h.0 ∙ find_before b q ps h.1

  before_front : (b : Bool) (q : List ℕ) (p : List ℕ × V) (ps : List (List ℕ × V)) → IsToward b (p ∷ ps) → toward b q p.0 ≡ Less → find by_bytes q (p ∷ ps) ≡ None
  unfolding IsStrictlySortedBy
  before_front b q p ps h less = sym (find_toward b q (p ∷ ps)) ∙ find_before b q (p ∷ ps) (less, all_before b q p.0 ps less h.0)

  -- a key before one that is at or before the first is none of them
  pub none_before : (b : Bool) (q : List ℕ) (k : Option (List ℕ)) (ps : List (List ℕ × V)) → IsToward b ps → IsUpTo b k (first_key ps) → IsBefore b q k → find by_bytes q ps ≡ None
  none_before b q k [] h up before = refl
  none_before b q None (p ∷ ps) h up before = absurd up
  none_before b q (Some k) (p ∷ ps) h up before = before_front b q p ps h (before_up_to b q k p.0 before up)

  -- a key that is at or before the first is found in front or not at all
  pub found_front : (b : Bool) (k : List ℕ) (ps : List (List ℕ × V)) → IsToward b ps → IsUpTo b (Some k) (first_key ps) → find by_bytes k ps ≡ at_front k ps
  found_front b k [] h up = refl
  found_front b k (p ∷ ps) h up =
      elim (toward b k p.0) as (λ o. toward b k p.0 ≡ o → is_le o ≡ true → find by_bytes k (p ∷ ps) ≡ at_front k (p ∷ ps)) [
        | Less ↦ λ e g. before_front b k p ps h e ∙ sym (ap (λ (t : Bool). cond t (Some p.1) None) (same_key b k p.0 ∙ ap is_eq e))
        | Equal ↦ λ e g. ap (λ (t : Bool). cond t (Some p.1) (find by_bytes k ps)) (sym (toward_eq b k p.0) ∙ ap is_eq e) ∙ sym (ap (λ (t : Bool). cond t (Some p.1) None) (same_key b k p.0 ∙ ap is_eq e))
        | Greater ↦ λ e g. absurd (cc g)
      ] refl up

  all_less : (b : Bool) (k : List ℕ) (ps : List (List ℕ × V)) → AllByRecursion (λ p. toward b k p.0 ≡ Less) ps → AllByRecursion (λ p. is_ahead b (Some k) p.0 ≡ true) ps
  all_less b k [] h = tt
  all_less b k (p ∷ ps) h = (ap is_lt h.0, all_less b k ps h.1)

  -- what is left behind it is in order and ahead of it
  pub left_front : (b : Bool) (k : List ℕ) (ps : List (List ℕ × V)) → IsToward b ps → IsUpTo b (Some k) (first_key ps) → IsLeft b (Some k) (without k ps)
  unfolding IsStrictlySortedBy
  left_front b k [] h up = record { sorted = tt; ahead = tt }
  left_front b k (p ∷ ps) h up =
      elim (toward b k p.0) as (λ o. toward b k p.0 ≡ o → is_le o ≡ true → IsLeft b (Some k) (without k (p ∷ ps))) [
        | Less ↦ λ e g. subst (λ (t : Bool). IsLeft b (Some k) (cond t ps (p ∷ ps))) (sym (same_key b k p.0 ∙ ap is_eq e)) (record { sorted = h; ahead = all_less b k (p ∷ ps) (e, all_before b k p.0 ps e h.0) })
        | Equal ↦ λ e g. subst (λ (t : Bool). IsLeft b (Some k) (cond t ps (p ∷ ps))) (sym (same_key b k p.0 ∙ ap is_eq e)) (record { sorted = h.1; ahead = all_less b k ps (subst (λ (x : List ℕ). AllByRecursion (λ r. toward b x r.0 ≡ Less) ps) (sym (toward_exact b k p.0 e)) h.0) })
        | Greater ↦ λ e g. absurd (cc g)
      ] refl up

  -- keys behind it are found alike
  pub find_left : (b : Bool) (k q : List ℕ) (ps : List (List ℕ × V)) → toward b k q ≡ Less → find by_bytes q (without k ps) ≡ find by_bytes q ps
  find_left b k q [] less = refl
  find_left b k q (p ∷ ps) less =
      elim (toward b k p.0) as (λ o. toward b k p.0 ≡ o → find by_bytes q (without k (p ∷ ps)) ≡ find by_bytes q (p ∷ ps)) [
        | Less ↦ λ e. ap (λ (t : Bool). find by_bytes q (cond t ps (p ∷ ps))) (same_key b k p.0 ∙ ap is_eq e)
        | Equal ↦ λ e. ap (λ (t : Bool). find by_bytes q (cond t ps (p ∷ ps))) (same_key b k p.0 ∙ ap is_eq e)
            ∙ sym (ap (λ (t : Bool). cond t (Some p.1) (find by_bytes q ps)) (sym (toward_eq b q p.0) ∙ ap is_eq (subst (λ (x : List ℕ). toward b q x ≡ Greater) (toward_exact b k p.0 e) (turned_less b k q less))))
        | Greater ↦ λ e. ap (λ (t : Bool). find by_bytes q (cond t ps (p ∷ ps))) (same_key b k p.0 ∙ ap is_eq e)
      ] refl

  -- and there are no more; one fewer where the first is the key's
  pub no_more : (k : List ℕ) (ps : List (List ℕ × V)) → length (without k ps) ≤ length ps
  no_more k [] = omega arith
  no_more k (p ∷ ps) = elim (bytes_eq k p.0) as (λ t. length (cond t ps (p ∷ ps)) ≤ length (p ∷ ps)) [ true ↦ omega arith | false ↦ omega arith ]

  pub one_fewer : (k : List ℕ) (ps : List (List ℕ × V)) → first_key ps ≡ Some k → length (without k ps) < length ps
  one_fewer k [] is = absurd (cc is)
  one_fewer k (p ∷ ps) is =
      let same : k ≡ p.0 = cc in
      subst (λ (t : Bool). length (cond t ps (p ∷ ps)) < length (p ∷ ps)) (sym ((bytes_eq-Decides k p.0).1 same)) (omega arith)
