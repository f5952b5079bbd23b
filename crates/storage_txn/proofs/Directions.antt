-- Keys and pairs in the direction of a listing.
use Rattle.std.proofs.Common.{◌≡◌, ℕ, ◌<◌, List, [], ◌∷◌, length, get_or, reverse, cond, true, false, Option, Some, None, refl, sym, ap, ◌∙◌, subst, arith, inl, inr}
use Rattle.std.specs.Prelude.{Bool, T, ◌&&◌, not}
use Rattle.std.specs.Str.{bytes_eq}
use Rattle.std.specs.List.{AllByRecursion, filter}
use Rattle.std.specs.List.Sorted.{IsStrictlySortedBy}
use Rattle.std.specs.Cmp.{IsTotalOrder, back_total}
use Rattle.std.specs.Ordering.{is_eq, is_lt, is_le, ordering_reverse}
use Rattle.std.specs.declared.cmp.Ordering.{Ordering}
use Rattle.std.specs.declared.cmp.Ordering.TheVariants.{Less, Equal, Greater}
use Rattle.std.specs.FinMap.{FinMap, entries, entries_sorted, from_entries, get, get-from_entries, find}
use Rattle.std.specs.FinMap.Entries.{below_all, is_sorted, is_sorted-where_key}
use Rattle.std.proofs.lemmas.Cmp.{nat_list_cmp_total}
use Rattle.std.proofs.lemmas.List.{reverse-reverse}
use Rattle.std.proofs.lemmas.Map.Lookups.{exact_bytes}
use Rattle.std.proofs.lemmas.Map.Text.{is_eq-slice_cmp}
use Rattle.do_value.specs.declared.value.Value.{Value}
use Rattle.storage_map.specs.Contents.{Values, by_bytes}
use Rattle.storage_map.specs.Orders.{IsOrderly}
use Rattle.storage_map.specs.Readings.{turned}
use Rattle.storage_map.proofs.Finite.{find_kept}
use Rattle.storage_map.proofs.Folds.{same_values}
use Rattle.storage_map.proofs.Orders.{sorted_reverse}
use Rattle.storage_txn.specs.Ahead.{toward, IsToward}
use Rattle.storage_txn.proofs.Agree.{find_reverse}
use Rattle.storage_txn.proofs.Views.{find_turned}

-- ---- the order

pub toward_total : (b : Bool) → IsTotalOrder (toward b)
toward_total true = back_total nat_list_cmp_total
toward_total false = nat_list_cmp_total

pub toward_exact : (b : Bool) (x y : List ℕ) → toward b x y ≡ Equal → x ≡ y
toward_exact true x y tie = sym (exact_bytes y x tie)
toward_exact false x y tie = exact_bytes x y tie

eq_reverse : (o : Ordering) → is_eq (ordering_reverse o) ≡ is_eq o
eq_reverse Less = refl
eq_reverse Equal = refl
eq_reverse Greater = refl

-- two keys tie in each direction
pub toward_eq : (b : Bool) (x y : List ℕ) → is_eq (toward b x y) ≡ is_eq (by_bytes x y)
toward_eq true x y = ap is_eq (nat_list_cmp_total.antisymm y x) ∙ eq_reverse (by_bytes x y)
toward_eq false x y = refl

-- and where their bytes are the same
pub same_key : (b : Bool) (x y : List ℕ) → bytes_eq x y ≡ is_eq (toward b x y)
same_key b x y = sym (is_eq-slice_cmp x y) ∙ sym (toward_eq b x y)

-- what is found of a key doesn't depend on the direction
pub find_toward : {V : Type 0} (b : Bool) (q : List ℕ) (ps : List (List ℕ × V)) → find (toward b) q ps ≡ find by_bytes q ps
find_toward b q [] = refl
find_toward {V = V} b q (p ∷ ps) =
    ap (λ (t : Bool). cond t (Some p.1) (find (toward b) q ps)) (toward_eq b q p.0)
    ∙ ap (λ (v : Option V). cond (is_eq (by_bytes q p.0)) (Some p.1) v) (find_toward b q ps)

-- before a key that is at or before another
pub before_up_to : (b : Bool) (q k x : List ℕ) → toward b q k ≡ Less → is_le (toward b k x) ≡ true → toward b q x ≡ Less
before_up_to b q k x less le =
    elim (toward b k x) as (λ o. toward b k x ≡ o → is_le o ≡ true → toward b q x ≡ Less) [
      | Less ↦ λ e h. (toward_total b).trans q k x less e
      | Equal ↦ λ e h. subst (λ (y : List ℕ). toward b q y ≡ Less) (toward_exact b k x e) less
      | Greater ↦ λ e h. absurd (cc (h))
    ] refl le

-- the other way round
pub turned_less : (b : Bool) (x y : List ℕ) → toward b x y ≡ Less → toward b y x ≡ Greater
turned_less b x y less = (toward_total b).antisymm y x ∙ ap ordering_reverse less

pub turned_greater : (b : Bool) (x y : List ℕ) → toward b x y ≡ Greater → toward b y x ≡ Less
turned_greater b x y more = (toward_total b).antisymm y x ∙ ap ordering_reverse more

-- ---- pairs in order, by the two words for it

both : (a b : Bool) → T (a && b) → T a × T b
both true b h = (tt, h)
both false b h = absurd h

both_are : (a b : Bool) → T a → T b → T (a && b)
both_are true b p q = q
both_are false b p q = absurd p

is_less : (o : Ordering) → T (is_lt o) → o ≡ Less
is_less Less h = refl
is_less Equal h = absurd h
is_less Greater h = absurd h

module _ {V : Type 0} (R : List ℕ → List ℕ → Ordering) where
  all_above : (k : List ℕ) (ps : List (List ℕ × V)) → AllByRecursion (λ p. R k p.0 ≡ Less) ps → T (below_all R k ps)
  all_above k [] h = tt
  all_above k (p ∷ ps) h = both_are (is_lt (R k p.0)) (below_all R k ps) (subst (λ (o : Ordering). T (is_lt o)) (sym h.0) tt) (all_above k ps h.1)

  pub sorted_test : (ps : List (List ℕ × V)) → IsStrictlySortedBy (λ p q. R p.0 q.0) ps → T (is_sorted R ps)
  unfolding IsStrictlySortedBy
  sorted_test [] h = tt
  sorted_test (p ∷ ps) h = both_are (below_all R p.0 ps) (is_sorted R ps) (all_above p.0 ps h.0) (sorted_test ps h.1)

  each_above : (k : List ℕ) (ps : List (List ℕ × V)) → T (below_all R k ps) → AllByRecursion (λ p. R k p.0 ≡ Less) ps
  each_above k [] h = tt
  each_above k (p ∷ ps) h = let parts = both (is_lt (R k p.0)) (below_all R k ps) h in (is_less (R k p.0) parts.0, each_above k ps parts.1)

  pub tested_sorted : (ps : List (List ℕ × V)) → T (is_sorted R ps) → IsStrictlySortedBy (λ p q. R p.0 q.0) ps
  unfolding IsStrictlySortedBy
  tested_sorted [] h = tt
  tested_sorted (p ∷ ps) h = let parts = both (below_all R p.0 ps) (is_sorted R ps) h in (each_above p.0 ps parts.0, tested_sorted ps parts.1)

-- ---- pairs of a map that pass a test, in a direction

turned_toward : {V : Type 0} (b : Bool) (ps : List (List ℕ × V)) → IsToward false ps → IsToward b (turned b ps)
turned_toward true ps h = sorted_reverse (λ p q. by_bytes p.0 q.0) ps h
turned_toward false ps h = h

pub kept_toward : {V : Type 0} (b : Bool) (test : List ℕ → Bool) (m : FinMap by_bytes V) → IsToward b (turned b (filter (λ p. test p.0) (entries m)))
kept_toward b test m =
    let kept = filter (λ p. test p.0) (entries m) in
    turned_toward b kept (tested_sorted by_bytes kept (is_sorted-where_key by_bytes test (entries m) (entries_sorted m)))

pub find_passed : {V : Type 0} (b : Bool) (q : List ℕ) (test : List ℕ → Bool) (m : FinMap by_bytes V) → find by_bytes q (turned b (filter (λ p. test p.0) (entries m))) ≡ cond (test q) (get m q) None
find_passed b q test m = find_turned b q test m ∙ find_kept test m q

-- ---- pairs that stand in either order

-- fewer than two are in each direction
pub short_toward : {V : Type 0} (b : Bool) (ps : List (List ℕ × V)) → length ps < 2 → IsToward b ps
unfolding IsStrictlySortedBy
short_toward b [] few = tt
short_toward b (p ∷ []) few = (tt, tt)
short_toward b (p ∷ q ∷ ps) few = absurd (omega (arith, few))

two_told : {V : Type 0} (ps : List (List ℕ × V)) (p q : List ℕ × V) (r : Bool) → IsOrderly (p ∷ q ∷ ps) → r ≡ is_lt (by_bytes p.0 q.0) → IsToward (not r) (p ∷ q ∷ ps)
unfolding IsStrictlySortedBy
two_told ps p q r (inl up) is = subst (λ (t : Bool). IsToward (not t) (p ∷ q ∷ ps)) (sym (is ∙ ap is_lt up.0.0)) up
two_told ps p q r (inr down) is = subst (λ (t : Bool). IsToward (not t) (p ∷ q ∷ ps)) (sym (is ∙ ap is_lt (turned_less true p.0 q.0 down.0.0))) down

-- of more, the first two tell
pub first_told : {V : Type 0} (ps : List (List ℕ × V)) (p q : List ℕ × V) (r : Bool) → IsOrderly ps → 1 < length ps → r ≡ is_lt (by_bytes (get_or ps 0 p).0 (get_or ps 1 q).0) → IsToward (not r) ps
first_told [] p q r h many is = absurd (omega (arith, many))
first_told (x ∷ []) p q r h many is = absurd (omega (arith, many))
first_told (x ∷ y ∷ ps) p q r h many is = two_told ps x y r h is

-- turned to the direction that is wanted
pub turned_sorted : {V : Type 0} (ascending b back : Bool) (ps : List (List ℕ × V)) → IsToward (not ascending) ps → back ≡ cond b ascending (not ascending) → IsToward b (turned back ps)
turned_sorted true true back ps h is = subst (λ (t : Bool). IsToward true (turned t ps)) (sym is) (sorted_reverse (λ p q. by_bytes p.0 q.0) ps h)
turned_sorted true false back ps h is = subst (λ (t : Bool). IsToward false (turned t ps)) (sym is) h
turned_sorted false true back ps h is = subst (λ (t : Bool). IsToward true (turned t ps)) (sym is) h
turned_sorted false false back ps h is = subst (λ (t : Bool). IsToward false (turned t ps)) (sym is) (sorted_reverse (λ p q. by_bytes q.0 p.0) ps h)

-- turned round they tell the same of each key
find_back : {V : Type 0} (ascending : Bool) (q : List ℕ) (ps : List (List ℕ × V)) → IsToward (not ascending) ps → find by_bytes q (reverse ps) ≡ find by_bytes q ps
find_back true q ps h = find_reverse q ps (sorted_test by_bytes ps h)
find_back {V = V} false q ps h =
    sym (find_reverse q (reverse ps) (sorted_test by_bytes (reverse ps) (sorted_reverse (λ p r. by_bytes r.0 p.0) ps h)))
    ∙ ap (λ (rs : List (List ℕ × V)). find by_bytes q rs) (reverse-reverse ps)

find_either : {V : Type 0} (ascending back : Bool) (q : List ℕ) (ps : List (List ℕ × V)) → IsToward (not ascending) ps → find by_bytes q (turned back ps) ≡ find by_bytes q ps
find_either ascending true q ps h = find_back ascending q ps h
find_either ascending false q ps h = refl

pub same_told : (ascending back : Bool) (ps : List (List ℕ × Value)) → IsToward (not ascending) ps → ◌≡◌ {A = Values} (from_entries (turned back ps)) (from_entries ps)
same_told ascending back ps h =
    same_values (from_entries (turned back ps)) (from_entries ps)
    (λ q. get-from_entries nat_list_cmp_total (turned back ps) q ∙ find_either ascending back q ps h ∙ sym (get-from_entries nat_list_cmp_total ps q))
