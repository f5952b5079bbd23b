-- A walk passes the nearest key: what it had to lend is this key's pair, if it has one, and what it has to lend then.
use Rattle.std.specs.Borrow.{Bor}
use Rattle.std.proofs.Common.{◌≡◌, ℕ, ◌+◌, ◌<◌, List, [], ◌∷◌, ◌++◌, length, take, drop, cond, true, false, Option, Some, None, refl, sym, ap, ◌∙◌, subst, arith, inl, inr}
use Rattle.std.specs.Prelude.{Bool, ◌&&◌}
use Rattle.std.specs.List.{AllByRecursion, filter}
use Rattle.std.specs.List.Sorted.{IsStrictlySortedBy}
use Rattle.std.specs.Ordering.{is_eq, is_lt}
use Rattle.std.specs.declared.cmp.Ordering.{Ordering}
use Rattle.std.specs.declared.cmp.Ordering.TheVariants.{Less, Equal, Greater}
use Rattle.std.specs.FinMap.{entries, from_entries, get, get-from_entries, find}
use Rattle.std.specs.FinMap.Entries.{same_entries}
use Rattle.std.proofs.lemmas.Cmp.{nat_list_cmp_total, tied_itself}
use Rattle.do_value.specs.declared.value.Value.{Value}
use Rattle.storage_map.specs.Contents.{Values, by_bytes}
use Rattle.storage_map.specs.Readings.{keeps, turned}
use Rattle.storage_map.specs.Stored.{value_after}
use Rattle.storage_map.specs.declared.op.Op.{Op}
use Rattle.storage_map.specs.declared.op.Op.TheVariants.{Put, Delete, DeleteAll, SetAlarm, ClearAlarm}
use Rattle.storage_map.specs.declared.options.Options.{Options}
use Rattle.storage_map.proofs.Ending.{all_pass}
use Rattle.storage_map.proofs.Orders.{all_reverse}
use Rattle.storage_txn.specs.Ahead.{toward, is_ahead, pair_at, IsToward, IsLeft, first_key, first_value, at_front, without, nearer, key_in, nearest_on, count_ahead}
use Rattle.storage_txn.specs.Overlay.{values_after}
use Rattle.storage_txn.specs.Placed.{IsOn, op_at, IsLastOn, IsPlaced, ArePlaced}
use Rattle.storage_txn.specs.Walked.{IsWalk, last_of, unplaced, left_of, nearest_of, most_left}
use Rattle.storage_txn.specs.declared.places.Places.{Places}
use Rattle.storage_txn.specs.declared.walk.Walk.{Walk}
use Rattle.storage_txn.proofs.Directions.{toward_total, toward_exact, find_toward, turned_less, turned_greater, sorted_test, kept_toward, find_passed}
use Rattle.storage_txn.proofs.Fronts.{IsUpTo, IsBefore, none_before, found_front, left_front, find_left, no_more, one_fewer}
use Rattle.storage_txn.proofs.Nearest.{ahead_more, up_to_both, one_of, up_to_itself, LiesAhead, nearer_ahead, on_ahead, none_on, no_more_ahead, fewer_on}
use Rattle.storage_txn.proofs.Placing.{get_after, all_after}

-- ---- lists

both_true : (a b : Bool) → (a && b) ≡ true → (a ≡ true) × (b ≡ true)
both_true true b h = (refl, h)
both_true false b h = absurd (cc h)

each_turned : {V : Type 0} (P : List ℕ × V → Type 0) (b : Bool) (ps : List (List ℕ × V)) → AllByRecursion P ps → AllByRecursion P (turned b ps)
each_turned P true ps h = all_reverse P ps h
each_turned P false ps h = h

is_less : (o : Ordering) → is_lt o ≡ true → o ≡ Less
is_less Less h = refl
is_less Equal h = absurd (cc h)
is_less Greater h = absurd (cc h)

passed_less : (b : Bool) (k : List ℕ) (test : List ℕ → Bool) (ps : List (List ℕ × Value)) → AllByRecursion (λ p. (is_ahead b (Some k) p.0 && test p.0) ≡ true) ps → AllByRecursion (λ p. toward b k p.0 ≡ Less) ps
passed_less b k test [] h = tt
passed_less b k test (p ∷ ps) h = (is_less (toward b k p.0) (both_true (is_lt (toward b k p.0)) (test p.0) h.0).0, passed_less b k test ps h.1)

-- ---- what is ahead

abbrev ahead_in : Options → Option (List ℕ) → Values → List (List ℕ × Value)
ahead_in o last m = turned o.reverse (filter (λ p. is_ahead o.reverse last p.0 && keeps o p.0) (entries m))

ahead_sorted : (o : Options) (last : Option (List ℕ)) (m : Values) → IsToward o.reverse (ahead_in o last m)
ahead_sorted o last m = kept_toward o.reverse (λ q. is_ahead o.reverse last q && keeps o q) m

find_ahead : (o : Options) (last : Option (List ℕ)) (m : Values) (q : List ℕ) → find (toward o.reverse) q (ahead_in o last m) ≡ cond (is_ahead o.reverse last q && keeps o q) (get m q) None
find_ahead o last m q = find_toward o.reverse q (ahead_in o last m) ∙ find_passed o.reverse q (λ k. is_ahead o.reverse last k && keeps o k) m

-- all ahead of a key are behind it
ahead_above : (o : Options) (k : List ℕ) (m : Values) → AllByRecursion (λ p. toward o.reverse k p.0 ≡ Less) (ahead_in o (Some k) m)
ahead_above o k m =
    let test = λ (p : List ℕ × Value). is_ahead o.reverse (Some k) p.0 && keeps o p.0 in
    each_turned (λ p. toward o.reverse k p.0 ≡ Less) o.reverse (filter test (entries m))
    (passed_less o.reverse k (keeps o) (filter test (entries m)) (all_pass test (entries m)))

pair_sorted : (o : Options) (k : List ℕ) (v : Option Value) (m : Values) → IsToward o.reverse (pair_at k v ++ ahead_in o (Some k) m)
unfolding IsStrictlySortedBy
pair_sorted o k None m = ahead_sorted o (Some k) m
pair_sorted o k (Some value) m = (ahead_above o k m, ahead_sorted o (Some k) m)

-- behind a pair of a key, other keys are found as they are
find_other : (R : List ℕ → List ℕ → Ordering) (k q : List ℕ) (v : Option Value) (ps : List (List ℕ × Value)) → is_eq (R q k) ≡ false → find R q (pair_at k v ++ ps) ≡ find R q ps
find_other R k q None ps not = refl
find_other R k q (Some value) ps not = ap (λ (t : Bool). cond t (Some value) (find R q ps)) not

-- and the key itself, which isn't among the others, has its value
find_same : (R : List ℕ → List ℕ → Ordering) (k : List ℕ) (v : Option Value) (ps : List (List ℕ × Value)) → is_eq (R k k) ≡ true → find R k ps ≡ None → find R k (pair_at k v ++ ps) ≡ v
find_same R k None ps same none = none
find_same R k (Some value) ps same none = ap (λ (t : Bool). cond t (Some value) (find R k ps)) same

-- ---- the nearest key

-- What is ahead of the last key, of one map, is the pair of the nearest key and what is ahead of that, of another map: where no
-- key before the nearest has a value that the options keep, and both maps agree behind it.
pub nearest_first : (o : Options) (last : Option (List ℕ)) (k : List ℕ) (v : Option Value) (m n : Values) → is_ahead o.reverse last k ≡ true → ((q : List ℕ) → is_ahead o.reverse last q ≡ true → keeps o q ≡ true → toward o.reverse q k ≡ Less → get m q ≡ None) → v ≡ cond (keeps o k) (get m k) None → ((q : List ℕ) → toward o.reverse k q ≡ Less → get m q ≡ get n q) → ahead_in o last m ≡ pair_at k v ++ ahead_in o (Some k) n
nearest_first o last k v m n here none value same =
    let R = toward o.reverse in
    let rest = ahead_in o (Some k) n in
    same_entries R (toward_total o.reverse) (toward_exact o.reverse) (ahead_in o last m) (pair_at k v ++ rest)
    (sorted_test R (ahead_in o last m) (ahead_sorted o last m))
    (sorted_test R (pair_at k v ++ rest) (pair_sorted o k v n))
    (λ q. find_ahead o last m q ∙ elim (R q k) as (λ r. R q k ≡ r → cond (is_ahead o.reverse last q && keeps o q) (get m q) None ≡ find R q (pair_at k v ++ rest)) [
      | Less ↦ λ e.
          elim (is_ahead o.reverse last q && keeps o q) as (λ t. (is_ahead o.reverse last q && keeps o q) ≡ t → cond t (get m q) None ≡ None) [
            | true ↦ λ t. let parts = both_true (is_ahead o.reverse last q) (keeps o q) t in none q parts.0 parts.1 e
            | false ↦ λ t. refl
          ] refl
          ∙ sym (find_other R k q v rest (ap is_eq e)
          ∙ find_ahead o (Some k) n q
          ∙ ap (λ (r : Ordering). cond (is_lt r && keeps o q) (get n q) None) (turned_less o.reverse q k e))
      | Equal ↦ λ e. subst (λ (x : List ℕ). cond (is_ahead o.reverse last x && keeps o x) (get m x) None ≡ find R x (pair_at k v ++ rest)) (sym (toward_exact o.reverse q k e))
          (ap (λ (t : Bool). cond (t && keeps o k) (get m k) None) here
          ∙ sym value
          ∙ sym (find_same R k v rest (ap is_eq (tied_itself (toward_total o.reverse) k))
          (find_ahead o (Some k) n k ∙ ap (λ (r : Ordering). cond (is_lt r && keeps o k) (get n k) None) (tied_itself (toward_total o.reverse) k))))
      | Greater ↦ λ e.
          let less = turned_greater o.reverse q k e in
          ap (λ (t : Bool). cond (t && keeps o q) (get m q) None) (ahead_more o.reverse last k q here less)
          ∙ ap (λ (w : Option Value). cond (keeps o q) w None) (same q less)
          ∙ sym (find_other R k q v rest (ap is_eq e)
          ∙ find_ahead o (Some k) n q
          ∙ ap (λ (r : Ordering). cond (is_lt r && keeps o q) (get n q) None) less)
    ] refl)

-- nothing is ahead where no key has a value that the options keep
pub none_ahead : (o : Options) (last : Option (List ℕ)) (m : Values) → ((q : List ℕ) → is_ahead o.reverse last q ≡ true → keeps o q ≡ true → get m q ≡ None) → ahead_in o last m ≡ []
none_ahead o last m none =
    let R = toward o.reverse in
    same_entries R (toward_total o.reverse) (toward_exact o.reverse) (ahead_in o last m) []
    (sorted_test R (ahead_in o last m) (ahead_sorted o last m)) tt
    (λ q. find_ahead o last m q ∙ elim (is_ahead o.reverse last q && keeps o q) as (λ t. (is_ahead o.reverse last q && keeps o q) ≡ t → cond t (get m q) None ≡ None) [
      | true ↦ λ t. let parts = both_true (is_ahead o.reverse last q) (keeps o q) t in none q parts.0 parts.1
      | false ↦ λ t. refl
    ] refl)

-- ---- a walk

-- what the operations make of a key of the pairs below
value_now : (pairs : List (List ℕ × Value)) (ops : List Op) (q : List ℕ) → get (values_after (from_entries pairs) ops) q ≡ value_after q (find by_bytes q pairs) ops
value_now pairs ops q = get_after (from_entries pairs) ops q ∙ ap (λ (v : Option Value). value_after q v ops) (get-from_entries nat_list_cmp_total pairs q)

-- what is known of a walk at a key at or before what is in front of all that is left
abbrev IsUpToAll : Walk → Option (List ℕ) → Type 0
IsUpToAll w k =
    IsUpTo w.options.now.reverse k (first_key w.placed) × IsUpTo w.options.now.reverse k (first_key w.below)
    × IsUpTo w.options.now.reverse k (nearest_on w.options.now.reverse (last_of w) None (unplaced w))

nearest_up : (w : Walk) → IsUpToAll w (nearest_of w)
nearest_up w =
    let b = w.options.now.reverse in
    let k = nearest_of w in
    let three = up_to_both b k (nearer b (first_key w.placed) (first_key w.below)) (nearest_on b (last_of w) None (unplaced w)) (up_to_itself b k) in
    let two = up_to_both b k (first_key w.placed) (first_key w.below) three.0 in
    (two.0, two.1, three.1)

-- a key that the options keep, without a place, is one that no placed operation is on
no_place : (ops : List Op) (count : ℕ) (q : List ℕ) (found : Option ℕ) → IsPlaced ops count q found → found ≡ None → value_after q None (take count ops) ≡ None
no_place ops count q None is none = is None
no_place ops count q (Some place) is none = absurd (cc none)

kept_place : (t : Bool) (found : Option ℕ) → t ≡ true → cond t found None ≡ None → found ≡ None
kept_place true found pass h = h
kept_place false found pass h = absurd (cc pass)

-- before it no key ahead that the options keep has a value
none_nearer : (w : Walk) (k : Option (List ℕ)) (q : List ℕ) → IsWalk w → IsUpToAll w k → is_ahead w.options.now.reverse (last_of w) q ≡ true → keeps w.options.now q ≡ true → IsBefore w.options.now.reverse q k → get (values_after (from_entries w.below) w.ops.now) q ≡ None
none_nearer w k q is up lies pass before =
    let b = w.options.now.reverse in
    let ops = w.ops.now in
    let places = w.places.now in
    value_now w.below ops q
    ∙ ap (λ (v : Option Value). value_after q v ops) (none_before b q k w.below is.below.sorted up.1 before)
    ∙ sym (all_after ops places.count q None)
    ∙ ap (λ (v : Option Value). value_after q v (drop places.count ops))
    (no_place ops places.count q (get places.at q) (is.known.each q)
    (kept_place (keeps w.options.now q) (get places.at q) pass (sym (is.each q lies) ∙ none_before b q k w.placed is.placed.sorted up.0 before)))
    ∙ none_on b q (last_of w) k None (unplaced w) lies before up.2

-- at the end nothing is left
pub left_none : (w : Walk) → IsWalk w → nearest_of w ≡ None → left_of w ≡ []
left_none w is none =
    none_ahead w.options.now (last_of w) (values_after (from_entries w.below) w.ops.now)
    (λ q lies pass. none_nearer w None q is (subst (IsUpToAll w) none (nearest_up w)) lies pass tt)

-- the nearest key is ahead
first_ahead : {V : Type 0} (b : Bool) (last : Option (List ℕ)) (ps : List (List ℕ × V)) → AllByRecursion (λ p. is_ahead b last p.0 ≡ true) ps → LiesAhead b last (first_key ps)
first_ahead b last [] h = tt
first_ahead b last (p ∷ ps) h = h.0

pub nearest_ahead : (w : Walk) (k : List ℕ) → IsWalk w → nearest_of w ≡ Some k → is_ahead w.options.now.reverse (last_of w) k ≡ true
nearest_ahead w k is near =
    let b = w.options.now.reverse in
    let last = last_of w in
    subst (LiesAhead b last) near
    (nearer_ahead b last (nearer b (first_key w.placed) (first_key w.below)) (nearest_on b last None (unplaced w))
    (nearer_ahead b last (first_key w.placed) (first_key w.below) (first_ahead b last w.placed is.placed.ahead) (first_ahead b last w.below is.below.ahead))
    (on_ahead b last None (unplaced w) tt))

-- the walk behind the key
abbrev pub behind : Walk → Bor (List ℕ) → Walk
behind w key = record {
  ops = w.ops;
  places = w.places;
  options = w.options;
  placed = without key.now w.placed;
  below = without key.now w.below;
  last = Some key;
}

pub walk_behind : (w : Walk) (key : Bor (List ℕ)) → IsWalk w → nearest_of w ≡ Some key.now → IsWalk (behind w key)
walk_behind w key is near =
    let b = w.options.now.reverse in
    let k = key.now in
    let up = subst (IsUpToAll w) near (nearest_up w) in
    let here = nearest_ahead w k is near in
    record {
      known = is.known;
      placed = left_front b k w.placed is.placed.sorted up.0;
      below = left_front b k w.below is.below.sorted up.1;
      each = λ q lies. let less = is_less (toward b k q) lies in find_left b k q w.placed less ∙ is.each q (ahead_more b (last_of w) k q here less);
    }

pub left_behind : (w : Walk) (key : Bor (List ℕ)) (v : Option Value) → IsWalk w → nearest_of w ≡ Some key.now → v ≡ cond (keeps w.options.now key.now) (value_after key.now (at_front key.now w.below) w.ops.now) None → left_of w ≡ pair_at key.now v ++ left_of (behind w key)
left_behind w key v is near value =
    let b = w.options.now.reverse in
    let k = key.now in
    let ops = w.ops.now in
    let up = subst (IsUpToAll w) near (nearest_up w) in
    nearest_first w.options.now (last_of w) k v (values_after (from_entries w.below) ops) (values_after (from_entries (without k w.below)) ops)
    (nearest_ahead w k is near)
    (λ q lies pass less. none_nearer w (Some k) q is up lies pass less)
    (value ∙ ap (λ (x : Option Value). cond (keeps w.options.now k) x None)
    (sym (value_now w.below ops k ∙ ap (λ (x : Option Value). value_after k x ops) (found_front b k w.below is.below.sorted up.1))))
    (λ q less. value_now w.below ops q ∙ ap (λ (x : Option Value). value_after q x ops) (sym (find_left b k q w.below less)) ∙ sym (value_now (without k w.below) ops q))

-- one is fewer where one of three is
fewer_left : (b : Bool) (last : Option (List ℕ)) (k : List ℕ) (placed : List (List ℕ × ℕ)) (below : List (List ℕ × Value)) (ops : List Op) → is_ahead b last k ≡ true → nearer b (nearer b (first_key placed) (first_key below)) (nearest_on b last None ops) ≡ Some k → length (without k placed) + length (without k below) + count_ahead b (Some k) ops < length placed + length below + count_ahead b last ops
fewer_left b last k placed below ops lies near =
    elim (one_of b (nearer b (first_key placed) (first_key below)) (nearest_on b last None ops) (Some k) near) as (λ _. length (without k placed) + length (without k below) + count_ahead b (Some k) ops < length placed + length below + count_ahead b last ops) [
      | inl e ↦ elim (one_of b (first_key placed) (first_key below) (Some k) e) as (λ _. length (without k placed) + length (without k below) + count_ahead b (Some k) ops < length placed + length below + count_ahead b last ops) [
        | inl f ↦ omega (arith, one_fewer k placed f, no_more k below, no_more_ahead b last k ops lies)
        | inr f ↦ omega (arith, no_more k placed, one_fewer k below f, no_more_ahead b last k ops lies)
      ]
      | inr e ↦ elim (fewer_on b last None k ops lies e) as (λ _. length (without k placed) + length (without k below) + count_ahead b (Some k) ops < length placed + length below + count_ahead b last ops) [
        | inl f ↦ absurd (cc f)
        | inr f ↦ omega (arith, no_more k placed, no_more k below, f)
      ]
    ]

pub fewer_behind : (w : Walk) (key : Bor (List ℕ)) → IsWalk w → nearest_of w ≡ Some key.now → most_left (behind w key) < most_left w
fewer_behind w key is near = fewer_left w.options.now.reverse (last_of w) key.now w.placed w.below (unplaced w) (nearest_ahead w key.now is near) near

-- a key that the options keep has its place in front, if it has one
pub place_front : (w : Walk) (k : List ℕ) → IsWalk w → nearest_of w ≡ Some k → keeps w.options.now k ≡ true → at_front k w.placed ≡ get w.places.now.at k
place_front w k is near pass =
    let up = subst (IsUpToAll w) near (nearest_up w) in
    sym (found_front w.options.now.reverse k w.placed is.placed.sorted up.0)
    ∙ is.each k (nearest_ahead w k is near)
    ∙ ap (λ (t : Bool). cond t (get w.places.now.at k) None) pass

-- ---- the place in front

kept_there : (t : Bool) (found : Option ℕ) (place : ℕ) → cond t found None ≡ Some place → found ≡ Some place
kept_there true found place h = h
kept_there false found place h = absurd (cc h)

find_first : (p : List ℕ × ℕ) (ps : List (List ℕ × ℕ)) → find by_bytes p.0 (p ∷ ps) ≡ Some p.1
find_first p ps = ap (λ (o : Ordering). cond (is_eq o) (Some p.1) (find by_bytes p.0 ps)) (tied_itself nat_list_cmp_total p.0)

key_on : (k : List ℕ) (op : Op) → IsOn k op → key_in op ≡ Some k
key_on k (Put name value) on = ap Some on
key_on k (Delete name) on = ap Some on
key_on k DeleteAll on = absurd on
key_on k (SetAlarm time retry) on = absurd on
key_on k ClearAlarm on = absurd on

first_placed : (b : Bool) (last : Option (List ℕ)) (places : Places) (ops : List Op) (o : Options) (ps : List (List ℕ × ℕ)) (place : ℕ) → ArePlaced places ops → IsLeft b last ps → ((q : List ℕ) → is_ahead b last q ≡ true → find by_bytes q ps ≡ cond (keeps o q) (get places.at q) None) → first_value ps ≡ Some place → (place < length ops) × (key_in (op_at ops place) ≡ first_key ps)
first_placed b last places ops o [] place known left each first = absurd (cc first)
first_placed b last places ops o (p ∷ ps) place known left each first =
    let same : p.1 ≡ place = cc in
    let there : get places.at p.0 ≡ Some place = kept_there (keeps o p.0) (get places.at p.0) place (sym (each p.0 left.ahead.0) ∙ find_first p ps ∙ ap Some same) in
    let last_on : IsLastOn ops places.count p.0 place = subst (IsPlaced ops places.count p.0) there (known.each p.0) in
    (omega (arith, last_on.within, known.within), key_on p.0 (op_at ops place) last_on.on)

pub place_within : (w : Walk) (place : ℕ) → IsWalk w → first_value w.placed ≡ Some place → place < length w.ops.now
place_within w place is first = (first_placed w.options.now.reverse (last_of w) w.places.now w.ops.now w.options.now w.placed place is.known is.placed is.each first).0

pub place_key : (w : Walk) (place : ℕ) → IsWalk w → first_value w.placed ≡ Some place → key_in (op_at w.ops.now place) ≡ first_key w.placed
place_key w place is first = (first_placed w.options.now.reverse (last_of w) w.places.now w.ops.now w.options.now w.placed place is.known is.placed is.each first).1

-- ---- before the first key

all_ahead : {V : Type 0} (b : Bool) (ps : List (List ℕ × V)) → AllByRecursion (λ p. is_ahead b None p.0 ≡ true) ps
all_ahead b [] = tt
all_ahead b (p ∷ ps) = (refl, all_ahead b ps)

pub walk_start : (w : Walk) → ArePlaced w.places.now w.ops.now → w.placed ≡ turned w.options.now.reverse (filter (λ p. keeps w.options.now p.0) (entries w.places.now.at)) → IsToward w.options.now.reverse w.below → last_of w ≡ None → IsWalk w
walk_start w known places sorted none =
    let b = w.options.now.reverse in
    record {
      known = known;
      placed = record {
        sorted = subst (IsToward b) (sym places) (kept_toward b (keeps w.options.now) w.places.now.at);
        ahead = subst (λ (last : Option (List ℕ)). AllByRecursion (λ p. is_ahead b last p.0 ≡ true) w.placed) (sym none) (all_ahead b w.placed);
      };
      below = record {
        sorted = sorted;
        ahead = subst (λ (last : Option (List ℕ)). AllByRecursion (λ p. is_ahead b last p.0 ≡ true) w.below) (sym none) (all_ahead b w.below);
      };
      each = λ q lies. ap (find by_bytes q) places ∙ find_passed b q (keeps w.options.now) w.places.now.at;
    }
