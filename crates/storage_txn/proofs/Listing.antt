-- A merged listing: what its steps give, and that all of them are what the transaction sees.
use Rattle.std.specs.Borrow.{Bor}
use Rattle.std.proofs.Common.{◌≡◌, ◌≢◌, ℕ, ◌-◌, ◌<◌, List, [], ◌∷◌, ◌++◌, length, take, drop, get_or, cond, true, false, Option, Some, None, refl, sym, ap, ◌∙◌, subst}
use Rattle.std.specs.Prelude.{Bool}
use Rattle.std.specs.FinMap.{entries, entries_sorted, from_entries}
use Rattle.std.proofs.lemmas.List.{get_or_read_under}
use Rattle.do_value.specs.declared.value.Value.{Value}
use Rattle.storage_map.specs.Contents.{Values, by_bytes}
use Rattle.storage_map.specs.Orders.{IsOrderly}
use Rattle.storage_map.specs.Readings.{keeps, limited, listed}
use Rattle.storage_map.specs.Stored.{value_after}
use Rattle.storage_map.specs.declared.op.Op.{Op}
use Rattle.storage_map.specs.declared.op.Op.TheVariants.{DeleteAll}
use Rattle.storage_map.specs.declared.ask.StoreAsk.TheVariants.{List as Listed}
use Rattle.storage_map.specs.declared.answer.Reading.TheVariants.{Pairs}
use Rattle.storage_map.specs.declared.options.Options.{Options}
use Rattle.storage_map.proofs.Orders.{listed_order}
use Rattle.storage_txn.specs.Ahead.{ahead, pair_at, first_key, first_value, at_front, without, nearer, key_in, nearest_on}
use Rattle.storage_txn.specs.Overlay.{view, told_by, values_after}
use Rattle.storage_txn.specs.Placed.{op_at, ArePlaced, AreKnown}
use Rattle.storage_txn.specs.Touched.{through}
use Rattle.storage_txn.specs.Walked.{IsWalk, last_of, left_of, nearest_of, most_left}
use Rattle.storage_txn.specs.Writes.{ops_of}
use Rattle.storage_txn.specs.declared.places.Latest.{Latest}
use Rattle.storage_txn.specs.declared.places.Places.{Places}
use Rattle.storage_txn.specs.declared.walk.Walk.{Walk}
use Rattle.storage_txn.proofs.Directions.{tested_sorted}
use Rattle.storage_txn.proofs.Passing.{behind, walk_behind, left_behind, fewer_behind}
use Rattle.storage_txn.proofs.Placing.{rest_of}
use Rattle.storage_txn.proofs.Views.{apply-values}

-- ---- all of it

-- before the first key what is ahead, within the limit, is what the transaction sees
pub merged_view : (o : Options) (pairs : List (List ℕ × Value)) (ops : List Op) (left : List (List ℕ × Value)) → left ≡ ahead o None (from_entries pairs) ops → Pairs (limited o.limit left) ≡ view ops (Listed o) (Pairs pairs)
merged_view o pairs ops left all =
    ap (λ (ps : List (List ℕ × Value)). Pairs (limited o.limit ps)) all
    ∙ ap (λ (m : Values). Pairs (listed o (entries m))) (sym (apply-values (told_by (Listed o) (Pairs pairs)) ops))

-- and in order
pub merged_order : (o : Options) (pairs : List (List ℕ × Value)) (ops : List Op) (left : List (List ℕ × Value)) → left ≡ ahead o None (from_entries pairs) ops → IsOrderly (limited o.limit left)
merged_order o pairs ops left all =
    let m : Values = values_after (from_entries pairs) ops in
    subst (λ (ps : List (List ℕ × Value)). IsOrderly (limited o.limit ps)) (sym all) (listed_order o (entries m) (tested_sorted by_bytes (entries m) (entries_sorted m)))

-- the places are those of the operations that are shown
pub open_placed : (writes : Option (List Op)) (places : Places) (shown : List Op) → AreKnown writes places → writes ≢ None → shown ≡ ops_of writes → ArePlaced places shown
open_placed None places shown known some is = absurd (some refl)
open_placed (Some ops) places shown known some is = subst (ArePlaced places) (sym is) (known.placed ops refl)

-- ---- the nearest key

-- a place in front has a key
pub none_first : (ps : List (List ℕ × ℕ)) → first_value ps ≡ None → first_key ps ≡ None
none_first [] none = refl
none_first (p ∷ ps) none = absurd (cc none)

-- an operation that is read
pub key_read : (ops : List Op) (place : ℕ) (op : Op) (found : Option (List ℕ)) → place < length ops → op ≡ get_or ops place op → found ≡ key_in op → found ≡ key_in (op_at ops place)
key_read ops place op found within at key = key ∙ ap key_in (get_or_read_under ops place (length ops) op DeleteAll at within refl)

pub nearest_found : (w : Walk) (result held placed below other : Option (List ℕ)) → result ≡ nearer w.options.now.reverse held other → held ≡ nearer w.options.now.reverse placed below → placed ≡ first_key w.placed → below ≡ first_key w.below → other ≡ nearest_on w.options.now.reverse (last_of w) None (take (length w.ops.now - w.places.now.count) (drop w.places.now.count w.ops.now)) → result ≡ nearest_of w
nearest_found w result held placed below other is two one next rest =
    let b = w.options.now.reverse in
    is
    ∙ ap (λ (h : Option (List ℕ)). nearer b h other) (two ∙ ap (λ (k : Option (List ℕ)). nearer b k below) one ∙ ap (nearer b (first_key w.placed)) next)
    ∙ ap (nearer b (nearer b (first_key w.placed) (first_key w.below))) (rest ∙ ap (nearest_on b (last_of w) None) (rest_of w.ops.now w.places.now.count))

-- ---- passing it

-- the walk with what is left of both, and this key as the last
abbrev pub moved : Walk → Bor (List ℕ) → List (List ℕ × ℕ) → List (List ℕ × Value) → Walk
moved w key placed below = record {
  ops = w.ops;
  places = w.places;
  options = w.options;
  placed = placed;
  below = below;
  last = Some key;
}

moved_is : (w : Walk) (key : Bor (List ℕ)) (placed : List (List ℕ × ℕ)) (below : List (List ℕ × Value)) → placed ≡ without key.now w.placed → below ≡ without key.now w.below → moved w key placed below ≡ behind w key
moved_is w key placed below one other =
    ap (λ (ps : List (List ℕ × ℕ)). moved w key ps below) one
    ∙ ap (moved w key (without key.now w.placed)) other

pub moved_walk : (w : Walk) (key : Bor (List ℕ)) (placed : List (List ℕ × ℕ)) (below : List (List ℕ × Value)) → IsWalk w → nearest_of w ≡ Some key.now → placed ≡ without key.now w.placed → below ≡ without key.now w.below → IsWalk (moved w key placed below)
moved_walk w key placed below is near one other = subst IsWalk (sym (moved_is w key placed below one other)) (walk_behind w key is near)

pub moved_fewer : (w : Walk) (key : Bor (List ℕ)) (placed : List (List ℕ × ℕ)) (below : List (List ℕ × Value)) → IsWalk w → nearest_of w ≡ Some key.now → placed ≡ without key.now w.placed → below ≡ without key.now w.below → most_left (moved w key placed below) < most_left w
moved_fewer w key placed below is near one other = subst (λ (s : Walk). most_left s < most_left w) (sym (moved_is w key placed below one other)) (fewer_behind w key is near)

pub moved_left : (w : Walk) (key : Bor (List ℕ)) (v : Option Value) (placed : List (List ℕ × ℕ)) (below : List (List ℕ × Value)) → IsWalk w → nearest_of w ≡ Some key.now → placed ≡ without key.now w.placed → below ≡ without key.now w.below → v ≡ cond (keeps w.options.now key.now) (value_after key.now (at_front key.now w.below) w.ops.now) None → left_of w ≡ pair_at key.now v ++ left_of (moved w key placed below)
moved_left w key v placed below is near one other value =
    left_behind w key v is near value
    ∙ ap (λ (s : Walk). pair_at key.now v ++ left_of s) (sym (moved_is w key placed below one other))

-- the value of a key that is kept
pub kept_value : (t : Bool) (latest : Latest) (old front v : Option Value) (k : List ℕ) (ops : List Op) → t ≡ true → v ≡ through latest old → ((was : Option Value) → value_after k was ops ≡ through latest was) → old ≡ front → v ≡ cond t (value_after k front ops) None
kept_value true latest old front v k ops pass is all same = is ∙ sym (all old) ∙ ap (λ (x : Option Value). value_after k x ops) same
kept_value false latest old front v k ops pass is all same = absurd (cc pass)

-- a key that isn't kept has none
pub unkept_value : (t : Bool) (v : Option Value) → t ≡ false → None ≡ cond t v None
unkept_value true v not = absurd (cc not)
unkept_value false v not = refl
