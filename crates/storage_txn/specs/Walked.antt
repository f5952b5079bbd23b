-- What a walk over a transaction's operations and the pairs below has still to lend.
use Rattle.std.specs.Prelude.{◌≡◌, ℕ, ◌+◌, true, List, length, drop, Option, None, option_map, if◌then◌else◌}
use Rattle.std.specs.FinMap.{from_entries, find, get}
use Rattle.do_value.specs.declared.value.Value.{Value}
use Rattle.storage_map.specs.Contents.{by_bytes}
use Rattle.storage_map.specs.Readings.{keeps}
use Rattle.storage_map.specs.declared.op.Op.{Op}
use Rattle.storage_txn.specs.Ahead.{is_ahead, IsLeft, ahead, first_key, nearer, nearest_on, count_ahead}
use Rattle.storage_txn.specs.Placed.{ArePlaced}
use Rattle.storage_txn.specs.declared.walk.Walk.{Walk}

-- the last key that was passed
abbrev pub last_of : Walk → Option (List ℕ)
last_of walk = option_map (λ key. key.now) walk.last

-- the operations without a place
abbrev pub unplaced : Walk → List Op
unplaced walk = drop walk.places.now.count walk.ops.now

-- What is left of the places are those of the keys ahead that the options keep, and what is left of the pairs lies ahead.
pub record IsWalk (walk : Walk) : Type 0 where
  pub known : ArePlaced walk.places.now walk.ops.now
  pub placed : IsLeft walk.options.now.reverse (last_of walk) walk.placed
  pub below : IsLeft walk.options.now.reverse (last_of walk) walk.below
  pub each : (key : List ℕ) → is_ahead walk.options.now.reverse (last_of walk) key ≡ true
      → find by_bytes key walk.placed ≡ (if keeps walk.options.now key then get walk.places.now.at key else None)

-- the pairs to be lent
abbrev pub left_of : Walk → List (List ℕ × Value)
left_of walk = ahead walk.options.now (last_of walk) (from_entries walk.below) walk.ops.now

-- the nearest key ahead that a place, a pair below or an operation without a place has
abbrev pub nearest_of : Walk → Option (List ℕ)
nearest_of walk =
    let reverse = walk.options.now.reverse in
    nearer reverse (nearer reverse (first_key walk.placed) (first_key walk.below)) (nearest_on reverse (last_of walk) None (unplaced walk))

-- how many are left at most
abbrev pub most_left : Walk → ℕ
most_left walk = length walk.placed + length walk.below + count_ahead walk.options.now.reverse (last_of walk) (unplaced walk)
