-- The depth and the size of JSON's parts within those of the whole.
use Rattle.std.proofs.Common.{ℕ, zero, suc, ◌+◌, ◌<◌, ◌≤◌, List, [], ◌∷◌, ◌++◌, length, get_or, string_bytes, arith}
use Rattle.serde_json.specs.View.{view, items_view, members_view}
use Rattle.serde_json.specs.declared.value.Value.{Value}
use Rattle.serde_json.proofs.Views.{Entry}
use Rattle.do_value.specs.Tree.{Tree, undefined, null, boolean, number, text, list, rec, size_of, depth_of}
use Rattle.do_wire.specs.Reading.{tree_in, trees_in_items, pairs_in_members}

one-le_size : (t : Tree) → 1 ≤ size_of t
one-le_size undefined = omega arith
one-le_size null = omega arith
one-le_size (boolean b) = omega arith
one-le_size (number z) = omega arith
one-le_size (text bytes) = omega arith
one-le_size (list ts) = omega arith
one-le_size (rec ps) = omega arith

-- An item is less deep than its list.
pub item_depth : (js : List Value) (i : ℕ) (x : Value) → i < length js → depth_of (tree_in (view (get_or js i x))) < depth_of (list (trees_in_items (items_view js)))
item_depth [] i x lt = absurd (omega arith)
item_depth (j ∷ js) zero x lt = omega arith
item_depth (j ∷ js) (suc i) x lt = omega (arith, item_depth js i x (omega arith))

-- And no larger.
pub item_size : (js : List Value) (i : ℕ) (x : Value) → i < length js → size_of (tree_in (view (get_or js i x))) ≤ size_of (list (trees_in_items (items_view js)))
item_size [] i x lt = absurd (omega arith)
item_size (j ∷ js) zero x lt = omega arith
item_size (j ∷ js) (suc i) x lt = omega (arith, item_size js i x (omega arith))

-- A member is less deep than its object.
pub member_depth : (done : List Entry) (e : Entry) (left : List Entry) → depth_of (tree_in (view e.1)) < depth_of (rec (pairs_in_members (members_view (done ++ e ∷ left))))
member_depth [] e left = omega arith
member_depth (d ∷ done) e left = omega (arith, member_depth done e left)

-- And no larger, with its key.
pub member_size : (done : List Entry) (e : Entry) (left : List Entry)
    → 9 + length (string_bytes e.0) + size_of (tree_in (view e.1)) ≤ size_of (rec (pairs_in_members (members_view (done ++ e ∷ left))))
member_size [] e left = omega arith
member_size (d ∷ done) e left = omega (arith, member_size done e left)

-- A key alone is smaller than its object.
pub key_size : (done : List Entry) (e : Entry) (left : List Entry) → 10 + length (string_bytes e.0) ≤ size_of (rec (pairs_in_members (members_view (done ++ e ∷ left))))
key_size done e left = omega (arith, member_size done e left, one-le_size (tree_in (view e.1)))
