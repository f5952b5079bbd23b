-- JSON that is read prints as it was.
use Rattle.std.proofs.Common.{◌≡◌, ℕ, suc, ◌+◌, ◌<◌, List, ◌∷◌, length, get_or, drop, string_bytes, add-one, sym, ap, ◌∙◌, subst}
use Rattle.std.proofs.Math.Seq.{drop-cons}
use Rattle.serde_json.specs.Data as json
use Rattle.serde_json.specs.View.{view, items_view, members_view}
use Rattle.serde_json.specs.declared.value.Value.{Value}
use Rattle.serde_json.proofs.Views.{Entry}
use Rattle.do_value.specs.Tree.{undefined}
use Rattle.do_wire.specs.Json.{json_of, items_of, members_of}
use Rattle.do_wire.specs.Reading.{tree_in, trees_in_items, pairs_in_members}
use Rattle.do_wire.proofs.Printed.{members_of-kept}

-- items, and members, print as they were
pub record AreSameItems (js : List Value) : Type 0 where
  pub items : items_of (trees_in_items (items_view js)) ≡ items_view js

pub record AreSameMembers (es : List Entry) : Type 0 where
  pub members : members_of (pairs_in_members (members_view es)) ≡ members_view es

-- nothing is read as undefined
tree_in-defined : (d : json.Data) → tree_in d ≡ undefined → ⊥
tree_in-defined json.null e = cc
tree_in-defined (json.boolean b) e = cc
tree_in-defined (json.number n) e = cc
tree_in-defined (json.string s) e = cc
tree_in-defined (json.array ds) e = cc
tree_in-defined (json.object ms) e = cc

-- one more item in front
pub same_items : (js : List Value) (i : ℕ) (x : Value) → i < length js → json_of (tree_in (view (get_or js i x))) ≡ view (get_or js i x) → AreSameItems (drop (i + 1) js) → AreSameItems (drop i js)
same_items js i x lt same rest =
    let j = get_or js i x in
    let left = drop (suc i) js in
    let those : items_of (trees_in_items (items_view left)) ≡ items_view left = subst (λ k. items_of (trees_in_items (items_view (drop k js))) ≡ items_view (drop k js)) (add-one i) rest.items in
    let all : items_of (trees_in_items (items_view (j ∷ left))) ≡ items_view (j ∷ left) =
    ap (λ d. json.item d (items_of (trees_in_items (items_view left)))) same ∙ ap (json.item (view j)) those in
    subst AreSameItems (sym (drop-cons js i x lt)) (record { items = all })

-- one more member in front
pub same_members : (e : Entry) (left : List Entry) → json_of (tree_in (view e.1)) ≡ view e.1 → AreSameMembers left → AreSameMembers (e ∷ left)
same_members e left same rest = record {
  members =
      members_of-kept (string_bytes e.0) (tree_in (view e.1)) (pairs_in_members (members_view left)) (tree_in-defined (view e.1))
      ∙ ap (λ d. json.member (string_bytes e.0) d (members_of (pairs_in_members (members_view left)))) same ∙ ap (json.member (string_bytes e.0) (view e.1)) rest.members;
}
