-- The tree of an array or an object whose parts have all been walked.
use Rattle.std.proofs.Common.{◌≡◌, ℕ, ◌≤◌, List, [], ◌∷◌, ◌++◌, map, take, take_all, length, string_bytes, string_cmp, Less, append-nil, refl, sym, ap, ◌∙◌}
use Rattle.std.specs.List.{AllByRecursion}
use Rattle.std.specs.List.Sorted.{IsStrictlySortedBy}
use Rattle.std.specs.Map.{keys_of}
use Rattle.serde_json.specs.View.{view, items_view, members_view}
use Rattle.serde_json.specs.declared.value.Value.{Value}
use Rattle.serde_json.proofs.Views.{Entry}
use Rattle.do_value.specs.Tree.{Tree, list, rec, items, fields, trees_of, pairs_of, tree, pair}
use Rattle.do_value.specs.Keyed.{by_order, key_cmp, IsAscending, with_pair, gathered}
use Rattle.do_wire.specs.Reading.{tree_in, trees_in_items, pairs_in_members}

-- The pair of a member.
abbrev pub pair_in : Entry → List ℕ × Tree
pair_in e = (string_bytes e.0, tree_in (view e.1))

trees_of-map : (js : List Value) → trees_of (map (λ j. tree_in (view j)) js) ≡ trees_in_items (items_view js)
trees_of-map [] = refl
trees_of-map (j ∷ js) = ap (tree (tree_in (view j))) (trees_of-map js)

pairs_of-map : (es : List Entry) → pairs_of (map pair_in es) ≡ pairs_in_members (members_view es)
pairs_of-map [] = refl
pairs_of-map (e ∷ es) = ap (pair (string_bytes e.0) (tree_in (view e.1))) (pairs_of-map es)

-- The list of the items' trees is the tree of the array.
pub list_walked : (js seen : List Value) (i : ℕ) (ts : List Tree) → seen ≡ js → length seen ≤ i → ts ≡ map (λ j. tree_in (view j)) (take i seen)
    → items ts ≡ list (trees_in_items (items_view js))
list_walked js seen i ts same le walked = ap items (walked ∙ ap (map (λ j. tree_in (view j))) (take_all i seen le ∙ same)) ∙ ap list (trees_of-map js)

below_pairs : (d : Entry) (es : List Entry) → AllByRecursion (λ k. string_cmp d.0 k ≡ Less) (keys_of es) → AllByRecursion (λ q. key_cmp (pair_in d) q ≡ Less) (map pair_in es)
below_pairs d [] h = tt
below_pairs d (e ∷ es) h = (h.0, below_pairs d es h.1)

-- The pairs of an object's members ascend.
pairs_ascend : (es : List Entry) → IsStrictlySortedBy string_cmp (keys_of es) → IsAscending (map pair_in es)
unfolding IsStrictlySortedBy
pairs_ascend [] h = tt
pairs_ascend (e ∷ es) h = (below_pairs e es h.0, pairs_ascend es h.1)

-- A pair whose key is below the others goes first.
with_pair-first : (p : List ℕ × Tree) (ps : List (List ℕ × Tree)) → AllByRecursion (λ q. key_cmp p q ≡ Less) ps → with_pair p ps ≡ p ∷ ps
with_pair-first p [] h = refl
with_pair-first p (q ∷ ps) h = ap (λ o. by_order o (p ∷ q ∷ ps) (q ∷ ps) (q ∷ with_pair p ps)) h.0

-- Pairs that ascend are gathered already.
gathered-ascending : (ps : List (List ℕ × Tree)) → IsAscending ps → gathered ps ≡ ps
unfolding IsStrictlySortedBy
gathered-ascending [] h = refl
gathered-ascending (p ∷ ps) h = ap (with_pair p) (gathered-ascending ps h.1) ∙ with_pair-first p ps h.0

-- The record of the members' pairs is the tree of the object.
pub record_walked : (es done left : List Entry) (ps : List (List ℕ × Tree)) → es ≡ done ++ left → left ≡ [] → ps ≡ map pair_in done → IsStrictlySortedBy string_cmp (keys_of es)
    → fields (gathered ps) ≡ rec (pairs_in_members (members_view es))
record_walked es done left ps all none walked sorted =
    let whole : done ≡ es = sym (all ∙ ap (λ l. done ++ l) none ∙ append-nil done) in
    let same : ps ≡ map pair_in es = walked ∙ ap (map pair_in) whole in
    ap (λ qs. fields (gathered qs)) same ∙ ap fields (gathered-ascending (map pair_in es) (pairs_ascend es sorted)) ∙ ap rec (pairs_of-map es)
