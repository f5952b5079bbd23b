-- The values of an array, one by one.
use Rattle.std.proofs.Common.{◌≡◌, ◌<◌, ◌≤◌, ◌+◌, ℕ, suc, List, [], ◌∷◌, ◌++◌, length, drop, get_or, Option, Some, None, option_map, refl, sym, ap, ◌∙◌, append_assoc, add-one, drop-cons}
use Rattle.std.proofs.Math.ListN.{drop_of_length-le}
use Rattle.std.proofs.lemmas.List.{append-nil, map-append}
use Rattle.serde_json.specs.Data.{Data, Items, item}
use Rattle.serde_json.specs.View.{view, items_view}
use Rattle.serde_json.specs.declared.value.Value.{Value as Json}
use Rattle.do_value.specs.Seen.{tree_of, trees_in}
use Rattle.do_value.specs.Tree.{Tree}
use Rattle.do_value.specs.declared.value.Value.{Value}
use Rattle.line_server.specs.Asked.{value_in, values_of}

added : (done : List Tree) (t : Tree) (o : Option (List Tree)) → option_map (λ rest. done ++ rest) (option_map (λ ts. t ∷ ts) o) ≡ option_map (λ rest. (done ++ t ∷ []) ++ rest) o
added done t None = refl
added done t (Some ts) = ap Some (sym (append_assoc done (t ∷ []) ts))

-- one value more
values_on : (all : Option (List Tree)) (done : List Tree) (d : Data) (ds : Items) (t : Tree) → all ≡ option_map (λ rest. done ++ rest) (values_of (item d ds)) → Some t ≡ value_in d
    → all ≡ option_map (λ rest. (done ++ t ∷ []) ++ rest) (values_of ds)
values_on all done d ds t so_far is = (rw (sym is) at so_far) ∙ added done t (values_of ds)

-- the values so far, and those of the items from place i on
abbrev pub AreDone : List Json → ℕ → List Value → Type 0
AreDone items i done = values_of (items_view items) ≡ option_map (λ rest. trees_in done ++ rest) (values_of (items_view (drop i items)))

-- before the first value
pub done_none : (items : List Json) (done : List Value) → done ≡ [] → AreDone items 0 done
done_none items done none = rw none (elim (values_of (items_view items)) as (λ o. o ≡ option_map (λ rest. [] ++ rest) o) [ None ↦ refl | Some ts ↦ refl ])

at_item : (items : List Json) (i : ℕ) (x : Json) (done : List Value) → i < length items → x ≡ get_or items i x → AreDone items i done
    → values_of (items_view items) ≡ option_map (λ rest. trees_in done ++ rest) (values_of (item (view x) (items_view (drop (i + 1) items))))
at_item items i x done below is so_far =
    let here : drop i items ≡ x ∷ drop (i + 1) items = rw add-one (drop-cons items i x below ∙ ap (λ y. y ∷ drop (suc i) items) (sym is)) in
    so_far ∙ ap (λ ys. option_map (λ rest. trees_in done ++ rest) (values_of (items_view ys))) here

pub done_on : (items : List Json) (i : ℕ) (x : Json) (done more : List Value) (o : Option Value) (value : Value) → i < length items → x ≡ get_or items i x → AreDone items i done
    → option_map tree_of o ≡ value_in (view x) → o ≡ Some value → more ≡ done ++ value ∷ [] → AreDone items (i + 1) more
done_on items i x done more o value below is so_far read some adds =
    let tree : Some (tree_of value) ≡ value_in (view x) = rw some at read in
    let trees : trees_in more ≡ trees_in done ++ tree_of value ∷ [] = ap trees_in adds ∙ map-append tree_of done (value ∷ []) in
    rw trees (values_on _ (trees_in done) (view x) (items_view (drop (i + 1) items)) (tree_of value) (at_item items i x done below is so_far) tree)

-- an item that is no value
pub done_fail : (items : List Json) (i : ℕ) (x : Json) (done : List Value) (o : Option Value) → i < length items → x ≡ get_or items i x → AreDone items i done
    → option_map tree_of o ≡ value_in (view x) → o ≡ None → None ≡ values_of (items_view items)
done_fail items i x done o below is so_far read none =
    let no_tree : None ≡ value_in (view x) = rw none at read in
    sym (rw (sym no_tree) at (at_item items i x done below is so_far))

-- after the last value
pub done_all : (items : List Json) (i : ℕ) (done : List Value) → length items ≤ i → AreDone items i done → Some (trees_in done) ≡ values_of (items_view items)
done_all items i done past so_far =
    let none : drop i items ≡ [] = drop_of_length-le items past in
    sym (so_far ∙ ap (λ ys. option_map (λ rest. trees_in done ++ rest) (values_of (items_view ys))) none ∙ ap Some (append-nil (trees_in done)))
