-- Where a part can be put: the fields of records and the items of lists.
use Rattle.std.proofs.Common.{◌≡◌, ℕ, ◌+◌, ◌≤◌, ◌⊎◌, ℤ, pos, negsuc, List, Option, Some, None, Ok, refl, sym, ap, subst, ◌∙◌, inl, inr, arith, slice_get}
use Rattle.do_value.specs.Keyed.{value_at}
use Rattle.do_value.specs.Tree.{Tree, undefined, null, boolean, number, text, list, rec, Trees, no_trees, tree, Pairs, no_pairs, pair, items, fields, trees_of, pairs_of, depth_of, most_depth, most_pair_depth}
use Rattle.script_ops.specs.Lists.{items_of, fields_of}
use Rattle.script_mean.specs.Places.{Step, named, indexed, part, property, item, or_undefined, with_part, with_item, with_field}
use Rattle.script_mean.specs.Task.{Fields}
use Rattle.script_places.proofs.Fields.{depth_field, grown_field}
use Rattle.script_places.proofs.Grown.{IsGrown}
use Rattle.script_places.proofs.Items.{depth_item, grown_item}
use Rattle.script_places.proofs.ReadBack.{property_field}

-- The trees of the items, and the pairs of the fields, are those that they came from.
pub trees_back : (ts : Trees) → trees_of (items_of ts) ≡ ts
trees_back no_trees = refl
trees_back (tree t ts) = ap (λ us. tree t us) (trees_back ts)

pub pairs_back : (ps : Pairs) → pairs_of (fields_of ps) ≡ ps
pairs_back no_pairs = refl
pairs_back (pair k t ps) = ap (λ qs. pair k t qs) (pairs_back ps)

-- The step leads to a field of a record, or to an item of a list.
abbrev IsField : Tree → Step → Tree → Tree → Type 0
IsField v s t whole =
    (name : List ℕ) × (ps : Fields) × (v ≡ fields ps) × (part v s ≡ Ok (or_undefined (value_at name ps))) × (whole ≡ fields (with_field name t ps))

abbrev IsItem : Tree → Step → Tree → Tree → Type 0
IsItem v s t whole = (z : ℤ) × (ts : List Tree) × (v ≡ items ts) × (part v s ≡ Ok (item ts z)) × (with_item ts z t ≡ Ok whole)

spots : (v : Tree) (s : Step) (t whole : Tree) → with_part v s t ≡ Ok whole → IsField v s t whole ⊎ IsItem v s t whole
spots undefined (named name) t whole e = absurd (cc)
spots undefined (indexed i) t whole e = absurd (cc)
spots null (named name) t whole e = absurd (cc)
spots null (indexed i) t whole e = absurd (cc)
spots (boolean b) (named name) t whole e = absurd (cc)
spots (boolean b) (indexed i) t whole e = absurd (cc)
spots (number n) (named name) t whole e = absurd (cc)
spots (number n) (indexed i) t whole e = absurd (cc)
spots (text bytes) (named name) t whole e = absurd (cc)
spots (text bytes) (indexed i) t whole e = absurd (cc)
spots (list ts) (named name) t whole e = absurd (cc)
spots (list ts) (indexed undefined) t whole e = absurd (cc)
spots (list ts) (indexed null) t whole e = absurd (cc)
spots (list ts) (indexed (boolean c)) t whole e = absurd (cc)
spots (list ts) (indexed (number z)) t whole e = inr (z, items_of ts, ap list (sym (trees_back ts)), refl, e)
spots (list ts) (indexed (text name)) t whole e = absurd (cc)
spots (list ts) (indexed (list us)) t whole e = absurd (cc)
spots (list ts) (indexed (rec qs)) t whole e = absurd (cc)
spots (rec ps) (named name) t whole e =
    inl (name, fields_of ps, ap rec (sym (pairs_back ps)), ap (λ v. property v name) (ap rec (sym (pairs_back ps))) ∙ property_field (fields_of ps) name _ refl, cc)
spots (rec ps) (indexed undefined) t whole e = absurd (cc)
spots (rec ps) (indexed null) t whole e = absurd (cc)
spots (rec ps) (indexed (boolean c)) t whole e = absurd (cc)
spots (rec ps) (indexed (number z)) t whole e = absurd (cc)
spots (rec ps) (indexed (text name)) t whole e = inl (name, fields_of ps, ap rec (sym (pairs_back ps)), refl, cc)
spots (rec ps) (indexed (list us)) t whole e = absurd (cc)
spots (rec ps) (indexed (rec qs)) t whole e = absurd (cc)

-- A number names an item that a list has only by its place.
item_at : (ts : List Tree) (z : ℤ) (t whole : Tree) → with_item ts z t ≡ Ok whole → (i : ℕ) × (z ≡ pos i)
item_at ts (pos i) t whole e = (i, refl)
item_at ts (negsuc i) t whole e = absurd (cc)

-- A value with another part is deeper than the part, no deeper than it and the value before, and no smaller than it.
pub grown_part : (v : Tree) (s : Step) (t whole : Tree) → with_part v s t ≡ Ok whole → IsGrown t v whole
grown_part v s t whole e = elim (spots v s t whole e) [
  | inl (name, ps, is, read, made) ↦
      subst (λ u. IsGrown t u whole) (sym is) (subst (λ w. IsGrown t (fields ps) w) (sym made) (grown_field name t ps))
  | inr (z, ts, is, read, made) ↦
      let at = item_at ts z t whole made in
      let there : with_item ts (pos at.0) t ≡ Ok whole = ap (λ n. with_item ts n t) (sym at.1) ∙ made in
      subst (λ u. IsGrown t u whole) (sym is) (grown_item ts at.0 t whole there)
]

-- What was there in its place is less deep than the value.
pub depth_or_undefined : (o : Option Tree) (most : ℕ) → ((t : Tree) → o ≡ Some t → depth_of t ≤ most) → depth_of (or_undefined o) ≤ most
depth_or_undefined (Some t) most h = h t refl
depth_or_undefined None most h = omega arith

depth_at : (ts : List Tree) (z : ℤ) → depth_of (item ts z) ≤ most_depth ts
depth_at ts (pos i) = depth_or_undefined (slice_get ts i) (most_depth ts) (λ t e. depth_item ts i t e)
depth_at ts (negsuc i) = omega arith

pub part_shallow : (v : Tree) (s : Step) (t whole p : Tree) → with_part v s t ≡ Ok whole → part v s ≡ Ok p → 1 + depth_of p ≤ depth_of v
part_shallow v s t whole p e q = elim (spots v s t whole e) [
  | inl (name, ps, is, read, made) ↦
      let same : or_undefined (value_at name ps) ≡ p = cc in
      omega (arith, ap depth_of is, ap depth_of same, depth_or_undefined (value_at name ps) (most_pair_depth ps) (λ old at. depth_field name old ps at))
  | inr (z, ts, is, read, made) ↦
      let same : item ts z ≡ p = cc in
      omega (arith, ap depth_of is, ap depth_of same, depth_at ts z)
]
