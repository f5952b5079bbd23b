-- `same` decides whether two trees are equal.
use Rattle.std.proofs.Common.{◌≡◌, Bool, true, false, ◌&&◌, ◌↔◌, IsTrue, refl, ap, subst, ◌∙◌}
use Rattle.std.specs.Str.{bytes_eq}
use Rattle.std.specs.Bool.{Decides}
use Rattle.std.proofs.lemmas.Bool.{and_parts, and_from}
use Rattle.std.proofs.lemmas.Bool.Decides.{Decides-int_eq, same_from_decides}
use Rattle.std.proofs.lemmas.Slice.Eq.{bytes_eq-Decides}
use Rattle.do_value.specs.Tree.{Tree, undefined, null, boolean, number, text, list, rec, Trees, no_trees, tree, Pairs, no_pairs, pair}
use Rattle.do_value.specs.Seen.{tree_of}
use Rattle.do_value.specs.declared.value.Value.{Value}
use Rattle.do_value.proofs.Same.{tree_of-inj}
use Rattle.script_ops.specs.Same.{same, same_items, same_pairs}

-- what is the same is equal
mutual
  same_true : (t u : Tree) → same t u ≡ true → t ≡ u
  same_true undefined undefined h = refl
  same_true null null h = refl
  same_true (boolean true) (boolean true) h = refl
  same_true (boolean false) (boolean false) h = refl
  same_true (number a) (number b) h = ap number ((Decides-int_eq a b).0 h)
  same_true (text a) (text b) h = ap text ((bytes_eq-Decides a b).0 h)
  same_true (list ts) (list us) h = ap list (items_true ts us h)
  same_true (rec ps) (rec qs) h = ap rec (pairs_true ps qs h)
  same_true _ _ h = absurd (cc)

  items_true : (ts us : Trees) → same_items ts us ≡ true → ts ≡ us
  items_true no_trees no_trees h = refl
  items_true (tree t ts) (tree u us) h =
      let both = and_parts (same t u) (same_items ts us) h in
      ap (λ x. tree x ts) (same_true t u both.0) ∙ ap (tree u) (items_true ts us both.1)
  items_true _ _ h = absurd (cc)

  pairs_true : (ps qs : Pairs) → same_pairs ps qs ≡ true → ps ≡ qs
  pairs_true no_pairs no_pairs h = refl
  pairs_true (pair k t ps) (pair l u qs) h =
      let both = and_parts (bytes_eq k l && same t u) (same_pairs ps qs) h in
      let head = and_parts (bytes_eq k l) (same t u) both.0 in
      ap (λ x. pair x t ps) ((bytes_eq-Decides k l).0 head.0) ∙ ap (λ x. pair l x ps) (same_true t u head.1) ∙ ap (pair l u) (pairs_true ps qs both.1)
  pairs_true _ _ h = absurd (cc)

-- a tree is the same as itself
mutual
  same_itself : (t : Tree) → same t t ≡ true
  same_itself undefined = refl
  same_itself null = refl
  same_itself (boolean true) = refl
  same_itself (boolean false) = refl
  same_itself (number a) = (Decides-int_eq a a).1 refl
  same_itself (text a) = (bytes_eq-Decides a a).1 refl
  same_itself (list ts) = items_themselves ts
  same_itself (rec ps) = pairs_themselves ps

  items_themselves : (ts : Trees) → same_items ts ts ≡ true
  items_themselves no_trees = refl
  items_themselves (tree t ts) = and_from (same t t) (same_items ts ts) (same_itself t) (items_themselves ts)

  pairs_themselves : (ps : Pairs) → same_pairs ps ps ≡ true
  pairs_themselves no_pairs = refl
  pairs_themselves (pair k t ps) =
      and_from (bytes_eq k k && same t t) (same_pairs ps ps) (and_from (bytes_eq k k) (same t t) ((bytes_eq-Decides k k).1 refl) (same_itself t)) (pairs_themselves ps)

pub same_decides : (t u : Tree) → Decides (same t u) (t ≡ u)
same_decides t u = (same_true t u, λ e. subst (λ x. same t x ≡ true) e (same_itself t))

-- a test that tells whether two values are equal is `same`
pub same_is : (b : Bool) (v w : Value) → IsTrue b ↔ (v ≡ w) → b ≡ same (tree_of v) (tree_of w)
same_is b v w h = same_from_decides b (same (tree_of v) (tree_of w)) (λ e. ap tree_of (h.0 e), λ e. h.1 (tree_of-inj v w e)) (same_decides (tree_of v) (tree_of w))
