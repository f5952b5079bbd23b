-- When two values are the same.
use Rattle.std.specs.Prelude.{Bool, true, false, ◌&&◌, bytes_eq}
use mathlib.Core.Bool.{beq}
use Rattle.std.specs.Ordering.{int_eq}
use Rattle.do_value.specs.Tree.{Tree, undefined, null, boolean, number, text, list, rec, Trees, no_trees, tree, Pairs, no_pairs, pair}

-- JavaScript's `===`, which converts nothing. Lists and records are the same where their contents are (this project's
-- profile, since they are copied and have no identity).
abbrev mutual
  pub same : Tree → Tree → Bool
  same undefined undefined = true
  same null null = true
  same (boolean a) (boolean b) = beq a b
  same (number a) (number b) = int_eq a b
  same (text a) (text b) = bytes_eq a b
  same (list ts) (list us) = same_items ts us
  same (rec ps) (rec qs) = same_pairs ps qs
  same _ _ = false

  pub same_items : Trees → Trees → Bool
  same_items no_trees no_trees = true
  same_items (tree t ts) (tree u us) = same t u && same_items ts us
  same_items _ _ = false

  pub same_pairs : Pairs → Pairs → Bool
  same_pairs no_pairs no_pairs = true
  same_pairs (pair k t ps) (pair l u qs) = bytes_eq k l && same t u && same_pairs ps qs
  same_pairs _ _ = false
