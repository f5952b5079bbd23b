use Rattle.std.proofs.Common.{◌≡◌, drop}
use Rattle.std.specs.List.{position_from}
use Rattle.do_value.specs.Seen.{tree_of, trees_in}
use Rattle.script_ops.specs.Same.{same}
use Rattle.script_ops.proofs.lists.place_of.Given as goal

abbrev pub invariant-loop-i : goal.invariant-loop-i
invariant-loop-i l = position_from (same (tree_of l.part)) l.i (trees_in (drop l.i l.values)) ≡ position_from (same (tree_of l.part)) 0 (trees_in l.values)
