use Rattle.std.proofs.Common.{◌≡◌, drop}
use Rattle.do_tree.specs.Asking.{has_key}
use Rattle.do_tree.specs.Nodes.{pairs_in}
use Rattle.do_check.proofs.step.has_key.Given as goal

abbrev pub invariant-loop-pair : goal.invariant-loop-pair
invariant-loop-pair l = has_key (pairs_in (drop l.pair-index l.pairs)) l.key ≡ has_key (pairs_in l.pairs) l.key
