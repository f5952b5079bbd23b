use Rattle.std.proofs.Common.{◌≡◌, drop, map}
use Rattle.do_check.specs.First.{least}
use Rattle.do_check.specs.Parts.{all_bound_faults}
use Rattle.do_tree.specs.Seen.{named_of}
use Rattle.do_check.proofs.named.check_all_bound.Given as goal

abbrev pub invariant-loop-name : goal.invariant-loop-name
invariant-loop-name l = least l.found (all_bound_faults (map named_of (drop l.name-index l.names))) ≡ least l.fn.found (all_bound_faults (map named_of l.names))
