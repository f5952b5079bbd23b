use Rattle.std.proofs.Common.{map, take}
use Rattle.do_check.specs.Told.{Tells}
use Rattle.do_tree.specs.Lookup.{is_named}
use Rattle.do_tree.specs.Seen.{method_of}
use Rattle.do_check.proofs.methods.names_of.Given as goal

abbrev pub invariant-loop-method : goal.invariant-loop-method
invariant-loop-method l = Tells l.names is_named (map method_of (take l.method-index l.methods))
