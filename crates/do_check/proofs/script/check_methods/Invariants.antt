use Rattle.std.proofs.Common.{◌≡◌, drop, map}
use Rattle.do_check.specs.First.{least}
use Rattle.do_check.specs.Parts.{methods_faults}
use Rattle.do_tree.specs.Seen.{class_of, method_of}
use Rattle.do_check.proofs.script.check_methods.Given as goal

abbrev pub invariant-loop-method : goal.invariant-loop-method
invariant-loop-method l =
    least l.found (methods_faults (class_of l.all.class.now) (map method_of (drop l.method-index l.methods))) ≡ least l.fn.found (methods_faults (class_of l.all.class.now) (map method_of l.methods))
