use Rattle.std.proofs.Common.{◌≡◌, drop, map}
use Rattle.do_check.specs.First.{least}
use Rattle.do_check.specs.Parts.{classes_faults}
use Rattle.do_tree.specs.Seen.{class_of}
use Rattle.do_check.proofs.script.check_classes.Given as goal

abbrev pub invariant-loop-class : goal.invariant-loop-class
invariant-loop-class l = least l.found (classes_faults (map class_of (drop l.class-index l.classes))) ≡ least l.fn.found (classes_faults (map class_of l.classes))
