use Rattle.std.proofs.Common.{◌≡◌, [], drop, map, take}
use Rattle.do_check.specs.First.{least}
use Rattle.do_check.specs.Parts.{doubles, has_text}
use Rattle.do_check.specs.Told.{Tells}
use Rattle.do_tree.specs.Names.{name_of_method}
use Rattle.do_tree.specs.Seen.{method_of}
use Rattle.do_check.proofs.doubled.check_method_names.Given as goal

abbrev pub invariant-loop-i : goal.invariant-loop-i
invariant-loop-i l = record {
  found : least l.found (doubles (map name_of_method (map method_of (take l.i l.methods))) (map name_of_method (map method_of (drop l.i l.methods)))) ≡ least l.fn.found (doubles [] (map name_of_method (map method_of (l.methods))));
  told : Tells l.texts has_text (map name_of_method (map method_of (take l.i l.methods)));
}
