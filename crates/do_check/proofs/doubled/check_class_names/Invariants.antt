use Rattle.std.proofs.Common.{◌≡◌, [], drop, map, take}
use Rattle.do_check.specs.First.{least}
use Rattle.do_check.specs.Parts.{doubles, has_text}
use Rattle.do_check.specs.Told.{Tells}
use Rattle.do_tree.specs.Names.{name_of_class}
use Rattle.do_tree.specs.Seen.{class_of}
use Rattle.do_check.proofs.doubled.check_class_names.Given as goal

abbrev pub invariant-loop-i : goal.invariant-loop-i
invariant-loop-i l = record {
  found : least l.found (doubles (map name_of_class (map class_of (take l.i l.classes))) (map name_of_class (map class_of (drop l.i l.classes)))) ≡ least l.fn.found (doubles [] (map name_of_class (map class_of (l.classes))));
  told : Tells l.texts has_text (map name_of_class (map class_of (take l.i l.classes)));
}
