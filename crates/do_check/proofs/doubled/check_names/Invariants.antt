use Rattle.std.proofs.Common.{◌≡◌, [], drop, map, take}
use Rattle.do_check.specs.First.{least}
use Rattle.do_check.specs.Parts.{doubles, has_text}
use Rattle.do_check.specs.Told.{Tells}
use Rattle.do_tree.specs.Seen.{named_of}
use Rattle.do_check.proofs.doubled.check_names.Given as goal

abbrev pub invariant-loop-i : goal.invariant-loop-i
invariant-loop-i l = record {
  found : least l.found (doubles (map named_of (take l.i l.names)) (map named_of (drop l.i l.names))) ≡ least l.fn.found (doubles [] (map named_of (l.names)));
  told : Tells l.texts has_text (map named_of (take l.i l.names));
}
