use Rattle.std.proofs.Common.{◌≡◌, ◌++◌, drop, map, take}
use Rattle.do_check.specs.First.{least}
use Rattle.do_check.specs.Parts.{doubles, has_text}
use Rattle.do_check.specs.Told.{Tells}
use Rattle.do_tree.specs.Names.{declared_in}
use Rattle.do_tree.specs.Seen.{items_in, named_of}
use Rattle.do_check.proofs.doubled.check_declared.Given as goal

abbrev pub invariant-loop-i : goal.invariant-loop-i
invariant-loop-i l = record {
  found : least l.found (doubles (map named_of l.front.names.now ++ declared_in (items_in (take l.i l.items))) (declared_in (items_in (drop l.i l.items))))
      ≡ least l.fn.found (doubles (map named_of l.front.names.now) (declared_in (items_in l.items)));
  told : Tells l.texts has_text (declared_in (items_in (take l.i l.items)));
}
