use Rattle.std.proofs.Common.{◌≡◌, drop, map}
use Rattle.do_tree.specs.Print.{tokens_of_classes}
use Rattle.do_tree.specs.Seen.{class_of}
use Rattle.do_tree.specs.Written.{write_all, written_of}
use Rattle.do_tree.proofs.print.print_classes.Given as goal

abbrev pub invariant-loop-class : goal.invariant-loop-class
invariant-loop-class l =
    write_all (written_of l.out) (tokens_of_classes (map class_of (drop l.class-index l.classes))) ≡ write_all (written_of l.fn.out) (tokens_of_classes (map class_of l.classes))
