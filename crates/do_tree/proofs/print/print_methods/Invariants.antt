use Rattle.std.proofs.Common.{◌≡◌, drop, map}
use Rattle.do_tree.specs.Print.{tokens_of_methods}
use Rattle.do_tree.specs.Seen.{method_of}
use Rattle.do_tree.specs.Written.{write_all, written_of}
use Rattle.do_tree.proofs.print.print_methods.Given as goal

abbrev pub invariant-loop-method : goal.invariant-loop-method
invariant-loop-method l =
    write_all (written_of l.out) (tokens_of_methods (map method_of (drop l.method-index l.methods))) ≡ write_all (written_of l.fn.out) (tokens_of_methods (map method_of l.methods))
