use Rattle.std.proofs.Common.{◌≡◌, drop, map}
use Rattle.do_tree.specs.Print.{tokens_of_more_names}
use Rattle.do_tree.specs.Seen.{named_of}
use Rattle.do_tree.specs.Written.{write_all, written_of}
use Rattle.do_tree.proofs.print.print_more_names.Given as goal

abbrev pub invariant-loop-name : goal.invariant-loop-name
invariant-loop-name l =
    write_all (written_of l.out) (tokens_of_more_names (map named_of (drop l.name-index l.names))) ≡ write_all (written_of l.fn.out) (tokens_of_more_names (map named_of l.names))
