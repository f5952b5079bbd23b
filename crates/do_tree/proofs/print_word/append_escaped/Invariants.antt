use Rattle.std.proofs.Common.{◌≡◌, ◌++◌, drop}
use Rattle.do_tree.specs.Print.{text_of_bytes}
use Rattle.do_tree.proofs.print_word.append_escaped.Given as goal

abbrev pub invariant-loop-byte : goal.invariant-loop-byte
invariant-loop-byte l =
    l.out.items ++ text_of_bytes l.quote (drop l.byte-index l.text) ≡ l.fn.out.items ++ text_of_bytes l.quote l.text
