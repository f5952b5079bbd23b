use Rattle.std.proofs.Common.{◌≡◌, drop}
use Rattle.std.specs.List.{list_all}
use Rattle.do_lex.specs.Bytes.{is_word_byte}
use Rattle.do_tree.proofs.print_word.has_word_bytes.Given as goal

abbrev pub invariant-loop-byte : goal.invariant-loop-byte
invariant-loop-byte l = list_all is_word_byte (drop l.byte-index l.text) ≡ list_all is_word_byte l.text
