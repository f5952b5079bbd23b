use Rattle.std.proofs.Common.{◌≡◌, ◌-◌, ◌≤◌, ◌++◌, length, drop}
use Rattle.do_lex.specs.Lexemes.{text_value}
use Rattle.do_parse.proofs.text.unescaped.Given as goal

abbrev pub invariant-loop-at : goal.invariant-loop-at
invariant-loop-at l = record { within : l.at ≤ length l.inside; value : text_value l.inside ≡ l.bytes.items ++ text_value (drop l.at l.inside) }

abbrev pub decreases-loop-at : goal.decreases-loop-at
decreases-loop-at l = length l.inside - l.at
