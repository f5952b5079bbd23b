use Rattle.std.proofs.Common.{◌-◌, ◌≤◌, length, take}
use Rattle.do_lex.specs.Lexemes.{IsInside, escapes_of}
use Rattle.do_lex.proofs.inside.inside_len.Given as goal

abbrev pub invariant-loop-n : goal.invariant-loop-n
invariant-loop-n l = record { in_range : l.len ≤ length l.bytes; inside : IsInside l.quote (escapes_of l.escapes) (take l.len l.bytes) }

abbrev pub decreases-loop-n : goal.decreases-loop-n
decreases-loop-n l = length l.bytes - l.len
