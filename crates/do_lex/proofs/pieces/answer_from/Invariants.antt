use Rattle.std.proofs.Common.{◌-◌, ◌≤◌, length, drop}
use Rattle.do_lex.specs.Next.{Answer, Gives}
use Rattle.do_lex.proofs.pieces.answer_from.Given as goal

abbrev pub invariant-loop-n : goal.invariant-loop-n
invariant-loop-n l = record { within : l.at ≤ length l.text; skipped : (answer : Answer) → Gives (drop l.at l.text) l.at answer → Gives (drop l.fn.from l.text) l.fn.from answer }

abbrev pub decreases-loop-n : goal.decreases-loop-n
decreases-loop-n l = length l.text - l.at
