use Rattle.std.proofs.Common.{arith}
use Rattle.std.proofs.lemmas.List.{take_rest}
use Rattle.do_lex.specs.Lexemes.IsInside.{none}
use Rattle.do_lex.proofs.InsideRuns.{IsInside-more, IsLongest-inside}
use Rattle.do_lex.proofs.inside.inside_len.Goals as goal

pub loop-n-init : goal.loop-n-init
loop-n-init c = record { in_range = omega arith; inside = none }

pub loop-n-preserved : goal.loop-n-preserved
loop-n-preserved c =
    let unit = simp take_rest at c.in-Some.ensures.found in
    let more = IsInside-more _ _ _ _ _ c.loop-n.invariant.in_range c.loop-n.invariant.inside unit in
    record { in_range = more.0; inside = more.1 }

pub returns : goal.returns
returns c = IsLongest-inside _ _ _ _ c.loop-n.invariant.in_range c.loop-n.invariant.inside (simp take_rest at c.in_default.ensures.none)
