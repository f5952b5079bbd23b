use Rattle.std.proofs.Common.{arith, ◌≤◌, []}
use Rattle.std.proofs.lemmas.List.Elements.{All-head}
use Rattle.output_gate.specs.Counted.{IsBehindEnd}
use Rattle.output_gate.specs.Examples.{misses}
use Rattle.output_gate.proofs.laws.mountings_fail_behind_ends.Goals as goal

pub returns-clause-unended : goal.returns-clause-unended
returns-clause-unended g c object start opening front disk told =
    let late : 2 ≤ 1 = (All-head (IsBehindEnd 0) (misses 2) [] told.missed).within in
    omega (arith, late)

pub returns-clause-ended : goal.returns-clause-ended
returns-clause-ended g c object start opening front disk told =
    let early : 2 ≤ 1 = (All-head (IsBehindEnd 1) (misses 1) [] told.missed).second in
    omega (arith, early)
