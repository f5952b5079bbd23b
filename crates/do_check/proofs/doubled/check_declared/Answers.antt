use Rattle.std.proofs.Common.{map, arith}
use Rattle.std.proofs.lemmas.Grind.{common_steps}
use Rattle.do_check.proofs.Append.{least_append}
use Rattle.do_check.proofs.Told.{declared_told}
use Rattle.do_check.proofs.Walked.{declared_at}
use Rattle.do_tree.specs.Seen.{named_of}
use Rattle.do_check.proofs.doubled.check_declared.Goals as goal

pub loop-i-preserved : goal.loop-i-preserved
loop-i-preserved c =
    let e = declared_at (map named_of c.args.front.now.names.now) c.args.items.now c.loop-i.i c.index-items-i.result c.loop-i-test.true c.index-items-i.is in
    let found = c.in_ok-found.ensures.found _ c.loop-i.invariant.told in
    record {
      found = grind (arith, common_steps, least_append);
      told = declared_told c.args.items.now c.loop-i.i c.index-items-i.result c.loop-i-test.true c.index-items-i.is _ _ c.in_ok-found.ensures.noted c.loop-i.invariant.told;
    }
