use Rattle.std.proofs.Common.{arith}
use Rattle.front_turns.proofs.Alarms.{next_alarm}
use Rattle.front_turns.proofs.alarm.after_batches.Goals as goal

pub loop-made-preserved : goal.loop-made-preserved
loop-made-preserved c =
    let e = next_alarm c.loop-made.after c.args.batches.now c.loop-made.made-index c.made-item.result c.loop-made-test.true c.made-item.is in
    grind (arith, c.after_ops-after.ensures, c.as_slice.ensures.ops, e, c.loop-made.invariant)
