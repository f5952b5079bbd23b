use Rattle.std.proofs.Common.{◌≡◌, length, ap, arith}
use Rattle.script_state.proofs.Asking.{commit_asked}
use Rattle.script_state.proofs.Batches.{batch_count}
use Rattle.script_state.proofs.state.State.write.Goals as goal

pub overflow_cast-tail : goal.overflow_cast-tail
overflow_cast-tail c =
    let same : length c.as_slice.result.now ≡ length c.args.batch = ap length c.as_slice.ensures.ops in
    omega (arith, same, batch_count c.args.batch c.as_slice.ensures.batch.fits)

pub returns-clause-same : goal.returns-clause-same
returns-clause-same c =
    commit_asked c.args.batch (length c.as_slice.result.now) c.args.value c.args.self.now c.cut.new.self c.close.new.self
    (ap length c.as_slice.ensures.ops) c.as_slice.ensures.batch.some c.if-self-ge-MOST_STORAGE_AWAITS.false c.in_ok-cut.ensures c.in_ok-close.ensures
