use Rattle.script_ops.proofs.Decided.{same_is}
use Rattle.script_ops.proofs.compare.equals.Goals as goal

pub returns : goal.returns
returns c = same_is _ _ _ c.equal.ensures
