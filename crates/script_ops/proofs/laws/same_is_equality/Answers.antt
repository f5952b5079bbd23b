use Rattle.script_ops.proofs.Decided.{same_decides}
use Rattle.script_ops.proofs.laws.same_is_equality.Goals as goal

pub returns : goal.returns
returns c = λ t u. ((same_decides t u).0, (same_decides t u).1)
