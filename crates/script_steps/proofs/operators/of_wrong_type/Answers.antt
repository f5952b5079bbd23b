use Rattle.std.proofs.Common.{Err}
use Rattle.script_ops.specs.Errors.{wrong_type}
use Rattle.script_steps.proofs.operators.of_wrong_type.Goals as goal

pub returns : goal.returns
returns c = c.ended.ensures (Err wrong_type) c.wrong_type.ensures
