use Rattle.script_ops.proofs.operators.unary.Goals as goal

pub returns : goal.returns
returns c = c.finish.ensures _ c.before_value.ensures
