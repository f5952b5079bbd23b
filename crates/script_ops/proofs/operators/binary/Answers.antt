use Rattle.script_ops.proofs.operators.binary.Goals as goal

pub returns : goal.returns
returns c = c.finish.ensures _ c.between_values.ensures
