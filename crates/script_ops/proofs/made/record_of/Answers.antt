use Rattle.script_ops.proofs.made.record_of.Goals as goal

pub returns : goal.returns
returns c = c.finish.ensures _ c.record_value.ensures
