use Rattle.script_ops.proofs.made.list_of.Goals as goal

pub returns : goal.returns
returns c = c.finish.ensures _ c.list_value.ensures
