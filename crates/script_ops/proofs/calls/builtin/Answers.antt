use Rattle.script_ops.proofs.calls.builtin.Goals as goal

pub returns : goal.returns
returns c = c.finish.ensures _ c.call.ensures
