use Rattle.script_steps.proofs.Turns.{loop_begins}
use Rattle.script_steps.proofs.block.begin_loop.Goals as goal

pub returns-clause-moves : goal.returns-clause-moves
returns-clause-moves c = λ calls. loop_begins calls c.args.test c.in_ok-inner.inner _ _ c.in_ok-inner.ensures
