use Rattle.script_state.proofs.Ending.{block_threw}
use Rattle.script_steps.specs.Paths.{is_present}
use Rattle.script_state.proofs.state.State.end_block.Goals as goal

pub returns-in-Threw-clause-same : goal.returns-in-Threw-clause-same
returns-in-Threw-clause-same c = block_threw (is_present c.args.awaited) c.args.ended c.in-Threw.value c.args.self.now c.cut.new.self c.in-Threw.is c.in_ok-cut-in-Threw.ensures
