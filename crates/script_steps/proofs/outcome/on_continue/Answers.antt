use Rattle.script_steps.proofs.Exits.{continue_passes}
use Rattle.script_steps.proofs.outcome.on_continue.Goals as goal

pub returns-clause-moves : goal.returns-clause-moves
returns-clause-moves c = λ calls. continue_passes calls c.args.frame c.in_default.not-Turn c.in_default.not-Next c.in_default.not-Leave c.in_default.not-Commit c.in_default.not-Unblock
