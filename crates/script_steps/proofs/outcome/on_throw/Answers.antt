use Rattle.do_value.specs.Seen.{tree_of}
use Rattle.script_steps.proofs.Exits.{throw_passes}
use Rattle.script_steps.proofs.outcome.on_throw.Goals as goal

pub returns-clause-moves : goal.returns-clause-moves
returns-clause-moves c = λ calls. throw_passes calls c.args.frame (tree_of c.args.value) c.in_default.not-Catch c.in_default.not-Leave c.in_default.not-Commit c.in_default.not-Unblock
