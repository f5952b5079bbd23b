use Rattle.script_ops.specs.Answers.{error_of}
use Rattle.front_turns.proofs.Values.{back_of}
use Rattle.front_turns.proofs.answers.error.Goals as goal

pub returns : goal.returns
returns c = back_of (error_of c.args.refusal) c.build_error.result c.build_error.ensures
