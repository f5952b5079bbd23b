use Rattle.script_ops.proofs.Found.{contains_is}
use Rattle.script_ops.proofs.texts.contains.Goals as goal

pub returns : goal.returns
returns c = contains_is c.contains.result c.args.part.now c.args.text.now c.contains.ensures.cases
