use Rattle.lane.proofs.Steps.{begins_sent}
use Rattle.lane.proofs.ends.look.Goals as goal

pub len_as-requires-clause-rule : goal.len_as-requires-clause-rule
len_as-requires-clause-rule g c = begins_sent _ _

pub returns-clause-begins : goal.returns-clause-begins
returns-clause-begins g c = c.len_as.ensures.rule.2 c.requires.1 c.requires.2
