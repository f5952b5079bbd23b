use Rattle.object_history.proofs.Growing.{logs_grow}
use Rattle.object_history.proofs.laws.logs_grow.Goals as goal

pub returns : goal.returns
returns c = logs_grow
