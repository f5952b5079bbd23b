use Rattle.switch_history.proofs.Ending.{ends_routed}
use Rattle.switch_history.proofs.laws.ends_are_routed.Goals as goal

pub returns : goal.returns
returns c = ends_routed
