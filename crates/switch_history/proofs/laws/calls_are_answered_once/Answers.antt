use Rattle.switch_history.proofs.Once.{answered_once}
use Rattle.switch_history.proofs.laws.calls_are_answered_once.Goals as goal

pub returns : goal.returns
returns c = answered_once
