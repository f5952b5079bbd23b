use Rattle.switch_history.proofs.AsksOnce.{asked_once}
use Rattle.switch_history.proofs.laws.asks_are_answered_once.Goals as goal

pub returns : goal.returns
returns c = asked_once
