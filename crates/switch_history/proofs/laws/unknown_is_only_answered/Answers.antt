use Rattle.switch_history.proofs.Unknown.{only_answered}
use Rattle.switch_history.proofs.laws.unknown_is_only_answered.Goals as goal

pub returns : goal.returns
returns c = only_answered
