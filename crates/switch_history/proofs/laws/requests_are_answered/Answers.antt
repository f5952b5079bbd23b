use Rattle.switch_history.proofs.Answered.{requests_answered}
use Rattle.switch_history.proofs.laws.requests_are_answered.Goals as goal

pub returns : goal.returns
returns c = requests_answered
