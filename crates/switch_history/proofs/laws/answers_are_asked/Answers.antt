use Rattle.switch_history.proofs.Asked.{answers_asked}
use Rattle.switch_history.proofs.laws.answers_are_asked.Goals as goal

pub returns : goal.returns
returns c = answers_asked
