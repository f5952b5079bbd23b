use Rattle.switch_history.proofs.NoMore.{answers_no_more}
use Rattle.switch_history.proofs.laws.answers_are_no_more_than_asks.Goals as goal

pub returns : goal.returns
returns c = answers_no_more
