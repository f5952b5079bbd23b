use Rattle.switch_history.proofs.Numbered.{are_numbered}
use Rattle.switch_history.proofs.laws.fetches_are_numbered.Goals as goal

pub returns : goal.returns
returns c = are_numbered
