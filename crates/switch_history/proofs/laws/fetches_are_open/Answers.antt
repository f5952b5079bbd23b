use Rattle.switch_history.proofs.Opened.{fetches_open}
use Rattle.switch_history.proofs.laws.fetches_are_open.Goals as goal

pub returns : goal.returns
returns c = fetches_open
