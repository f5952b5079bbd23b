use Rattle.switch_history.proofs.Told.{left_told}
use Rattle.switch_history.proofs.laws.left_has_its_line.Goals as goal

pub returns : goal.returns
returns c = left_told
