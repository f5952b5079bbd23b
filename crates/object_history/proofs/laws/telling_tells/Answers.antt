use Rattle.object_history.proofs.SoFar.{tells_so_far, tells_whole}
use Rattle.object_history.proofs.laws.telling_tells.Goals as goal

pub returns : goal.returns
returns c = record { so_far = tells_so_far; whole = tells_whole }
