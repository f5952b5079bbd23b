use Rattle.front_history.proofs.Backs.{begins_keep}
use Rattle.front_history.proofs.laws.front_begins.Goals as goal

pub returns : goal.returns
returns c = λ k opened st half rear known stand held taken stops downs logged at.
    begins_keep c.pair_begins.ensures k opened st half rear known stand held taken stops downs logged at
