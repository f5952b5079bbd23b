use Rattle.front_history.proofs.Said.{is_said}
use Rattle.front_history.proofs.laws.halves_are_said.Goals as goal

pub returns : goal.returns
returns c = λ k opened st half rear line notices known paired.
    is_said c.telling_tells.ensures c.pair_is_said.ensures k opened st half rear line notices known paired
