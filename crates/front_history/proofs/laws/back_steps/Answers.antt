use Rattle.front_history.proofs.Backs.{steps_keep}
use Rattle.front_history.proofs.laws.back_steps.Goals as goal

pub returns : goal.returns
returns c = λ k opened st half rear later got line told given notices known after steps are paired.
    steps_keep c.back_keeps_pair.ensures k opened st half rear later got line told given notices known after steps are paired
