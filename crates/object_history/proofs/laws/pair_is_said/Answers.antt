use Rattle.object_history.proofs.Shown.{is_said}
use Rattle.object_history.proofs.SoFar.{tells_so_far, tells_whole}
use Rattle.object_history.proofs.laws.pair_is_said.Goals as goal

pub returns : goal.returns
returns c = λ k opened f front rear line notices known pair.
    is_said (record { so_far = tells_so_far; whole = tells_whole }) k opened f front rear line notices known pair
