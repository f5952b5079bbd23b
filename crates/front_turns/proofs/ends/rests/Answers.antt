use Rattle.std.proofs.Common.{refl}
use Rattle.front_turns.proofs.Saying.{rests_says}
use Rattle.front_turns.proofs.ends.rests.Goals as goal

pub returns : goal.returns
returns g c = λ l ts old held. rests_says ts _ held refl refl
