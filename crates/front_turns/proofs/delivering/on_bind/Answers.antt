use Rattle.std.proofs.Common.{refl}
use Rattle.front_turns.proofs.Saying.{one_said}
use Rattle.front_turns.proofs.delivering.on_bind.Goals as goal

pub returns : goal.returns
returns g c = λ l ts held. one_said {o = c.args.object} _ ts _ held refl c.in_ok-say.ensures
