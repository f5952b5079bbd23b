use Rattle.front_half.proofs.Judging.{blocks_held}
use Rattle.front_half.proofs.testing.is_blocked.Goals as goal

pub returns : goal.returns
returns g c = λ l ts held. blocks_held c.args.object.now.blocks ts held.blocks
