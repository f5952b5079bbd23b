use Rattle.switch_history.proofs.Placed.{posts_placed}
use Rattle.switch_history.proofs.laws.posts_are_placed.Goals as goal

pub returns : goal.returns
returns c = posts_placed
