use Rattle.switch_history.proofs.Fitting.{posts_are_fit}
use Rattle.switch_history.proofs.laws.posts_fit.Goals as goal

pub returns : goal.returns
returns c = posts_are_fit
