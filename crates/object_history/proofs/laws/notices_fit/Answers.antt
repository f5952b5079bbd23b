use Rattle.object_history.proofs.Fitting.{notices_fit}
use Rattle.object_history.proofs.laws.notices_fit.Goals as goal

pub returns : goal.returns
returns c = notices_fit
