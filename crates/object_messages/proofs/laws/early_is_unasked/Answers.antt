use Rattle.object_messages.proofs.Early.{early_unasked}
use Rattle.object_messages.proofs.laws.early_is_unasked.Goals as goal

pub returns : goal.returns
returns c = early_unasked
