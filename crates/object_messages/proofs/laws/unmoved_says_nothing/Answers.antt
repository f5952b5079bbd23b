use Rattle.object_messages.proofs.Unmoved.{says_nothing}
use Rattle.object_messages.proofs.laws.unmoved_says_nothing.Goals as goal

pub returns : goal.returns
returns c = says_nothing
