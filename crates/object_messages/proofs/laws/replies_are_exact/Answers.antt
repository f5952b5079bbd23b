use Rattle.object_messages.proofs.Exactly.{replies_exact}
use Rattle.object_messages.proofs.laws.replies_are_exact.Goals as goal

pub returns : goal.returns
returns c = replies_exact
