use Rattle.object_messages.proofs.Passing.{passed_all}
use Rattle.object_messages.proofs.laws.passed_is_all.Goals as goal

pub returns : goal.returns
returns c = passed_all
