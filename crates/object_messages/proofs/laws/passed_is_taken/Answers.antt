use Rattle.object_messages.proofs.Passing.{passed_taken}
use Rattle.object_messages.proofs.laws.passed_is_taken.Goals as goal

pub returns : goal.returns
returns c = passed_taken
