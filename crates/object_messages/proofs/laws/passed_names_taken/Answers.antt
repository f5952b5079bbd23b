use Rattle.object_messages.proofs.PassedNaming.{passed_named}
use Rattle.object_messages.proofs.laws.passed_names_taken.Goals as goal

pub returns : goal.returns
returns c = passed_named
