use Rattle.object_messages.proofs.FrontsSound.{unended_pass}
use Rattle.object_messages.proofs.laws.unended_pass_as_taken.Goals as goal

pub returns : goal.returns
returns c = unended_pass
