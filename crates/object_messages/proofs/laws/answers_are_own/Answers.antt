use Rattle.object_messages.proofs.FrontsFetching.{answers_own}
use Rattle.object_messages.proofs.laws.answers_are_own.Goals as goal

pub returns : goal.returns
returns c = answers_own
