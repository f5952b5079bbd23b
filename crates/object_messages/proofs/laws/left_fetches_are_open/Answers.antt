use Rattle.object_messages.proofs.FrontsFetching.{left_open}
use Rattle.object_messages.proofs.laws.left_fetches_are_open.Goals as goal

pub returns : goal.returns
returns c = left_open
