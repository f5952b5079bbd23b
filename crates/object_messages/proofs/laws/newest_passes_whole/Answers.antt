use Rattle.object_messages.proofs.PassedWhole.{newest_whole}
use Rattle.object_messages.proofs.laws.newest_passes_whole.Goals as goal

pub returns : goal.returns
returns c = newest_whole
