use Rattle.batch_journal.proofs.Marking.{keeps_the_map}
use Rattle.batch_journal.proofs.laws.mounting_keeps_the_map.Goals as goal

pub returns : goal.returns
returns c = keeps_the_map
