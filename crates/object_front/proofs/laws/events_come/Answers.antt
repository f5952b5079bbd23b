use Rattle.object_front.proofs.Coming as coming
use Rattle.object_front.proofs.laws.events_come.Goals as goal

pub returns : goal.returns
returns c = coming.events_come
