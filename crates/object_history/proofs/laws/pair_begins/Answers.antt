use Rattle.object_history.proofs.Beginning.{begins_a_pair}
use Rattle.object_history.proofs.laws.pair_begins.Goals as goal

pub returns : goal.returns
returns c = λ k opened front rear known stand held taken stops downs delivered downed sent ends.
    begins_a_pair k opened front rear stand held taken stops delivered downed sent ends
