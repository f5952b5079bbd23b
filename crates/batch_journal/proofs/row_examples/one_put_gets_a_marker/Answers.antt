use Rattle.batch_journal.proofs.Examples.{gets_marker, gets_none}
use Rattle.batch_journal.proofs.row_examples.one_put_gets_a_marker.Goals as goal

pub returns-clause-first : goal.returns-clause-first
returns-clause-first c = gets_marker

pub returns-clause-second : goal.returns-clause-second
returns-clause-second c = gets_none
