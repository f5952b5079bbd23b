use Rattle.batch_journal.proofs.Examples.{damaged_without_gate}
use Rattle.batch_journal.proofs.row_examples.a_marker_without_its_gate_is_damaged.Goals as goal

pub returns : goal.returns
returns c = damaged_without_gate
