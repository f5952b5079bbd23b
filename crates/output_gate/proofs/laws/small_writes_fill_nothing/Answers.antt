use Rattle.output_gate.proofs.Unfilled.{fills_nothing}
use Rattle.output_gate.proofs.laws.small_writes_fill_nothing.Goals as goal

pub returns : goal.returns
returns c = fills_nothing
