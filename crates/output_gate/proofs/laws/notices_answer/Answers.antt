use Rattle.output_gate.proofs.Telling.{answers}
use Rattle.output_gate.proofs.laws.notices_answer.Goals as goal

pub returns : goal.returns
returns c = answers
