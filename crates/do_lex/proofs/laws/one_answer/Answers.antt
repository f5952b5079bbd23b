use Rattle.do_lex.proofs.OneAnswer.{one_next}
use Rattle.do_lex.proofs.laws.one_answer.Goals as goal

pub returns : goal.returns
returns c = one_next
