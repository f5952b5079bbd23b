use Rattle.do_lex.proofs.OneAnswer.{one_cut}
use Rattle.do_lex.proofs.laws.one_cut.Goals as goal

pub returns : goal.returns
returns c = one_cut
