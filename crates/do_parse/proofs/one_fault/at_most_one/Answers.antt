use Rattle.do_parse.proofs.OneFault.{one_fault}
use Rattle.do_parse.proofs.one_fault.at_most_one.Goals as goal

pub returns : goal.returns
returns c = one_fault
