use Rattle.do_parse.proofs.OneFault.{no_fault}
use Rattle.do_parse.proofs.one_fault.none_of_a_script.Goals as goal

pub returns : goal.returns
returns c = no_fault
