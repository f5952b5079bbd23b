use Rattle.do_host.proofs.GenAccepted.{faultless_tree, gen_not_refused, reads}
use Rattle.do_host.proofs.GenTree.{gen_tree}
use Rattle.do_host.proofs.laws.gen_script_is_accepted.Goals as goal

pub returns-clause-script : goal.returns-clause-script
returns-clause-script c = (gen_tree, reads, faultless_tree)

pub returns-clause-accepted : goal.returns-clause-accepted
returns-clause-accepted c = gen_not_refused
