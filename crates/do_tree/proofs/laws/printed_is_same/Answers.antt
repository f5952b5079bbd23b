use Rattle.do_tree.proofs.Printing.{printed_again}
use Rattle.do_tree.proofs.laws.printed_is_same.Goals as goal

pub returns : goal.returns
returns c = printed_again
