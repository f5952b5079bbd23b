use Rattle.do_tree.proofs.Printing.{printed_short}
use Rattle.do_tree.proofs.laws.printed_is_no_longer.Goals as goal

pub returns : goal.returns
returns c = printed_short
