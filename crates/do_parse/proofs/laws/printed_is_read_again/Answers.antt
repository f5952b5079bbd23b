use Rattle.std.proofs.Common.{arith, length, sym, ◌∙◌, ap}
use Rattle.do_tree.specs.Unplaced.{unplaced_script}
use Rattle.do_tree.proofs.Printing.{printed_again, printed_short}
use Rattle.do_parse.proofs.laws.printed_is_read_again.Goals as goal

pub returns-clause-fits : goal.returns-clause-fits
returns-clause-fits c text script small is = omega (arith, small, printed_short text script is)

pub returns-clause-read : goal.returns-clause-read
returns-clause-read c text script is = let again = printed_again text script is in (again.0, again.1)

pub returns-clause-same : goal.returns-clause-same
returns-clause-same c text script again is only =
    let found = printed_again text script is in
    ap unplaced_script (sym (only found.0 found.1)) ∙ found.2
