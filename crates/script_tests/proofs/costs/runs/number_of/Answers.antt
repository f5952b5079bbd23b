use Rattle.do_tree.specs.Checked.{tree_of}
use Rattle.script_eval.proofs.Named.{method_there}
use Rattle.script_tests.proofs.costs.runs.number_of.Goals as goal

pub returns : goal.returns
returns c = method_there (tree_of c.args.checked.now) 0 c.args.name.now c.method.result c.method.ensures
