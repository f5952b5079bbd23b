use Rattle.do_tree.specs.Checked.{tree_of}
use Rattle.script_tests.proofs.Found.{method_there}
use Rattle.script_tests.proofs.tasks.given.found.Goals as goal

pub returns-in_default : goal.returns-in_default
returns-in_default c = method_there (tree_of c.args.checked.now) c.args.class c.args.method.now c.method.result c.method.ensures
