use Rattle.do_tree.specs.Checked.{tree_of}
use Rattle.object_tests.proofs.Classes.{class_there}
use Rattle.object_tests.proofs.fronts.drive.class_of.Goals as goal

pub returns : goal.returns
returns c = class_there (tree_of c.args.checked.now) c.args.name.now c.class.result c.class.ensures
