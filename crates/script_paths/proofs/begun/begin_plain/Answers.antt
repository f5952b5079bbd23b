use Rattle.do_tree.specs.Seen.{expr_of}
use Rattle.script_paths.proofs.Starts.{plain_is}
use Rattle.script_paths.proofs.begun.begin_plain.Goals as goal

pub begin_value-requires : goal.begin_value-requires
begin_value-requires c = plain_is (expr_of c.args.expr.now.value) c.requires.bare c.requires.plain
