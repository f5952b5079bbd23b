use Rattle.std.proofs.Common.{sym, ap, ◌∙◌}
use Rattle.do_tree.specs.Seen.{expr_of}
use Rattle.script_paths.proofs.Onward.{identifies}
use Rattle.script_paths.specs.Onward.{first_call}
use Rattle.script_paths.proofs.classes.call_in.Goals as goal

pub returns : goal.returns
returns c = λ calls call. identifies calls call (expr_of c.args.node.now) c.first_call.result (ap first_call c.links_after.ensures.links ∙ sym c.first_call.ensures)
