use Rattle.std.proofs.Common.{ap, subst, ◌∙◌}
use Rattle.do_value.specs.Tree.{items}
use Rattle.do_value.specs.Seen.{trees_in}
use Rattle.script_ops.specs.Answers.{Gives}
use Rattle.script_ops.specs.Errors.{within_limits}
use Rattle.script_ops.proofs.Cut.{slice_trees}
use Rattle.script_ops.proofs.lists.copy_part.Goals as goal

pub returns-in_ok-copy_all : goal.returns-in_ok-copy_all
returns-in_ok-copy_all c =
    subst (λ ts. Gives (within_limits (items ts)) c.list_value.result)
    (ap trees_in c.in_ok-copy_all.ensures ∙ slice_trees c.args.values.now c.args.from c.args.to) c.list_value.ensures
