use Rattle.std.proofs.Common.{◌+◌, [], ap, ◌∙◌}
use Rattle.do_tree.specs.Seen.{expr_of}
use Rattle.do_value.specs.Seen.{trees_in}
use Rattle.script_mean.specs.Frames.{called}
use Rattle.script_steps.proofs.Begun.{if_ok}
use Rattle.script_steps.specs.Parts.{args_in, links_in}
use Rattle.script_steps.specs.Paths.{callee_of, is_present}
use Rattle.script_paths.proofs.Onward.{arguments_are}
use Rattle.script_paths.proofs.walked.call_from.Goals as goal

pub returns-clause-same : goal.returns-clause-same
returns-clause-same c =
    if_ok c.call_at.result
    (λ m p calls. arguments_are calls (is_present c.args.awaited) (links_in (expr_of c.args.node.value) (c.args.link + 1)) (args_in (expr_of c.args.node.value) c.args.link c.args.first) (called calls (callee_of c.args.callee)) [] _ (ap trees_in c.new.ensures.items) ∙ p calls)
    c.call_at.ensures.same
