use Rattle.std.proofs.Common.{ap, ◌∙◌}
use Rattle.do_tree.specs.Seen.{expr_of}
use Rattle.script_steps.specs.Parts.{links_of}
use Rattle.script_paths.proofs.Framed.{framed_so}
use Rattle.script_steps.specs.Paths.{is_present}
use Rattle.script_steps.specs.declared.path.Await.TheVariants as await
use Rattle.script_steps.specs.declared.focus.Focus.TheVariants as focus
use Rattle.script_paths.proofs.Starts.{other_begins, other_less}
use Rattle.script_paths.proofs.begun.begin_value_path.Goals as goal

pub returns-clause-same : goal.returns-clause-same
returns-clause-same c =
    λ calls. other_begins (is_present c.args.awaited) calls _ c.in_ok-node.node c.in_ok-base.base _ _ (ap (λ e. links_of (expr_of e)) c.in_ok-node.ensures ∙ c.requires) c.parts_of_value-cost.ensures c.in_ok-base.ensures
    ∙ framed_so calls c.parts_of_value-cost.result c.in_ok-frame.frame _ (focus.Value await.Absent c.in_ok-base.base) c.in_ok-frame.ensures.frame

pub returns-clause-less : goal.returns-clause-less
returns-clause-less c =
    other_less c.args.awaited c.in_ok-node.node c.in_ok-base.base _ _ (ap (λ e. links_of (expr_of e)) c.in_ok-node.ensures ∙ c.requires) c.parts_of_value-cost.ensures c.in_ok-frame.frame c.in_ok-frame.ensures.weight
