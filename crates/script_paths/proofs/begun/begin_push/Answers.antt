use Rattle.std.proofs.Common.{ap, ◌∙◌}
use Rattle.do_tree.specs.Seen.{expr_of}
use Rattle.script_steps.specs.Parts.{links_of}
use Rattle.script_paths.proofs.Starts.{push_begins, push_less}
use Rattle.script_paths.proofs.begun.begin_push.Goals as goal

pub returns-clause-same : goal.returns-clause-same
returns-clause-same c =
    λ calls. push_begins calls c.args.name.now c.in_ok-name.name c.in_ok-node.node _ _ _ c.in_ok-name.ensures c.new.ensures.items
    (ap (λ e. links_of (expr_of e)) c.in_ok-node.ensures ∙ c.requires) c.parts_of_push-cost.ensures.count

pub returns-clause-less : goal.returns-clause-less
returns-clause-less c = push_less c.in_ok-node.node _ _ (ap (λ e. links_of (expr_of e)) c.in_ok-node.ensures ∙ c.requires) c.parts_of_push-cost.ensures.count
