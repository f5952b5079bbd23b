use Rattle.std.proofs.Common.{ap, ◌∙◌}
use Rattle.do_tree.specs.Seen.{expr_of}
use Rattle.script_steps.specs.Parts.{links_of}
use Rattle.script_steps.specs.Paths.{is_present, point_of}
use Rattle.script_paths.proofs.Starts.{from_point, point_less}
use Rattle.script_paths.proofs.begun.begin_at.Goals as goal

pub returns-clause-same : goal.returns-clause-same
returns-clause-same c =
    λ calls. from_point (is_present c.args.awaited) calls (point_of c.args.point) c.in_ok-node.node _ _ (ap (λ e. links_of (expr_of e)) c.in_ok-node.ensures ∙ c.requires) c.parts_from-cost.ensures

pub returns-clause-less : goal.returns-clause-less
returns-clause-less c = point_less c.args.point c.in_ok-node.node _ _ c.args.awaited (ap (λ e. links_of (expr_of e)) c.in_ok-node.ensures ∙ c.requires) c.parts_from-cost.ensures
