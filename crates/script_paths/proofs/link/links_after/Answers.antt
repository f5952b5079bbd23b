use Rattle.std.proofs.Common.{◌≡◌, ap, ◌∙◌, arith}
use Rattle.std.proofs.lemmas.Grind.{common_steps}
use Rattle.do_tree.specs.Nodes.{links_in}
use Rattle.do_tree.specs.declared.expr.Expr.TheVariants as node
use Rattle.script_steps.specs.Parts.{links_from}
use Rattle.script_paths.proofs.Links.{path_links}
use Rattle.script_paths.proofs.link.links_after.Goals as goal

pub returns-in-Path-clause-links : goal.returns-in-Path-clause-links
returns-in-Path-clause-links c =
    let is : c.args.node.now ≡ node.Path c.in-Path.at c.in-Path.base c.in-Path.links = grind (arith, common_steps) in
    let same : c.in-Path.links.items ≡ c.deref.result.now = grind (arith, common_steps) in
    ap (links_from c.args.place) (path_links _ _ _ _ is ∙ ap links_in same) ∙ c.past.ensures.links
