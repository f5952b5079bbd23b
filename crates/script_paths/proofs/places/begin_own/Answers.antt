use Rattle.std.proofs.Common.{◌≡◌, ap, arith}
use Rattle.std.proofs.lemmas.Grind.{common_steps}
use Rattle.do_tree.specs.Nodes.{with_link}
use Rattle.do_tree.specs.Seen.{expr_of}
use Rattle.do_tree.specs.declared.expr.Link.TheVariants as link
use Rattle.script_places.specs.Steps.{steps_in}
use Rattle.script_steps.specs.Parts.{links_in}
use Rattle.script_steps.specs.Paths.{writing_of}
use Rattle.script_paths.proofs.Found.{own_found}
use Rattle.script_paths.proofs.places.begin_own.Goals as goal

pub returns-in_ok-node-in-Some-Field-clause-same : goal.returns-in_ok-node-in-Some-Field-clause-same
returns-in_ok-node-in-Some-Field-clause-same c =
    let found : links_in (expr_of c.args.node.now.value) 0 ≡ with_link c.in-Some-Field.field-0.now (links_in (expr_of c.args.node.now.value) 1) = grind (arith, common_steps) in
    let is : c.in-Some-Field.field-0.now ≡ link.Field c.in-Some-Field.name = grind (arith, common_steps) in
    let copied : c.in_ok-copy-in-Some-Field.field-0 ≡ c.in-Some-Field.name.text = grind (arith, common_steps) in
    λ calls at own_at. own_found calls (writing_of c.args.writing) at own_at c.in-Some-Field.field-0.now c.in-Some-Field.name _ _ _
    c.in_ok-copy-in-Some-Field.field-0 (steps_in c.new.result.items) found is (ap (λ z. links_in (expr_of z) 1) c.in_ok-node-in-Some-Field.ensures) copied (ap steps_in c.new.ensures.items)
