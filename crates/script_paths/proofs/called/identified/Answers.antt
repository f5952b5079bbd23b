use Rattle.std.proofs.Common.{◌≡◌, ap, arith}
use Rattle.std.proofs.lemmas.Grind.{common_steps}
use Rattle.do_value.specs.Seen.{tree_of, trees_in}
use Rattle.script_mean.specs.Meaning.{first}
use Rattle.do_tree.specs.Seen.{expr_of}
use Rattle.script_steps.specs.Parts.{args_in, links_in}
use Rattle.script_paths.proofs.Onward.{instance_goes}
use Rattle.script_steps.specs.Paths.{is_present}
use Rattle.script_paths.proofs.called.identified.Goals as goal

pub returns-clause-same : goal.returns-clause-same
returns-clause-same c =
    let named : tree_of c.in_ok-name.name ≡ first (trees_in c.args.got.items) = grind (arith, common_steps) in
    λ calls. instance_goes calls (is_present c.args.awaited) c.args.class (args_in (expr_of c.args.node.value) c.args.link 1) _ _ _ _ _ named (ap (λ e. links_in (expr_of e) c.args.next) c.in_ok-path.ensures) c.new.ensures.items
