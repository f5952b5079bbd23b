use Rattle.std.proofs.Common.{◌≡◌, Ok, ◌∙◌, arith}
use Rattle.std.proofs.lemmas.Grind.{common_steps}
use Rattle.do_tree.specs.Seen.{expr_of}
use Rattle.do_value.specs.Seen.{tree_of}
use Rattle.script_paths.proofs.Writes.{update_reads}
use Rattle.script_paths.specs.Standing.{place_in}
use Rattle.script_places.specs.Steps.{steps_in}
use Rattle.script_steps.proofs.Begun.{if_ok}
use Rattle.script_steps.specs.Paths.{root_of}
use Rattle.script_vars.specs.Seen.{env_of}
use Rattle.script_paths.proofs.places.update.Goals as goal

pub returns-in-Ok-clause-same : goal.returns-in-Ok-clause-same
returns-in-Ok-clause-same c =
    let env = env_of c.args.vars.now in
    let found : place_in env c.args.fields.now (root_of c.args.root) (steps_in c.args.steps.items) ≡ Ok (tree_of c.in-Ok.old) = grind (arith, common_steps) in
    if_ok c.update_from.result
    (λ m p calls next st here.
    update_reads calls (root_of c.args.root) (steps_in c.args.steps.items) c.args.fields.now env next st c.args.op (expr_of c.args.right.value) (tree_of c.in-Ok.old) here found
    ∙ p calls next st) c.update_from.ensures.same
