use Rattle.std.proofs.Common.{◌∙◌, ◌≡◌, arith}
use Rattle.std.proofs.lemmas.Grind.{common_steps}
use Rattle.script_paths.specs.Ahead.{front, front_of}
use Rattle.script_steps.specs.Parts.{links_in}
use Rattle.do_tree.specs.Seen.{expr_of}
use Rattle.script_mean.specs.Meaning.{links}
use Rattle.script_mean.specs.Paths.{environment, parts_behind_two_calls}
use Rattle.script_paths.proofs.Onward.{at_place, env_fronts, environment_fronts, less_at}
use Rattle.script_paths.specs.Onward.{class_parts_on, environment_on}
use Rattle.script_steps.specs.Paths.{is_present}
use Rattle.script_paths.proofs.classes.from_environment.Goals as goal

pub returns-clause-same : goal.returns-clause-same
returns-clause-same c =
    let h : front (links_in (expr_of c.args.node.value) c.args.place) ≡ front_of c.in_ok-ahead.ahead = grind (arith, common_steps) in
    λ calls. at_place (links (is_present c.args.awaited) calls environment) (environment_on (is_present c.args.awaited) calls) (environment_fronts (is_present c.args.awaited) calls) (expr_of c.args.node.value) c.args.place _ h ∙ c.environment_goes_on.ensures.same calls

pub returns-clause-less : goal.returns-clause-less
returns-clause-less c =
    let h : front (links_in (expr_of c.args.node.value) c.args.place) ≡ front_of c.in_ok-ahead.ahead = grind (arith, common_steps) in
    less_at parts_behind_two_calls class_parts_on env_fronts (expr_of c.args.node.value) c.args.place _ h 25 _ c.environment_goes_on.ensures.less
