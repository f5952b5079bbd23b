use Rattle.std.proofs.Common.{◌≡◌, arith}
use Rattle.std.proofs.lemmas.Grind.{common_steps}
use Rattle.script_paths.specs.Ahead.{front, front_of}
use Rattle.script_steps.specs.Parts.{links_in}
use Rattle.do_tree.specs.Seen.{expr_of}
use Rattle.do_value.specs.Seen.{tree_of}
use Rattle.script_mean.specs.Meaning.{links}
use Rattle.script_mean.specs.Paths.{holds, parts}
use Rattle.script_paths.proofs.Onward.{leaves_at, unfolds_at, value_fronts, parts_fronts}
use Rattle.script_paths.specs.Onward.{value_on, parts_on}
use Rattle.script_steps.specs.Paths.{is_present}
use Rattle.script_paths.proofs.values.from_value.Goals as goal

pub returns-clause-same : goal.returns-clause-same
returns-clause-same c =
    let h : front (links_in (expr_of c.args.node.value) c.args.place) ≡ front_of c.in_ok-ahead.ahead = grind (arith, common_steps) in
    unfolds_at (λ calls. links (is_present c.args.awaited) calls (holds (tree_of c.args.value))) (λ calls. value_on (is_present c.args.awaited) calls (tree_of c.args.value)) (λ calls. value_fronts (is_present c.args.awaited) calls (tree_of c.args.value)) (expr_of c.args.node.value) c.args.place _ h _ c.value_goes_on.ensures.same

pub returns-clause-less : goal.returns-clause-less
returns-clause-less c =
    let h : front (links_in (expr_of c.args.node.value) c.args.place) ≡ front_of c.in_ok-ahead.ahead = grind (arith, common_steps) in
    leaves_at parts parts_on parts_fronts (expr_of c.args.node.value) c.args.place _ h 10 _ c.value_goes_on.ensures.less
