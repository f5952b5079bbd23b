use Rattle.std.proofs.Common.{◌+◌, ◌*◌, ◌≤◌, arith, ◌≡◌}
use Rattle.std.proofs.lemmas.Grind.{common_steps}
use Rattle.script_paths.specs.Ahead.{front, front_of}
use Rattle.do_tree.specs.Seen.{expr_of}
use Rattle.do_value.specs.Seen.{tree_of}
use Rattle.script_mean.specs.Meaning.{object_links}
use Rattle.script_mean.specs.Paths.{parts_behind_call}
use Rattle.script_steps.specs.Parts.{links_in}
use Rattle.script_paths.proofs.Onward.{called_fronts, leaves_at, less_more, object_fronts, unfolds_at}
use Rattle.script_paths.specs.Onward.{called_parts_on, object_on}
use Rattle.script_steps.specs.Paths.{is_present}
use Rattle.script_paths.proofs.called.instance.Goals as goal

pub returns-clause-same : goal.returns-clause-same
returns-clause-same c =
    let h : front (links_in (expr_of c.args.node.value) c.args.place) ≡ front_of c.in_ok-ahead.ahead = grind (arith, common_steps) in
    unfolds_at (λ calls. object_links (is_present c.args.awaited) calls c.args.class (tree_of c.args.name)) (λ calls. object_on (is_present c.args.awaited) calls c.args.class (tree_of c.args.name)) (λ calls. object_fronts (is_present c.args.awaited) calls c.args.class (tree_of c.args.name)) (expr_of c.args.node.value) c.args.place _ h _ c.object_goes_on.ensures.same

pub returns-clause-less : goal.returns-clause-less
returns-clause-less c =
    let h : front (links_in (expr_of c.args.node.value) c.args.place) ≡ front_of c.in_ok-ahead.ahead = grind (arith, common_steps) in
    let behind = parts_behind_call (links_in (expr_of c.args.node.value) c.args.place) in
    let same : 20 + 10 * behind ≤ 14 + (6 + 10 * behind) = omega arith in
    less_more (20 + 10 * behind) _ same _ (leaves_at parts_behind_call called_parts_on called_fronts (expr_of c.args.node.value) c.args.place _ h 20 _ c.object_goes_on.ensures.less)
