use Rattle.std.proofs.Common.{ap, ◌∙◌, ◌≡◌, arith}
use Rattle.std.proofs.lemmas.Grind.{common_steps}
use Rattle.script_paths.specs.Ahead.{front, front_of}
use Rattle.script_steps.specs.Parts.{links_in}
use Rattle.do_tree.specs.Seen.{expr_of}
use Rattle.script_mean.specs.Meaning.{links}
use Rattle.script_mean.specs.Paths.{itself, parts_of_itself}
use Rattle.script_mean.specs.Turn.{Run}
use Rattle.script_steps.proofs.Begun.{if_ok}
use Rattle.script_paths.proofs.Onward.{at_place, itself_fronts, leaves_at, own_fronts}
use Rattle.script_paths.specs.Onward.{itself_on, itself_parts_on}
use Rattle.script_steps.specs.Paths.{is_present}
use Rattle.script_paths.proofs.itself.from_itself.Goals as goal

pub returns-clause-same : goal.returns-clause-same
returns-clause-same c =
    let h : front (links_in (expr_of c.args.node.value) c.args.place) ≡ front_of c.in_ok-ahead.ahead = grind (arith, common_steps) in
    if_ok c.itself_goes_on.result
    (λ m p calls env next st here.
    ap (λ (r : Run). r env next st) (at_place (links (is_present c.args.awaited) calls itself) (itself_on (is_present c.args.awaited) calls) (itself_fronts (is_present c.args.awaited) calls) (expr_of c.args.node.value) c.args.place _ h)
    ∙ p calls env next st here)
    c.itself_goes_on.ensures.same

pub returns-clause-less : goal.returns-clause-less
returns-clause-less c =
    let h : front (links_in (expr_of c.args.node.value) c.args.place) ≡ front_of c.in_ok-ahead.ahead = grind (arith, common_steps) in
    leaves_at parts_of_itself itself_parts_on own_fronts (expr_of c.args.node.value) c.args.place _ h 20 _ c.itself_goes_on.ensures.less
