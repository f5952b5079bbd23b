use Rattle.std.proofs.Common.{◌≡◌, true, false, refl, ap, ◌∙◌, arith}
use Rattle.std.proofs.lemmas.Grind.{common_steps}
use Rattle.do_tree.specs.Nodes.{links_in as list_in}
use Rattle.script_mean.specs.Paths.{pushes}
use Rattle.script_mean.specs.Turn.{Run}
use Rattle.script_steps.proofs.Begun.{if_ok}
use Rattle.script_steps.specs.Paths.{is_present}
use Rattle.script_vars.specs.Seen.{env_of}
use Rattle.script_paths.proofs.Starts.{name_begins, name_pushes}
use Rattle.script_paths.specs.Onward.{point_path}
use Rattle.script_paths.proofs.begun.begin_named.Goals as goal

pub returns-then-pushes-clause-same : goal.returns-then-pushes-clause-same
returns-then-pushes-clause-same c =
    let yes : pushes (list_in c.args.links.now) ≡ true = grind (arith, common_steps) in
    if_ok c.begin_push.result
    (λ m p calls next st. name_pushes (is_present c.args.awaited) calls c.args.name.now (list_in c.args.links.now) (env_of c.args.vars.now) next st yes ∙ ap (λ (r : Run). r (env_of c.args.vars.now) next st) (p calls)) c.begin_push.ensures.same

pub returns-clause-same : goal.returns-clause-same
returns-clause-same c =
    let no : pushes (list_in c.args.links.now) ≡ false = grind (arith, common_steps) in
    if_ok c.begin_at.result
    (λ m p calls next st. name_begins (is_present c.args.awaited) calls c.args.name.now (list_in c.args.links.now) _ (env_of c.args.vars.now) next st no refl
    ∙ ap (λ q. point_path (is_present c.args.awaited) calls q (list_in c.args.links.now) (env_of c.args.vars.now) next st) c.in_ok-point.ensures
    ∙ ap (λ (r : Run). r (env_of c.args.vars.now) next st) (p calls)) c.begin_at.ensures.same
