use Rattle.std.proofs.Common.{◌+◌, ap, ◌∙◌}
use Rattle.do_tree.specs.Seen.{expr_of}
use Rattle.do_value.specs.Seen.{tree_of}
use Rattle.script_mean.specs.Meaning.{value_named}
use Rattle.script_steps.proofs.Begun.{if_ok}
use Rattle.script_steps.specs.Parts.{args_in, links_in}
use Rattle.script_paths.proofs.Onward.{arguments_are}
use Rattle.script_paths.specs.Ahead.{front_of}
use Rattle.script_paths.specs.Onward.{value_on}
use Rattle.script_steps.specs.Paths.{is_present}
use Rattle.script_paths.proofs.values.value_goes_on.Goals as goal

pub returns-in_ok-got-in-Method-clause-same : goal.returns-in_ok-got-in-Method-clause-same
returns-in_ok-got-in-Method-clause-same c =
    let e = expr_of c.args.node.value in
    if_ok c.call_at.result
    (λ m p calls.
    ap (λ a. value_on (is_present c.args.awaited) calls (tree_of c.args.value) (front_of a) (links_in e (c.args.place + 1)) (links_in e (c.args.place + 1 + 1))) c.in-Method.is
    ∙ arguments_are calls (is_present c.args.awaited) (links_in e (c.args.place + 1 + 1)) (args_in e (c.args.place + 1) 0) (value_named c.in-Method.name) _ _ c.in_ok-got-in-Method.ensures
    ∙ p calls)
    c.call_at.ensures.same
