use Rattle.std.proofs.Common.{◌≡◌, ◌+◌, Some, None, sym, ap, ◌∙◌, arith}
use Rattle.std.proofs.lemmas.Grind.{common_steps}
use Rattle.do_tree.specs.Seen.{expr_of}
use Rattle.script_steps.proofs.Begun.{if_ok}
use Rattle.script_steps.specs.Paths.{is_present}
use Rattle.script_steps.specs.Seen.{move_run}
use Rattle.script_steps.specs.Parts.{args_in, links_in}
use Rattle.script_paths.proofs.Onward.{block_begins}
use Rattle.script_paths.specs.Ahead.{callback_of, first_callback}
use Rattle.script_paths.proofs.storing.block_at.Goals as goal

pub returns-in-Some-clause-same : goal.returns-in-Some-clause-same
returns-in-Some-clause-same c =
    let found : first_callback (args_in (expr_of c.args.node.value) c.args.link 0) ≡ Some (callback_of c.in-Some.callback.value) = grind (arith, common_steps) in
    if_ok c.call_from.result (λ m p calls. block_begins (is_present c.args.awaited) calls (args_in (expr_of c.args.node.value) c.args.link 0) (links_in (expr_of c.args.node.value) (c.args.link + 1)) _ found ∙ p calls) c.call_from.ensures.same

pub returns-in-None-clause-same : goal.returns-in-None-clause-same
returns-in-None-clause-same c =
    let found : first_callback (args_in (expr_of c.args.node.value) c.args.link 0) ≡ None = grind (arith, common_steps) in
    λ calls. block_begins (is_present c.args.awaited) calls (args_in (expr_of c.args.node.value) c.args.link 0) (links_in (expr_of c.args.node.value) (c.args.link + 1)) _ found ∙ ap (λ m. move_run calls m) (sym c.nowhere.ensures)
