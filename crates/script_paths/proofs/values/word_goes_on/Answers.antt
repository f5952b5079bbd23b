use Rattle.std.proofs.Common.{◌+◌, ap, ◌∙◌}
use Rattle.do_tree.specs.Seen.{expr_of}
use Rattle.script_steps.proofs.Begun.{if_ok}
use Rattle.script_steps.specs.Parts.{links_in}
use Rattle.script_paths.specs.Ahead.{front_of}
use Rattle.script_paths.specs.Onward.{word_from}
use Rattle.script_steps.specs.Paths.{is_present}
use Rattle.script_paths.proofs.values.word_goes_on.Goals as goal

pub returns-in-Call-clause-same : goal.returns-in-Call-clause-same
returns-in-Call-clause-same c =
    if_ok c.call_from.result (λ m p calls. ap (λ a. word_from (is_present c.args.awaited) calls c.args.word (front_of a) (links_in (expr_of c.args.node.value) c.args.place) (links_in (expr_of c.args.node.value) (c.args.place + 1)) (links_in (expr_of c.args.node.value) (c.args.place + 1 + 1))) c.in-Call.is ∙ p calls) c.call_from.ensures.same

pub returns-in-Method-clause-same : goal.returns-in-Method-clause-same
returns-in-Method-clause-same c =
    if_ok c.call_from-in-Method.result (λ m p calls. ap (λ a. word_from (is_present c.args.awaited) calls c.args.word (front_of a) (links_in (expr_of c.args.node.value) c.args.place) (links_in (expr_of c.args.node.value) (c.args.place + 1)) (links_in (expr_of c.args.node.value) (c.args.place + 1 + 1))) c.in-Method.is ∙ p calls) c.call_from-in-Method.ensures.same
