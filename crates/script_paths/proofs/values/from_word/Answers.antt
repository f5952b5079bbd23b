use Rattle.std.proofs.Common.{◌∙◌, ◌≡◌, arith}
use Rattle.std.proofs.lemmas.Grind.{common_steps}
use Rattle.script_paths.specs.Ahead.{front, front_of}
use Rattle.script_steps.specs.Parts.{links_in}
use Rattle.do_tree.specs.Seen.{expr_of}
use Rattle.script_mean.specs.Paths.{parts_behind_call}
use Rattle.script_steps.proofs.Begun.{if_ok}
use Rattle.script_paths.proofs.Onward.{called_fronts, leaves_at, word_at}
use Rattle.script_paths.specs.Onward.{called_parts_on}
use Rattle.script_steps.specs.Paths.{is_present}
use Rattle.script_paths.proofs.values.from_word.Goals as goal

pub returns-clause-same : goal.returns-clause-same
returns-clause-same c =
    let h : front (links_in (expr_of c.args.node.value) c.args.place) ≡ front_of c.in_ok-ahead.ahead = grind (arith, common_steps) in
    if_ok c.word_goes_on.result (λ m p calls. word_at (is_present c.args.awaited) calls c.args.word (expr_of c.args.node.value) c.args.place _ h ∙ p calls) c.word_goes_on.ensures.same

pub returns-clause-less : goal.returns-clause-less
returns-clause-less c =
    let h : front (links_in (expr_of c.args.node.value) c.args.place) ≡ front_of c.in_ok-ahead.ahead = grind (arith, common_steps) in
    leaves_at parts_behind_call called_parts_on called_fronts (expr_of c.args.node.value) c.args.place _ h 20 _ c.word_goes_on.ensures.less
