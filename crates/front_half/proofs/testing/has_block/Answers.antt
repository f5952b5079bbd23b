use Rattle.std.proofs.Common.{◌∙◌, sym, ap, Option, Bor, option_copied}
use Rattle.object_calls.proofs.Numbers.{find_under}
use Rattle.timeline.specs.Eligible.{has_block}
use Rattle.front_turns.specs.declared.object.Held.{Held}
use Rattle.front_turns.proofs.Holding.{none_under_too}
use Rattle.front_half.proofs.Judging.{block_held}
use Rattle.front_half.proofs.testing.has_block.Goals as goal

pub returns-in-Some : goal.returns-in-Some
returns-in-Some g c = λ l ts held.
    let es = c.args.object.now.tasks.entries in
    let there = sym (find_under c.args.number es) ∙ sym c.get.ensures.value ∙ ap (λ (o : Option (Bor (Held g.row.T.Denot))). option_copied o) c.in-Some.is in
    c.block.ensures ∙ sym (block_held g.T.Task.seen l c.args.number c.in-Some.held.now es ts held.tasks there)

pub returns-in-None : goal.returns-in-None
returns-in-None g c = λ l ts held.
    let es = c.args.object.now.tasks.entries in
    let none = sym (find_under c.args.number es) ∙ sym c.get.ensures.value ∙ ap (λ (o : Option (Bor (Held g.row.T.Denot))). option_copied o) c.in-None.is in
    sym (ap has_block (none_under_too g.T.Task.seen l c.args.number es ts held.tasks none))
