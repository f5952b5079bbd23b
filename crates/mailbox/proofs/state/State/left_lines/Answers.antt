use Rattle.std.proofs.Common.{rules, ap, ◌∙◌}
use Rattle.std.proofs.lemmas.List.Sorted.{IsNonDecreasingBy-from_sort_by_key, answers_always}
use Rattle.timeline.specs.Finish.{ordered}
use Rattle.mailbox.proofs.Orders.{own_line, ordered_is}
use Rattle.mailbox.proofs.state.State.left_lines.Goals as goal

pub returns-in-Ok : goal.returns-in-Ok
returns-in-Ok c =
    ordered_is c.in_ok-lines.lines.items c.sort_by_key.new.self.items
    (IsNonDecreasingBy-from_sort_by_key own_line _ c.in-Ok.ensures.sorted (λ a r q k. search rules))
    (c.in-Ok.ensures.stable own_line (answers_always _ _ _ (λ f a r g h. search rules)))
    ∙ ap ordered c.in_ok-lines.ensures
