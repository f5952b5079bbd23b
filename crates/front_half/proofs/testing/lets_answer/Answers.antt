use Rattle.std.proofs.Common.{◌∙◌, sym, ap, Bool, not, ◌||◌}
use Rattle.timeline.specs.Eligible.{has_block}
use Rattle.timeline.specs.Object.{task_under}
use Rattle.front_half.proofs.testing.lets_answer.Goals as goal

pub returns-then-is_blocked : goal.returns-then-is_blocked
returns-then-is_blocked g c = λ l ts held.
    c.has_block.ensures l ts held
    ∙ ap (λ (b : Bool). not b || has_block (task_under c.args.number ts)) (sym c.if-is_blocked.true ∙ c.is_blocked.ensures l ts held)

pub returns : goal.returns
returns g c = λ l ts held. ap (λ (b : Bool). not b || has_block (task_under c.args.number ts)) (sym c.if-is_blocked.false ∙ c.is_blocked.ensures l ts held)
