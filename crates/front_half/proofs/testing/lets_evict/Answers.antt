use Rattle.std.proofs.Common.{◌∙◌, sym, ap, Bool, not, ◌&&◌}
use Rattle.timeline.specs.Eligible.{has_no_task}
use Rattle.front_half.proofs.testing.lets_evict.Goals as goal

pub returns-then-is_blocked : goal.returns-then-is_blocked
returns-then-is_blocked g c = λ l ts held. ap (λ (b : Bool). not b && has_no_task ts) (sym c.if-is_blocked.true ∙ c.is_blocked.ensures l ts held)

pub returns : goal.returns
returns g c = λ l ts held.
    c.is_resting.ensures l ts held ∙ ap (λ (b : Bool). not b && has_no_task ts) (sym c.if-is_blocked.false ∙ c.is_blocked.ensures l ts held)
