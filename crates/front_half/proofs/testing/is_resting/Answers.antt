use Rattle.std.proofs.Common.{◌∙◌, ap, ℕ, ◌==◌}
use Rattle.front_half.proofs.Judging.{rest_held}
use Rattle.front_half.proofs.testing.is_resting.Goals as goal

pub returns : goal.returns
returns g c = λ l ts held. ap (λ (n : ℕ). n == 0) c.len.ensures.len ∙ rest_held g.T.Task.seen l c.args.object.now.tasks.entries ts held.tasks
