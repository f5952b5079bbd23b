use Rattle.std.proofs.Common.{ℕ, ap, ◌∙◌}
use Rattle.object_calls.specs.Numbered.{Numbered, under}
use Rattle.object_calls.proofs.Numbers.{find_under}
use Rattle.object_calls.proofs.waiting.Waiting.find.Goals as goal

pub returns : goal.returns
returns c =
    c.copied.ensures
    ∙ c.get.ensures.value
    ∙ find_under c.args.number c.self.inside.tasks.entries
    ∙ ap (λ (w : Numbered ℕ). under c.args.number w.waiting) c.self.view_is
