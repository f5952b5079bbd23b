use Rattle.std.proofs.Common.{ℕ, List, ap, sym, subst, ◌∙◌}
use Rattle.std.specs.Ordering.{nat_cmp}
use Rattle.std.specs.BTreeMap.{is_at}
use Rattle.object_calls.specs.Numbered.{Numbered, AreAtMost, under, others}
use Rattle.object_calls.proofs.Numbers.{find_under, out_others, at_most_others}
use Rattle.object_calls.proofs.waiting.Waiting.remove.Goals as goal

pub invariant_of-self : goal.invariant_of-self
invariant_of-self c =
    subst (λ (l : List (ℕ × ℕ)). AreAtMost c.self.inside.made l) (sym c.remove.ensures.entries)
    (at_most_others (is_at (nat_cmp c.args.number)) c.self.inside.made c.self.inside.tasks.entries c.self.invariant)

pub returns-clause-task : goal.returns-clause-task
returns-clause-task c =
    c.remove.ensures.value
    ∙ find_under c.args.number c.self.inside.tasks.entries
    ∙ ap (λ (w : Numbered ℕ). under c.args.number w.waiting) c.self.view_is

pub returns-clause-others : goal.returns-clause-others
returns-clause-others c =
    let make : List (ℕ × ℕ) → Numbered ℕ = λ l. record { made = c.self.inside.made; waiting = l } in
    let fewer : Numbered ℕ → Numbered ℕ = λ w. record { made = w.made; waiting = others c.args.number w.waiting } in
    ap make (c.remove.ensures.entries ∙ out_others c.args.number c.self.inside.tasks.entries) ∙ ap fewer c.self.view_is
