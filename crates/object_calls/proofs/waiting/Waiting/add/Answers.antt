use Rattle.std.proofs.Common.{◌≡◌, ◌+◌, ◌++◌, ◌∷◌, [], ◌<◌, None, Some, ℕ, List, ap, sym, subst, ◌∙◌, arith}
use Rattle.object_calls.specs.Numbered.{Numbered, AreAtMost, under}
use Rattle.object_calls.proofs.Numbers.{put_last, none_under, last_under, at_most_more}
use Rattle.object_calls.proofs.waiting.Waiting.add.Goals as goal

pub returns-then-self-clause-fresh : goal.returns-then-self-clause-fresh
returns-then-self-clause-fresh c =
    subst (λ (w : Numbered ℕ). under (w.made + 1) w.waiting ≡ None) c.self.view_is
    (none_under (c.self.inside.made + 1) c.self.inside.made c.self.inside.tasks.entries c.self.invariant (omega arith))

pub invariant_of-self : goal.invariant_of-self
invariant_of-self c =
    let all = c.in-Ok.ensures.entries ∙ put_last (c.self.inside.made + 1) c.args.task c.self.inside.made c.self.inside.tasks.entries c.self.invariant (omega arith) in
    subst (λ (l : List (ℕ × ℕ)). AreAtMost (c.self.inside.made + 1) l) (sym all) (at_most_more c.self.inside.made c.args.task c.self.inside.tasks.entries c.self.invariant)

pub returns-in-Ok-clause-added : goal.returns-in-Ok-clause-added
returns-in-Ok-clause-added c =
    let all = c.in-Ok.ensures.entries ∙ put_last (c.self.inside.made + 1) c.args.task c.self.inside.made c.self.inside.tasks.entries c.self.invariant (omega arith) in
    let make : List (ℕ × ℕ) → Numbered ℕ = λ l. record { made = c.self.inside.made + 1; waiting = l } in
    let more : Numbered ℕ → Numbered ℕ = λ w. record { made = w.made + 1; waiting = w.waiting ++ (w.made + 1, c.args.task) ∷ [] } in
    ap make all ∙ ap more c.self.view_is

pub returns-in-Ok-clause-fresh : goal.returns-in-Ok-clause-fresh
returns-in-Ok-clause-fresh c =
    subst (λ (w : Numbered ℕ). under (w.made + 1) w.waiting ≡ None) c.self.view_is
    (none_under (c.self.inside.made + 1) c.self.inside.made c.self.inside.tasks.entries c.self.invariant (omega arith))

pub returns-in-Ok-clause-there : goal.returns-in-Ok-clause-there
returns-in-Ok-clause-there c =
    let all = c.in-Ok.ensures.entries ∙ put_last (c.self.inside.made + 1) c.args.task c.self.inside.made c.self.inside.tasks.entries c.self.invariant (omega arith) in
    ap (λ (l : List (ℕ × ℕ)). under (c.self.inside.made + 1) l) all
    ∙ last_under (c.self.inside.made + 1) c.self.inside.made c.args.task c.self.inside.tasks.entries c.self.invariant (omega arith)

pub returns-in-Err-clause-fresh : goal.returns-in-Err-clause-fresh
returns-in-Err-clause-fresh c =
    subst (λ (w : Numbered ℕ). under (w.made + 1) w.waiting ≡ None) c.self.view_is
    (none_under (c.self.inside.made + 1) c.self.inside.made c.self.inside.tasks.entries c.self.invariant (omega arith))
