use Rattle.std.proofs.Common.{◌≡◌, ◌≢◌, ℕ, Option, Some, ap, sym, subst, ◌∙◌}
use Rattle.std.specs.Prelude.{MatchOption}
use Rattle.object_calls.specs.Numbered.{Numbered, under}
use Rattle.object_calls.specs.Fetched.{Asker}
use Rattle.object_calls.proofs.Indexed.{none_in_span, found_in_span, least_in_span}
use Rattle.object_calls.proofs.fetches.Fetches.find.Goals as goal

pub returns-in_err-k-clause-found : goal.returns-in_err-k-clause-found
returns-in_err-k-clause-found c =
    let asker : Asker = (c.args.slot, c.args.incarnation, c.args.number) in
    subst (λ (r : Option ℕ). MatchOption r ((k : ℕ) → under k c.args.self.now.waiting ≢ Some asker) (λ k. under k c.args.self.now.waiting ≡ Some asker)) (sym c.from_residual.ensures)
    (λ k h. none_in_span asker c.self.inside.issued c.self.inside.waiting.entries c.self.inside.by_object c.new.result.start c.new.result.end c.range.result c.self.invariant
    c.new.ensures.start c.new.ensures.end (c.range.ensures.in_range c.new.ensures.exhausted) c.in_err-k.ensures.steps.0 k
    (ap (λ (w : Numbered Asker). under k w.waiting) c.self.view_is ∙ h))

pub returns-clause-found : goal.returns-clause-found
returns-clause-found c =
    let asker : Asker = (c.args.slot, c.args.incarnation, c.args.number) in
    sym (ap (λ (w : Numbered Asker). under c.in_ok-k.field-0-0.now.3 w.waiting) c.self.view_is)
    ∙ found_in_span asker c.self.inside.issued c.self.inside.waiting.entries c.self.inside.by_object c.new.result.start c.new.result.end c.in_ok-k.field-0-0.now c.in_ok-k.field-0-1.now c.range.result c.next.new.self c.self.invariant
    c.new.ensures.start c.new.ensures.end (c.range.ensures.in_range c.new.ensures.exhausted) c.in_ok-k.ensures.steps

pub returns-clause-least : goal.returns-clause-least
returns-clause-least c =
    let asker : Asker = (c.args.slot, c.args.incarnation, c.args.number) in
    λ other h. least_in_span asker c.self.inside.issued c.self.inside.waiting.entries c.self.inside.by_object c.new.result.start c.new.result.end c.in_ok-k.field-0-0.now c.in_ok-k.field-0-1.now c.range.result c.next.new.self c.self.invariant
    c.new.ensures.start c.new.ensures.end (c.range.ensures.in_range c.new.ensures.exhausted) c.in_ok-k.ensures.steps other
    (ap (λ (w : Numbered Asker). under other w.waiting) c.self.view_is ∙ h)
