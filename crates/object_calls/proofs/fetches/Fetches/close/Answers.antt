use Rattle.std.proofs.Common.{ℕ, List, ap, sym, ◌∙◌}
use Rattle.object_calls.specs.Numbered.{Numbered, under, others}
use Rattle.object_calls.specs.Fetched.{Asker}
use Rattle.object_calls.proofs.Numbers.{find_under, out_others}
use Rattle.object_calls.proofs.Indexed.{indexed_out}
use Rattle.object_calls.proofs.fetches.Fetches.close.Goals as goal

pub returns-in_err-slot-clause-fetch : goal.returns-in_err-slot-clause-fetch
returns-in_err-slot-clause-fetch c =
    c.from_residual.ensures
    ∙ c.in_err-slot.ensures.value
    ∙ find_under c.args.k c.self.inside.waiting.entries
    ∙ ap (λ (w : Numbered Asker). under c.args.k w.waiting) c.self.view_is

pub returns-in_err-slot-clause-others : goal.returns-in_err-slot-clause-others
returns-in_err-slot-clause-others c =
    let make : List (ℕ × Asker) → Numbered Asker = λ l. record { made = c.self.inside.issued; waiting = l } in
    let fewer : Numbered Asker → Numbered Asker = λ w. record { made = w.made; waiting = others c.args.k w.waiting } in
    ap make (c.remove.ensures.entries ∙ out_others c.args.k c.self.inside.waiting.entries) ∙ ap fewer c.self.view_is

pub invariant_of-self-2 : goal.invariant_of-self-2
invariant_of-self-2 c =
    indexed_out (c.in_ok-slot.slot, c.in_ok-slot.incarnation, c.in_ok-slot.number) c.self.inside.issued c.self.inside.waiting c.remove.new.self c.self.inside.by_object c.remove-2.new.self c.self.invariant
    c.args.k (sym c.in_ok-slot.ensures.value) c.remove.ensures.updates c.remove.ensures.entries c.remove-2.ensures.updates

pub returns-clause-fetch : goal.returns-clause-fetch
returns-clause-fetch c =
    c.in_ok-slot.ensures.value
    ∙ find_under c.args.k c.self.inside.waiting.entries
    ∙ ap (λ (w : Numbered Asker). under c.args.k w.waiting) c.self.view_is

pub returns-clause-others : goal.returns-clause-others
returns-clause-others c =
    let make : List (ℕ × Asker) → Numbered Asker = λ l. record { made = c.self.inside.issued; waiting = l } in
    let fewer : Numbered Asker → Numbered Asker = λ w. record { made = w.made; waiting = others c.args.k w.waiting } in
    ap make (c.remove.ensures.entries ∙ out_others c.args.k c.self.inside.waiting.entries) ∙ ap fewer c.self.view_is
