use Rattle.std.proofs.Common.{◌+◌, ◌++◌, ◌∷◌, [], ◌<◌, ℕ, List, ap, sym, ◌∙◌, arith}
use Rattle.object_calls.specs.Numbered.{Numbered}
use Rattle.object_calls.specs.Fetched.{Asker}
use Rattle.object_calls.proofs.Numbers.{put_last}
use Rattle.object_calls.proofs.Indexed.{indexed_added, indexed_back, on_ok, on_err}
use Rattle.object_calls.proofs.fetches.Fetches.issue.Goals as goal

pub invariant_of-self-then-is_err-2 : goal.invariant_of-self-then-is_err-2
invariant_of-self-then-is_err-2 c =
    indexed_back (c.args.slot, c.args.incarnation, c.args.number) c.self.inside.issued c.self.inside.waiting c.insert-2.new.self c.self.inside.by_object c.remove.new.self c.self.invariant
    tt c.insert.new.self
    (on_err c.insert-2.result (sym c.is_err-2.ensures.value ∙ c.if-is_err-2.true) c.insert-2.ensures.err)
    (on_ok c.insert.result (sym c.is_err.ensures.value ∙ c.if-is_err.false) c.insert.ensures.updates)
    c.remove.ensures.updates

pub invariant_of-self-2 : goal.invariant_of-self-2
invariant_of-self-2 c =
    indexed_added (c.args.slot, c.args.incarnation, c.args.number) c.self.inside.issued c.self.inside.waiting c.insert-2.new.self c.self.inside.by_object c.insert.new.self c.self.invariant
    tt (grind (arith, c.self.invariant.small, c.if-self.false))
    (on_ok c.insert-2.result (sym c.is_err-2.ensures.value ∙ c.if-is_err-2.false) c.insert-2.ensures.updates)
    (on_ok c.insert-2.result (sym c.is_err-2.ensures.value ∙ c.if-is_err-2.false) c.insert-2.ensures.entries)
    (on_ok c.insert.result (sym c.is_err.ensures.value ∙ c.if-is_err.false) c.insert.ensures.updates)

pub returns-clause-issued : goal.returns-clause-issued
returns-clause-issued c =
    let asker : Asker = (c.args.slot, c.args.incarnation, c.args.number) in
    let make : List (ℕ × Asker) → Numbered Asker = λ l. record { made = c.self.inside.issued + 1; waiting = l } in
    let more : Numbered Asker → Numbered Asker = λ w. record { made = w.made + 1; waiting = w.waiting ++ (w.made + 1, asker) ∷ [] } in
    let entries = on_ok c.insert-2.result (sym c.is_err-2.ensures.value ∙ c.if-is_err-2.false) c.insert-2.ensures.entries in
    ap make (entries ∙ put_last (c.self.inside.issued + 1) asker c.self.inside.issued c.self.inside.waiting.entries c.self.invariant.numbers (omega arith)) ∙ ap more c.self.view_is
