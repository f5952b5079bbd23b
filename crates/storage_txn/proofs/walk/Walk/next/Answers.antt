use Rattle.std.proofs.Common.{ℕ, List, Option, sym, ap, ◌∙◌}
use Rattle.std.specs.Borrow.{Bor}
use Rattle.std.specs.Prelude.{option_map}
use Rattle.storage_txn.proofs.Passing.{left_none}
use Rattle.storage_txn.proofs.walk.Walk.next.Goals as goal

pub returns-clause-next : goal.returns-clause-next
returns-clause-next c =
    let none = left_none c.loop-key.self c.loop-key.invariant.walk (sym c.nearest.ensures ∙ ap (λ (found : Option (Bor (List ℕ))). option_map (λ key. key.now) found) c.in_default.is) in
    (sym c.loop-key.invariant.same ∙ none, none)
