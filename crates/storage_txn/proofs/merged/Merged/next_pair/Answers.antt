use Rattle.std.proofs.Common.{ℕ, ◌∷◌, Option, rules, sym, ap, ◌∙◌}
use Rattle.std.specs.Map.Iter.{deref_pair}
use Rattle.storage_map.specs.Readings.{limited}
use Rattle.storage_map.proofs.Lending.{limited_first}
use Rattle.storage_txn.specs.Walked.{left_of}
use Rattle.storage_txn.proofs.merged.Merged.next_pair.Goals as goal

pub returns : goal.returns
returns c =
    let rest = left_of c.next.new.self in
    sym c.self.view_is
    ∙ ap (limited c.self.inside.left) c.in_ok-lent.ensures.next
    ∙ limited_first c.self.inside.left (deref_pair c.in_ok-lent.lent) rest (search rules)
    ∙ ap (λ (left : Option ℕ). deref_pair c.in_ok-lent.lent ∷ limited left rest) (sym c.one_fewer-self-inside.ensures)
